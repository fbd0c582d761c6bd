-- Two works on parts of a list that stand one behind the other are one work on both, whatever each does.
--     part-append     a part in two
--     part-part       a part of a part
--     on-split        f done to the first k elements and then g to the next m is what does both done to k + m
-- Assumes nothing.
use mathlib.Core.Path.{◌≡◌, sym, ap, ap₂, ◌∙◌}
use mathlib.Core.List.{List, ◌++◌, append_assoc}
use Prim.Native.Nat.{ℕ, ◌+◌, ◌-◌, ◌≤◌}
use native.Mathlib.Omega.{arith}
use lib.ListN.{length, take, drop, length-append}
use lib.Seq.{length-take-le, take_at, drop_at, drop-drop, take-add}
use Rattle.basics.specs.Parts.{part, overlaid, on_part}
use Rattle.basics.proofs.Parts.{length_part, on_in, length-on, after-part}

pub part-append : {A : Type 0} (xs : List A) (offset k m : ℕ) → part xs offset (k + m) ≡ part xs offset k ++ part xs (offset + k) m
unfolding part
part-append xs offset k m = take-add k m (drop offset xs) ∙ ap (λ (l : List _). take k (drop offset xs) ++ take m l) (drop-drop k offset xs)

-- a part of a part
pub part-part : {A : Type 0} (xs : List A) (offset n o k : ℕ) → offset + n ≤ length xs → o + k ≤ n → part (part xs offset n) o k ≡ part xs (offset + o) k
unfolding part
part-part xs offset n o k fits h =
    let r = n - o - k in
    let e : n ≡ o + (k + r) = omega arith in
    let first = part xs offset o in
    let second = part xs (offset + o) k in
    let third = part xs (offset + o + k) r in
    let s : part xs offset n ≡ first ++ (second ++ third) =
    ap (part xs offset) e ∙ part-append xs offset o (k + r) ∙ ap (λ (l : List _). first ++ l) (part-append xs (offset + o) k r) in
    rw s (rw (drop_at first (second ++ third) o (length_part xs offset o (omega arith))) (take_at second third k (length_part xs (offset + o) k (omega arith))))

overlaid-next : {A : Type 0} (xs : List A) (offset : ℕ) (a b : List A) → offset + length a ≤ length xs
    → overlaid (overlaid xs offset a) (offset + length a) b ≡ overlaid xs offset (a ++ b)
unfolding overlaid
overlaid-next xs offset a b h =
    let head = take offset xs in
    let tail = drop (offset + length a) xs in
    let lh : length head ≡ offset = length-take-le offset xs (omega arith) in
    let la : length (head ++ a) ≡ offset + length a = simp (length-append, lh) in
    let t : take (offset + length a) (head ++ (a ++ tail)) ≡ head ++ a = rw (← append_assoc head a tail) (take_at (head ++ a) tail (offset + length a) la) in
    let d : drop (offset + length a) (head ++ (a ++ tail)) ≡ tail = rw (← append_assoc head a tail) (drop_at (head ++ a) tail (offset + length a) la) in
    let g : offset + length a + length b ≡ offset + length (a ++ b) = rw (length-append a b) (omega arith) in
    let e : drop (offset + length a + length b) (head ++ (a ++ tail)) ≡ drop (offset + length (a ++ b)) xs =
    sym (drop-drop (length b) (offset + length a) (head ++ (a ++ tail))) ∙ ap (drop (length b)) d ∙ drop-drop (length b) (offset + length a) xs
    ∙ ap (λ (n : ℕ). drop n xs) g in
    rw (t, e) (append_assoc head a (b ++ drop (offset + length (a ++ b)) xs) ∙ ap (λ (l : List _). head ++ l) (sym (append_assoc a b (drop (offset + length (a ++ b)) xs))))

pub on-split : {A : Type 0} (xs : List A) (offset k m : ℕ) (f g h : List A → List A)
    → ((old : List A) → length old ≡ k → length (f old) ≡ k) → ((old : List A) → length old ≡ m → length (g old) ≡ m)
    → ((a b : List A) → length a ≡ k → length b ≡ m → h (a ++ b) ≡ f a ++ g b)
    → offset + (k + m) ≤ length xs
    → on_part (on_part xs offset k f) (offset + k) m g ≡ on_part xs offset (k + m) h
on-split {A} xs offset k m f g h kf kg joins fits =
    let one = on_part xs offset k f in
    let first = part xs offset k in
    let second = part xs (offset + k) m in
    let fk : offset + k ≤ length xs = omega arith in
    let fm : offset + k + m ≤ length xs = omega arith in
    let lf : length (f first) ≡ k = kf first (length_part xs offset k fk) in
    let lo : length one ≡ length xs = length-on xs offset k f kf in
    let seen : part one (offset + k) m ≡ second = after-part xs offset k f kf (offset + k) m (omega arith) in
    on_in one (offset + k) m g (rw lo fm)
    ∙ ap₂ (λ (l s : List A). overlaid l (offset + k) (g s)) (on_in xs offset k f fk) seen
    ∙ ap (λ (n : ℕ). overlaid (overlaid xs offset (f first)) (offset + n) (g second)) (sym lf)
    ∙ overlaid-next xs offset (f first) (g second) (rw lf fk)
    ∙ ap (overlaid xs offset) (sym (joins first second (length_part xs offset k fk) (length_part xs (offset + k) m fm)) ∙ ap h (sym (part-append xs offset k m)))
    ∙ sym (on_in xs offset (k + m) h fits)
