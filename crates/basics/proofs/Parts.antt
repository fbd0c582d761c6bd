-- A part of a list, and a list with f done to a part of it, whatever f does there.
--     part-lent, part-back         what a callee that was lent `&mut xs[offset..offset + n]` saw, and what it left, said of the list
--     on_in, on_out                the part is all there, or it is not
--     length-on                    the list keeps its length
--     before-part, after-part      what lies outside the part is as it was
--     at_part                      the part is what f makes of it
--     on-twice                     what is done next on the same part sees what was done there
-- Assumes nothing.
use mathlib.Core.Path.{◌≡◌, sym, ap, ap₂, ◌∙◌}
use mathlib.Core.Logic.{⊎_elim}
use mathlib.Core.List.{List, ◌++◌, append_assoc}
use Prim.Native.Nat.{ℕ, ◌+◌, ◌-◌, ◌≤◌, ◌<◌}
use native.Mathlib.Omega.{arith}
use lib.ListN.{length, take, drop, length-append, length-drop, take-append-drop}
use lib.Seq.{length-take-le, take-append-le, drop-append-le, drop-append-add, take_at, drop_at, drop-drop}
use borrow.Author.Tests.{le-leb, lt-leb}
use borrow.Rule.Slice.PartMut.{put_mid}
use Rattle.basics.specs.Parts.{part, overlaid, on_part}
use Rattle.basics.proofs.Tests.{le-or-gt}

-- ---- a part that lies within the list

module _ {A : Type 0} (xs : List A) (offset n : ℕ) (fits : offset + n ≤ length xs) where
  pub length_part : length (part xs offset n) ≡ n
  unfolding part
  length_part = length-take-le n (drop offset xs) (rw length-drop (omega arith))

  -- a lent part as the code counts it
  pub part-lent : take (offset + n - offset) (drop offset xs) ≡ part xs offset n
  unfolding part
  part-lent = let e : offset + n - offset ≡ n = omega arith in rw e

  -- the list in three
  pub in_three : xs ≡ take offset xs ++ (part xs offset n ++ drop (offset + n) xs)
  unfolding part
  in_three = sym (rw (← drop-drop n offset xs, take-append-drop n (drop offset xs)) (take-append-drop offset xs))

  -- a lent part comes back
  pub part-back : (new : List A) → length new ≡ n → put_mid offset (offset + n - offset) xs new ≡ overlaid xs offset new
  unfolding overlaid
  part-back new l =
      let e : offset + (offset + n - offset) ≡ offset + length new = omega arith in
      rw (drop-drop (offset + n - offset) offset xs, e)

-- ---- parts of lists that are put together

part-front : {A : Type 0} (h x y : List A) (o k : ℕ) → o + k ≤ length h → part (h ++ x) o k ≡ part (h ++ y) o k
unfolding part
part-front h x y o k l =
    let d : k ≤ length (drop o h) = rw length-drop (omega arith) in
    let e : o ≤ length h = omega arith in
    rw (drop-append-le o h x e, drop-append-le o h y e, take-append-le k (drop o h) x d, take-append-le k (drop o h) y d)

drop_past : {A : Type 0} (a x : List A) (o : ℕ) → length a ≤ o → drop o (a ++ x) ≡ drop (o - length a) x
drop_past a x o q =
    let s : o ≡ length a + (o - length a) = omega arith in
    ap (λ (m : ℕ). drop m (a ++ x)) s ∙ drop-append-add a x (o - length a)

part-behind : {A : Type 0} (h g x : List A) (o k : ℕ) → length h ≡ length g → length h ≤ o → part (h ++ x) o k ≡ part (g ++ x) o k
unfolding part
part-behind h g x o k e l =
    ap (take k) (drop_past h x o (omega arith) ∙ ap (λ (m : ℕ). drop (o - m) x) e ∙ sym (drop_past g x o (omega arith)))

-- ---- f done to a part

module _ {A : Type 0} (xs : List A) (offset n : ℕ) (f : List A → List A) where
  pub on_in : offset + n ≤ length xs → on_part xs offset n f ≡ overlaid xs offset (f (part xs offset n))
  unfolding on_part
  on_in h = rw (le-leb _ _ h)

  pub on_out : length xs < offset + n → on_part xs offset n f ≡ xs
  unfolding on_part
  on_out h = rw (lt-leb _ _ h)

  -- f keeps the number of elements
  module _ (keeps : (old : List A) → length old ≡ n → length (f old) ≡ n) where
    length-new : offset + n ≤ length xs → length (f (part xs offset n)) ≡ n
    length-new h = keeps (part xs offset n) (length_part xs offset n h)

    pub length-on : length (on_part xs offset n f) ≡ length xs
    unfolding overlaid
    length-on =
        ⊎_elim
        (λ h. ap length (on_in h)
        ∙ length-append (take offset xs) (f (part xs offset n) ++ drop (offset + length (f (part xs offset n))) xs)
        ∙ simp (length-append, length-new h, length-take-le offset xs (omega arith), length-drop) (omega arith))
        (λ h. ap length (on_out h)) (le-or-gt (offset + n) (length xs))

    pub before-part : (o k : ℕ) → o + k ≤ offset → part (on_part xs offset n f) o k ≡ part xs o k
    unfolding overlaid
    before-part o k h =
        ⊎_elim
        (λ w. ap (λ (m : List A). part m o k) (on_in w)
        ∙ part-front (take offset xs) (f (part xs offset n) ++ drop (offset + length (f (part xs offset n))) xs) (drop offset xs) o k
        (rw (length-take-le offset xs (omega arith)) h)
        ∙ ap (λ (m : List A). part m o k) (take-append-drop offset xs))
        (λ w. ap (λ (m : List A). part m o k) (on_out w)) (le-or-gt (offset + n) (length xs))

    pub after-part : (o k : ℕ) → offset + n ≤ o → part (on_part xs offset n f) o k ≡ part xs o k
    unfolding overlaid
    after-part o k h =
        ⊎_elim
        (λ w.
        let head = take offset xs in
        let tail = drop (offset + n) xs in
        let old = part xs offset n in
        let lh : length head ≡ offset = length-take-le offset xs (omega arith) in
        let ln : length (f old) ≡ n = length-new w in
        let lo : length old ≡ n = length_part xs offset n w in
        ap (λ (m : List A). part m o k) (on_in w ∙ rw ln (sym (append_assoc head (f old) tail)))
        ∙ part-behind (head ++ f old) (head ++ old) tail o k (simp (length-append, ln, lo)) (simp (length-append, ln, lh) h)
        ∙ ap (λ (m : List A). part m o k) (append_assoc head old tail ∙ sym (in_three xs offset n w)))
        (λ w. ap (λ (m : List A). part m o k) (on_out w)) (le-or-gt (offset + n) (length xs))

    pub at_part : offset + n ≤ length xs → part (on_part xs offset n f) offset n ≡ f (part xs offset n)
    unfolding overlaid part
    at_part h =
        let new = f (part xs offset n) in
        let tail = drop (offset + length new) xs in
        ap (λ (m : List A). part m offset n) (on_in h)
        ∙ ap (take n) (drop_at (take offset xs) (new ++ tail) offset (length-take-le offset xs (omega arith)))
        ∙ take_at new tail n (length-new h)

-- ---- a part that is replaced twice

overlaid-twice : {A : Type 0} (xs : List A) (offset : ℕ) (a b : List A) → offset + length a ≤ length xs → length b ≡ length a
    → overlaid (overlaid xs offset a) offset b ≡ overlaid xs offset b
unfolding overlaid
overlaid-twice xs offset a b h e =
    let head = take offset xs in
    let tail = drop (offset + length a) xs in
    let lh : length head ≡ offset = length-take-le offset xs (omega arith) in
    let la : length (head ++ a) ≡ offset + length a = simp (length-append, lh) in
    let t : take offset (head ++ (a ++ tail)) ≡ head = take_at head (a ++ tail) offset lh in
    let d : drop (offset + length a) (head ++ (a ++ tail)) ≡ tail = rw (← append_assoc head a tail) (drop_at (head ++ a) tail (offset + length a) la) in
    rw (e, t, d)

pub on-twice : {A : Type 0} (xs : List A) (offset n : ℕ) (f g : List A → List A)
    → ((old : List A) → length old ≡ n → length (f old) ≡ n) → ((old : List A) → length old ≡ n → length (g old) ≡ n)
    → on_part (on_part xs offset n f) offset n g ≡ on_part xs offset n (λ old. g (f old))
on-twice {A} xs offset n f g kf kg =
    ⊎_elim
    (λ w.
    let once = on_part xs offset n f in
    let new = f (part xs offset n) in
    let ln : length new ≡ n = kf (part xs offset n) (length_part xs offset n w) in
    let lg : length (g new) ≡ n = kg new ln in
    let w' : offset + n ≤ length once = rw (length-on xs offset n f kf) w in
    let w'' : offset + length new ≤ length xs = rw ln w in
    on_in once offset n g w'
    ∙ ap₂ (λ (m c : List A). overlaid m offset (g c)) (on_in xs offset n f w) (at_part xs offset n f kf w)
    ∙ overlaid-twice xs offset new (g new) w'' (lg ∙ sym ln)
    ∙ sym (on_in xs offset n (λ old. g (f old)) w))
    (λ w. ap (λ (m : List A). on_part m offset n g) (on_out xs offset n f w) ∙ on_out xs offset n g w ∙ sym (on_out xs offset n (λ old. g (f old)) w))
    (le-or-gt (offset + n) (length xs))
