-- Beginnings and rests of parts of the media, of what a program would leave and of erased cells.
--     take_part, drop-part        of a part
--     anded-take, anded-drop      of cells ANDed with bytes
--     ff-take, ff-drop            of erased cells
--     part-overlaid               what was laid over is there
--     overlaid-none               nothing laid over changes nothing
-- Assumes nothing.
use mathlib.Core.Path.{◌≡◌, refl, sym, ap, ◌∙◌}
use mathlib.Core.List.{List, [], ◌∷◌, ◌++◌, zip_with}
use Prim.Native.Nat.{ℕ, zero, suc, ◌+◌, ◌-◌, ◌≤◌}
use native.Mathlib.Nat.{sub-zero, zero-sub, suc-sub-suc, add-zero}
use native.Mathlib.Omega.{arith}
use lib.ListN.{length, take, drop, replicate, length-append, length-take, length-drop, take-append-drop}
use lib.Seq.{take-nil, take-take, drop-drop, take_at, drop_at, length-take-le}
use lib.Bits.{bit_and}
use Rattle.basics.specs.Parts.{part, overlaid}
use Rattle.device.specs.Media.{ff, anded}

drop-take : (n k : ℕ) (l : List ℕ) → drop n (take k l) ≡ take (k - n) (drop n l)
drop-take zero k l = rw sub-zero
drop-take (suc n) zero l = rw zero-sub
drop-take (suc n) (suc k) [] = sym (take-nil (suc k - suc n))
drop-take (suc n) (suc k) (x ∷ l) = drop-take n k l ∙ ap (λ (j : ℕ). take j (drop n l)) (sym (suc-sub-suc k n))

pub take_part : (media : List ℕ) (offset len n : ℕ) → n ≤ len → take n (part media offset len) ≡ part media offset n
unfolding part
take_part media offset len n h = take-take n len (drop offset media) h

pub drop-part : (media : List ℕ) (offset len n : ℕ) → drop n (part media offset len) ≡ part media (offset + n) (len - n)
unfolding part
drop-part media offset len n = drop-take n len (drop offset media) ∙ ap (take (len - n)) (drop-drop n offset media)

pub anded-take : (n : ℕ) (xs ys : List ℕ) → take n (anded xs ys) ≡ anded (take n xs) (take n ys)
unfolding anded zip_with
anded-take zero xs ys = refl
anded-take (suc n) [] ys = refl
anded-take (suc n) (x ∷ xs) [] = refl
anded-take (suc n) (x ∷ xs) (y ∷ ys) = ap {B = List ℕ} (λ r. bit_and x y ∷ r) (anded-take n xs ys)

pub anded-drop : (n : ℕ) (xs ys : List ℕ) → drop n (anded xs ys) ≡ anded (drop n xs) (drop n ys)
unfolding anded zip_with
anded-drop zero xs ys = refl
anded-drop (suc n) [] ys = refl
anded-drop (suc n) (x ∷ xs) [] = none (drop n xs)
  where
    none : (zs : List ℕ) → [] ≡ zip_with bit_and zs []
    none [] = refl
    none (z ∷ zs) = refl
anded-drop (suc n) (x ∷ xs) (y ∷ ys) = anded-drop n xs ys

pub ff-take : (n k : ℕ) → n ≤ k → take n (replicate k ff) ≡ replicate n ff
ff-take zero k h = refl
ff-take (suc n) zero h = absurd (omega arith)
ff-take (suc n) (suc k) h = ap {B = List ℕ} (λ r. ff ∷ r) (ff-take n k (omega arith))

pub ff-drop : (n k : ℕ) → drop n (replicate k ff) ≡ replicate (k - n) ff
ff-drop zero k = rw sub-zero
ff-drop (suc n) zero = rw zero-sub
ff-drop (suc n) (suc k) = ff-drop n k ∙ ap (λ (j : ℕ). replicate j ff) (sym (suc-sub-suc k n))

pub part-overlaid : (xs : List ℕ) (offset : ℕ) (new : List ℕ) (n : ℕ) → offset ≤ length xs → length new ≡ n → part (overlaid xs offset new) offset n ≡ new
unfolding part overlaid
part-overlaid xs offset new n h e =
    rw (drop_at (take offset xs) (new ++ drop (offset + length new) xs) offset (length-take-le offset xs h)) (take_at new (drop (offset + length new) xs) n e)

pub length-overlaid : (xs : List ℕ) (offset : ℕ) (new : List ℕ) → offset + length new ≤ length xs → length (overlaid xs offset new) ≡ length xs
unfolding overlaid
length-overlaid xs offset new h = simp (length-append, length-take, length-drop) (omega arith)

pub overlaid-none : (xs : List ℕ) (offset : ℕ) → overlaid xs offset [] ≡ xs
unfolding overlaid
overlaid-none xs offset = rw add-zero (take-append-drop offset xs)
