-- The AND of two lists of cells, cell by cell.
--     length-anded, get_or-anded     its length and its cells
--     anded-again, anded-within    the same bytes again clear nothing more; nothing is kept that was not there
--     anded-same, anded-append     of a list with itself; of lists that are put together
--     anded-erased                 over erased cells it is the bytes themselves
-- Assumes nothing.
use mathlib.Core.Path.{◌≡◌, refl, sym, ap, ap₂}
use mathlib.Core.List.{List, [], ◌∷◌, ◌++◌, zip_with}
use Prim.Native.Nat.{ℕ, zero, suc, ◌<◌}
use native.Mathlib.Nat.{not-suc-le-zero, le_of_suc-le-suc, suc-ne-zero, suc_inj}
use native.Mathlib.Omega.{arith}
use lib.ListN.{length, get_or, replicate}
use lib.Bits.{bit_and, and_self}
use Rattle.device.specs.Media.{ff, anded}
use Rattle.device.proofs.Ands.{and_again, and-within, and-erased}

pub length-anded : (xs ys : List ℕ) → length xs ≡ length ys → length (anded xs ys) ≡ length xs
unfolding anded zip_with
length-anded [] ys e = refl
length-anded (x ∷ xs) [] e = sym e
length-anded (x ∷ xs) (y ∷ ys) e = ap suc (length-anded xs ys (omega arith))

pub get_or-anded : (xs ys : List ℕ) (i : ℕ) → i < length xs → i < length ys → get_or (anded xs ys) i 0 ≡ bit_and (get_or xs i 0) (get_or ys i 0)
unfolding anded zip_with
get_or-anded [] ys i h k = absurd (not-suc-le-zero h)
get_or-anded (x ∷ xs) [] i h k = absurd (not-suc-le-zero k)
get_or-anded (x ∷ xs) (y ∷ ys) zero h k = refl
get_or-anded (x ∷ xs) (y ∷ ys) (suc i) h k = get_or-anded xs ys i (le_of_suc-le-suc h) (le_of_suc-le-suc k)

pub anded-again : (cells src : List ℕ) → anded (anded cells src) src ≡ anded cells src
unfolding anded zip_with
anded-again [] src = refl
anded-again (x ∷ xs) [] = refl
anded-again (x ∷ xs) (y ∷ ys) = ap₂ (λ (z : ℕ) (zs : List ℕ). z ∷ zs) (and_again x y) (anded-again xs ys)

pub anded-within : (cells src : List ℕ) → anded (anded cells src) cells ≡ anded cells src
unfolding anded zip_with
anded-within [] src = refl
anded-within (x ∷ xs) [] = refl
anded-within (x ∷ xs) (y ∷ ys) = ap₂ (λ (z : ℕ) (zs : List ℕ). z ∷ zs) (and-within x y) (anded-within xs ys)

pub anded-same : (l : List ℕ) → anded l l ≡ l
unfolding anded zip_with
anded-same [] = refl
anded-same (x ∷ xs) = ap₂ (λ (z : ℕ) (zs : List ℕ). z ∷ zs) (and_self x) (anded-same xs)

pub anded-append : (a b x y : List ℕ) → length a ≡ length b → anded (a ++ x) (b ++ y) ≡ anded a b ++ anded x y
unfolding anded zip_with
anded-append [] [] x y e = refl
anded-append [] (b ∷ bs) x y e = absurd (suc-ne-zero (length bs) (sym e))
anded-append (a ∷ us) [] x y e = absurd (suc-ne-zero (length us) e)
anded-append (a ∷ us) (b ∷ bs) x y e = ap (λ (l : List ℕ). bit_and a b ∷ l) (anded-append us bs x y (suc_inj e))

pub anded-erased : (src : List ℕ) → ((i : ℕ) → i < length src → get_or src i 0 < 256) → anded (replicate (length src) ff) src ≡ src
unfolding anded zip_with
anded-erased [] bytes = refl
anded-erased (x ∷ xs) bytes =
    ap₂ (λ (z : ℕ) (zs : List ℕ). z ∷ zs) (and-erased x (bytes 0 (omega arith)))
    (anded-erased xs (λ i h. bytes (suc i) (omega arith)))
