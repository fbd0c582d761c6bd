-- Columns of codes of which none is above the last with a meaning.
--     set_known, take-known, zeros-known     a store of such a code, the first rows, and columns of zeros
-- Assumes nothing.
use mathlib.Core.Path.{◌≡◌, refl}
use mathlib.Core.Bool.{Bool, true, false}
use mathlib.Core.List.{List, [], ◌∷◌}
use Prim.Native.Nat.{ℕ, zero, suc, zero-le}
use lib.ListN.{take, set, replicate}
use lib.Dec.{leb}
use borrow.Author.Tests.{le-leb, leb-true, lt-ltb}
use native.Mathlib.Omega.{arith}
use Rattle.std.proofs.lemmas.Bool.{and_parts}
use Rattle.basics.specs.Tests.{flag}
use Rattle.inject.specs.Ops.{known}
use Rattle.model.specs.Columns.{all_up_to}

pub set_known : (top : ℕ) (xs : List ℕ) (i v : ℕ) → leb v top ≡ true → all_up_to top xs ≡ true → all_up_to top (set xs i v) ≡ true
unfolding all_up_to
set_known top [] i v k e = refl
set_known top (x ∷ xs) zero v k e = rw k (and_parts (leb x top) (all_up_to top xs) e).1
set_known top (x ∷ xs) (suc i) v k e =
    let p = and_parts (leb x top) (all_up_to top xs) e in
    rw p.0 (set_known top xs i v k p.1)

pub take-known : (top n : ℕ) (xs : List ℕ) → all_up_to top xs ≡ true → all_up_to top (take n xs) ≡ true
unfolding all_up_to
take-known top zero xs e = refl
take-known top (suc n) [] e = refl
take-known top (suc n) (x ∷ xs) e =
    let p = and_parts (leb x top) (all_up_to top xs) e in
    rw p.0 (take-known top n xs p.1)

pub zeros-known : (top n : ℕ) → all_up_to top (replicate n 0) ≡ true
unfolding all_up_to
zeros-known top zero = refl
zeros-known top (suc n) = rw (le-leb 0 top zero-le) (zeros-known top n)

-- an answer of yes or no
pub flag-known : (b : Bool) → leb (flag b) 1 ≡ true
flag-known true = refl
flag-known false = refl

-- kinds of which none is above 2 are known to `inject`
pub kinds-known : (ks : List ℕ) → all_up_to 2 ks ≡ true → known ks ≡ true
unfolding all_up_to known
kinds-known [] e = refl
kinds-known (k ∷ ks) e =
    let p = and_parts (leb k 2) (all_up_to 2 ks) e in
    let a = leb-true k 2 p.0 in
    rw (lt-ltb k 3 (omega arith)) (kinds-known ks p.1)
