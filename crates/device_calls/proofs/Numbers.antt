-- The paper's numbers and the answers' cases are the same thing told twice.
--     small-geometry     no check of the geometry answers with a number above 6
--     fault-numbered, number-fault    the fault with a number, and the number of a fault
--     one_fault          no two faults share a number, so an answer is told by its number
-- Assumes nothing.
use mathlib.Core.Path.{◌≡◌, refl, sym, ap, ◌∙◌}
use Prim.Native.Nat.{ℕ, ◌≤◌, ◌<◌}
use native.Mathlib.Omega.{arith}
use borrow.Author.Tests.{ne_eqb}
use Rattle.storage.specs.declared.Geometry.{Geometry}
use Rattle.storage.specs.declared.GeometryError.TheVariants.{ZeroUnit, UnitIsNotAPowerOfTwo, UnitsDoNotNest, MisalignedOffset, MisalignedLength, OutOfBounds}
use Rattle.storage.specs.Geometry.{geometry_test}
use Rattle.storage.specs.Answers.{error_of}
use Rattle.storage.proofs.Numbers.{numbered, geometry-most}
use Rattle.device_calls.specs.declared.FaultError.{FaultError}
use Rattle.device_calls.specs.declared.FaultError.TheVariants as fault
use Rattle.device_calls.specs.Answers.{number_of_fault, fault_of}

-- ---- how large a number may be

pub small-geometry : (g : Geometry) → geometry_test g ≤ 6
small-geometry g = omega (arith, geometry-most g)

-- ---- a fault's number

-- the numbers 1 to 6 are the geometry's
fault-small : (n : ℕ) → n ≤ 6 → fault_of n ≡ fault.Geometry (error_of n)
fault-small n h =
    simp (ne_eqb n 7 (λ e. omega (arith, e)), ne_eqb n 20 (λ e. omega (arith, e)), ne_eqb n 21 (λ e. omega (arith, e)), ne_eqb n 22 (λ e. omega (arith, e)), ne_eqb n 23 (λ e. omega (arith, e)))

pub fault-numbered : (n : ℕ) → 0 < n → n ≤ 6 → number_of_fault (fault_of n) ≡ n
fault-numbered n h k = rw (fault-small n k) (numbered n h k)

-- and 7 and 20 to 23 the others
pub faults-numbered :
    (number_of_fault (fault_of 7) ≡ 7) × (number_of_fault (fault_of 20) ≡ 20) × (number_of_fault (fault_of 21) ≡ 21)
    × (number_of_fault (fault_of 22) ≡ 22) × (number_of_fault (fault_of 23) ≡ 23)
faults-numbered = (refl, refl, refl, refl, refl)

pub number-fault : (f : FaultError) → fault_of (number_of_fault f) ≡ f
number-fault (fault.Geometry ZeroUnit) = refl
number-fault (fault.Geometry UnitIsNotAPowerOfTwo) = refl
number-fault (fault.Geometry UnitsDoNotNest) = refl
number-fault (fault.Geometry MisalignedOffset) = refl
number-fault (fault.Geometry MisalignedLength) = refl
number-fault (fault.Geometry OutOfBounds) = refl
number-fault fault.MediaLength = refl
number-fault fault.BitSetWithoutErase = refl
number-fault fault.PowerLoss = refl
number-fault fault.WatchdogReset = refl
number-fault fault.InjectedFailure = refl

-- no two faults share a number
pub one_fault : (e f : FaultError) → number_of_fault e ≡ number_of_fault f → e ≡ f
one_fault e f h = sym (number-fault e) ∙ ap fault_of h ∙ number-fault f
