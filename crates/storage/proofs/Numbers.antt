-- The paper's numbers and the enum's cases are the same thing told twice.
--     numbered, error-number            each number from 1 to 6 has its error, and each error its number
--     geometry-most, span-most          no test gives more than its highest number
--     one_number                        no two errors share a number, so an answer is told by its number
-- Assumes nothing.
use mathlib.Core.Path.{◌≡◌, refl, sym, ap, ◌∙◌}
use Prim.Native.Nat.{ℕ, zero, suc, ◌≤◌, ◌<◌}
use native.Mathlib.Omega.{arith}
use Rattle.basics.proofs.Tests.{unless-le, refuse-le, first_of-le, first_of-none}
use Rattle.storage.specs.declared.Geometry.{Geometry}
use Rattle.storage.specs.Geometry.{geometry_test}
use Rattle.storage.specs.Span.{span_test}
use Rattle.storage.specs.Answers.{number_of, error_of}
use Rattle.storage.specs.declared.GeometryError.{GeometryError}
use Rattle.storage.specs.declared.GeometryError.TheVariants.{ZeroUnit, UnitIsNotAPowerOfTwo, UnitsDoNotNest, MisalignedOffset, MisalignedLength, OutOfBounds}

-- each number from 1 to 6 has its error
pub numbered : (n : ℕ) → 0 < n → n ≤ 6 → number_of (error_of n) ≡ n
numbered zero h k = absurd (omega arith)
numbered (suc zero) h k = refl
numbered (suc (suc zero)) h k = refl
numbered (suc (suc (suc zero))) h k = refl
numbered (suc (suc (suc (suc zero)))) h k = refl
numbered (suc (suc (suc (suc (suc zero))))) h k = refl
numbered (suc (suc (suc (suc (suc (suc zero)))))) h k = refl
numbered (suc (suc (suc (suc (suc (suc (suc n))))))) h k = absurd (omega arith)

-- and each error its number
pub error-number : (e : GeometryError) → error_of (number_of e) ≡ e
error-number ZeroUnit = refl
error-number UnitIsNotAPowerOfTwo = refl
error-number UnitsDoNotNest = refl
error-number MisalignedOffset = refl
error-number MisalignedLength = refl
error-number OutOfBounds = refl

-- no two errors share a number
pub one_number : (e d : GeometryError) → number_of e ≡ number_of d → e ≡ d
one_number e d h = sym (error-number e) ∙ ap error_of h ∙ error-number d

-- ---- no test gives more than its highest number

pub geometry-most : (g : Geometry) → geometry_test g ≤ 3
unfolding geometry_test
geometry-most g =
    first_of-le _ _ 3 (refuse-le _ 1 3 (omega arith))
    (first_of-le _ _ 3 (refuse-le _ 2 3 (omega arith))
    (first_of-le _ _ 3 (refuse-le _ 3 3 (omega arith))
    (first_of-none 3)))

pub span-most : (g : Geometry) (unit offset len : ℕ) → span_test g unit offset len ≤ 6
unfolding span_test
span-most g unit offset len =
    first_of-le _ _ 6 (omega (arith, geometry-most g))
    (first_of-le _ _ 6 (unless-le _ 4 6 (omega arith))
    (first_of-le _ _ 6 (unless-le _ 5 6 (omega arith))
    (first_of-le _ _ 6 (unless-le _ 6 6 (omega arith))
    (first_of-none 6))))
