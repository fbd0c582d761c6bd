-- A refusal is told by its number.
--     refusal_of, number-refusal    the refusal with a number
--     one_refusal                   no two refusals share a number
-- Assumes nothing.
use mathlib.Core.Path.{◌≡◌, refl, sym, ap, ◌∙◌}
use mathlib.Core.Bool.{cond}
use Prim.Native.Nat.{ℕ}
use lib.Dec.{eqb}
use Rattle.storage.specs.declared.GeometryError.TheVariants.{ZeroUnit, UnitIsNotAPowerOfTwo, UnitsDoNotNest, MisalignedOffset, MisalignedLength, OutOfBounds}
use Rattle.storage.specs.Answers.{error_of}
use Rattle.refusals.specs.declared.Refusal.{Refusal}
use Rattle.refusals.specs.declared.Refusal.TheVariants.{Geometry, MediaLength, MalformedLine, ScriptTooLong, CapacityTooLarge, NoSuchPlace, MalformedColumns, ColumnsTooShort, BitSetWithoutErase, PowerLoss, WatchdogReset, InjectedFailure, WriterFailed, NeverFired, Diverged, TooManyOperations, TooManyMarks}
use Rattle.refusals.specs.Numbers.{number_of}

-- the refusal with a number; 1 to 6 are the geometry's
abbrev pub refusal_of : ℕ → Refusal
refusal_of n =
    cond (eqb n 7) MediaLength (cond (eqb n 8) MalformedLine (cond (eqb n 9) ScriptTooLong (cond (eqb n 10) CapacityTooLarge (cond (eqb n 11) NoSuchPlace (cond (eqb n 12) MalformedColumns (cond (eqb n 13) ColumnsTooShort (cond (eqb n 20) BitSetWithoutErase (cond (eqb n 21) PowerLoss (cond (eqb n 22) WatchdogReset (cond (eqb n 23) InjectedFailure (cond (eqb n 24) WriterFailed (cond (eqb n 25) NeverFired (cond (eqb n 26) Diverged (cond (eqb n 27) TooManyOperations (cond (eqb n 28) TooManyMarks (Geometry (error_of n)))))))))))))))))

pub number-refusal : (r : Refusal) → refusal_of (number_of r) ≡ r
number-refusal (Geometry ZeroUnit) = refl
number-refusal (Geometry UnitIsNotAPowerOfTwo) = refl
number-refusal (Geometry UnitsDoNotNest) = refl
number-refusal (Geometry MisalignedOffset) = refl
number-refusal (Geometry MisalignedLength) = refl
number-refusal (Geometry OutOfBounds) = refl
number-refusal MediaLength = refl
number-refusal MalformedLine = refl
number-refusal ScriptTooLong = refl
number-refusal CapacityTooLarge = refl
number-refusal NoSuchPlace = refl
number-refusal MalformedColumns = refl
number-refusal ColumnsTooShort = refl
number-refusal BitSetWithoutErase = refl
number-refusal PowerLoss = refl
number-refusal WatchdogReset = refl
number-refusal InjectedFailure = refl
number-refusal WriterFailed = refl
number-refusal NeverFired = refl
number-refusal Diverged = refl
number-refusal TooManyOperations = refl
number-refusal TooManyMarks = refl

-- no two refusals share a number
pub one_refusal : (e f : Refusal) → number_of e ≡ number_of f → e ≡ f
one_refusal e f h = sym (number-refusal e) ∙ ap refusal_of h ∙ number-refusal f
