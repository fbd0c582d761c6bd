-- No refusal has the number 0. Assumes nothing.
use mathlib.Core.Path.{◌≡◌}
use native.Mathlib.Nat.{suc-ne-zero}
use Rattle.storage.specs.Nonzero.{error-nonzero}
use Rattle.refusals.specs.declared.Refusal.{Refusal}
use Rattle.refusals.specs.declared.Refusal.TheVariants.{Geometry, MediaLength, MalformedLine, ScriptTooLong, CapacityTooLarge, NoSuchPlace, MalformedColumns, ColumnsTooShort, BitSetWithoutErase, PowerLoss, WatchdogReset, InjectedFailure, WriterFailed, NeverFired, Diverged, TooManyOperations, TooManyMarks}
use Rattle.refusals.specs.Numbers.{number_of}

pub refusal-nonzero : (error : Refusal) → number_of error ≡ 0 → ⊥
refusal-nonzero (Geometry e) z = error-nonzero e z
refusal-nonzero MediaLength z = suc-ne-zero _ z
refusal-nonzero MalformedLine z = suc-ne-zero _ z
refusal-nonzero ScriptTooLong z = suc-ne-zero _ z
refusal-nonzero CapacityTooLarge z = suc-ne-zero _ z
refusal-nonzero NoSuchPlace z = suc-ne-zero _ z
refusal-nonzero MalformedColumns z = suc-ne-zero _ z
refusal-nonzero ColumnsTooShort z = suc-ne-zero _ z
refusal-nonzero BitSetWithoutErase z = suc-ne-zero _ z
refusal-nonzero PowerLoss z = suc-ne-zero _ z
refusal-nonzero WatchdogReset z = suc-ne-zero _ z
refusal-nonzero InjectedFailure z = suc-ne-zero _ z
refusal-nonzero WriterFailed z = suc-ne-zero _ z
refusal-nonzero NeverFired z = suc-ne-zero _ z
refusal-nonzero Diverged z = suc-ne-zero _ z
refusal-nonzero TooManyOperations z = suc-ne-zero _ z
refusal-nonzero TooManyMarks z = suc-ne-zero _ z
