-- No fault has the number 0. Assumes nothing.
use mathlib.Core.Path.{◌≡◌}
use native.Mathlib.Nat.{suc-ne-zero}
use Rattle.storage.specs.Nonzero.{error-nonzero}
use Rattle.device_calls.specs.declared.FaultError.{FaultError}
use Rattle.device_calls.specs.declared.FaultError.TheVariants.{Geometry, MediaLength, BitSetWithoutErase, PowerLoss, WatchdogReset, InjectedFailure}
use Rattle.device_calls.specs.Answers.{number_of_fault}

pub fault-nonzero : (fault : FaultError) → number_of_fault fault ≡ 0 → ⊥
fault-nonzero (Geometry e) z = error-nonzero e z
fault-nonzero MediaLength z = suc-ne-zero _ z
fault-nonzero BitSetWithoutErase z = suc-ne-zero _ z
fault-nonzero PowerLoss z = suc-ne-zero _ z
fault-nonzero WatchdogReset z = suc-ne-zero _ z
fault-nonzero InjectedFailure z = suc-ne-zero _ z
