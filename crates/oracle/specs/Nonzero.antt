-- No breach has the number 0: that is the number of a verdict that accepts. Assumes nothing.
use mathlib.Core.Path.{◌≡◌}
use native.Mathlib.Nat.{suc-ne-zero}
use Rattle.oracle.specs.declared.Breach.{Breach}
use Rattle.oracle.specs.declared.Breach.TheVariants.{DuplicateRecordId, NotAPrefix, RecoveredWhatWasNeverAttempted, RecoveredATornRecord, LostAnAcknowledgedRecord, DispatchedWithoutADurableIntent, NoAuthoritativeBank, AmbiguousAuthority, Refused}
use Rattle.oracle.specs.Verdict.{number_of}

pub breach-nonzero : (breach : Breach) → number_of breach ≡ 0 → ⊥
breach-nonzero (DuplicateRecordId id) z = suc-ne-zero _ z
breach-nonzero (NotAPrefix position expected found) z = suc-ne-zero _ z
breach-nonzero (RecoveredWhatWasNeverAttempted id) z = suc-ne-zero _ z
breach-nonzero (RecoveredATornRecord id) z = suc-ne-zero _ z
breach-nonzero (LostAnAcknowledgedRecord id) z = suc-ne-zero _ z
breach-nonzero (DispatchedWithoutADurableIntent id) z = suc-ne-zero _ z
breach-nonzero NoAuthoritativeBank z = suc-ne-zero _ z
breach-nonzero (AmbiguousAuthority count) z = suc-ne-zero _ z
breach-nonzero Refused z = suc-ne-zero _ z
