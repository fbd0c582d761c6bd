-- A point's interruption and progress as numbers, where one crosses to Rust or C. Definitions only; assumes nothing.
use Rattle.std.specs.Prelude.{cond, ℕ, eqb}
use Rattle.inject.specs.declared.Progress.{Progress}
use Rattle.inject.specs.declared.Progress.TheVariants.{None, Bytes, Whole}
use Rattle.inject.specs.declared.Interruption.{Interruption}
use Rattle.inject.specs.declared.Interruption.TheVariants.{PowerLoss, Watchdog, Failure}

-- 0 none, 1 a byte count, any other number whole
abbrev pub progress_of : (kind count : ℕ) → Progress
progress_of kind count = cond (eqb kind 0) None (cond (eqb kind 1) (Bytes count) Whole)

-- 0 power loss, 1 watchdog, any other number failure
abbrev pub interruption_of : ℕ → Interruption
interruption_of cause = cond (eqb cause 0) PowerLoss (cond (eqb cause 1) Watchdog Failure)
