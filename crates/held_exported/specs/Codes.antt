-- The layer `held` with its injection and its answer as numbers. Definitions only; assumes nothing.
use Rattle.std.specs.Prelude.{ℕ, ◌^◌, Result, Ok, Err}
use Rattle.inject.specs.declared.Injection.{Injection}
use Rattle.held.specs.declared.Held.{Held}
use Rattle.held.specs.declared.Held.TheVariants.{Relabelled, Kept}
use Rattle.session_numbers.specs.Numbers.{progress_of, interruption_of}

-- an injection of its index, the kind and the count of its progress, and its interruption
abbrev pub injection_of : (op kind count cause : ℕ) → Injection
injection_of op kind count cause = record { op = op; progress = progress_of kind count; interruption = interruption_of cause }

-- the run itself 0, none the number that refuses it, the fault-free run relabelled a number that no u32 holds
abbrev pub code_of : Result Held ℕ → ℕ
code_of (Ok Kept) = 0
code_of (Ok Relabelled) = 2 ^ 32
code_of (Err number) = number
