-- Document 01, "session.rs (974)": "The ending of an armed operation is read from a fixed table, by interruption and completion".
-- Definitions only; assumes nothing.
use Rattle.std.specs.Prelude.{Bool, true, false, ℕ}
use Rattle.basics.specs.Replies.{number_in}
use Rattle.refusals.specs.Numbers.{number_of}
use Rattle.inject.specs.declared.Interruption.{Interruption}
use Rattle.inject.specs.declared.Interruption.TheVariants.{PowerLoss, Watchdog, Failure}
use Rattle.landing.specs.declared.Stop.{Stop}
use Rattle.landing.specs.declared.Stop.TheVariants.{Running, PowerLost, CoreReset}
use Rattle.landing.specs.declared.Ending.{Ending as Ended}

-- how an armed operation ends: the number that it answers, and the stop that it leaves
pub record Ending : Type 0 where
  pub answer : ℕ
  pub stop : Stop

-- the code's value, with the number of its answer
abbrev pub ended_as : Ended → Ending
ended_as e = record { answer = number_in number_of e.answer; stop = e.stop }

-- the table: not completed (false), completed (true)
abbrev pub ending_of : Interruption → (completed : Bool) → Ending
ending_of PowerLoss false = record { answer = 21; stop = PowerLost }
ending_of PowerLoss true = record { answer = 0; stop = PowerLost }
ending_of Watchdog false = record { answer = 22; stop = CoreReset }
ending_of Watchdog true = record { answer = 22; stop = CoreReset }
ending_of Failure false = record { answer = 23; stop = Running }
ending_of Failure true = record { answer = 23; stop = Running }

-- "stopped": the number that a later call answers, 0 while the session runs
abbrev pub stop_number : Stop → ℕ
stop_number Running = 0
stop_number PowerLost = 21
stop_number CoreReset = 22

-- where the code's table has each ending
abbrev pub row_of : Interruption → (completed : Bool) → ℕ
row_of PowerLoss false = 0
row_of PowerLoss true = 1
row_of Watchdog false = 2
row_of Watchdog true = 3
row_of Failure false = 4
row_of Failure true = 5
