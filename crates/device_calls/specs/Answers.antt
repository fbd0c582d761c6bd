-- What the device's own calls refuse with: the paper's number of each case, and the case of a number.
-- Definitions only; assumes nothing.
use Rattle.std.specs.Prelude.{cond, ℕ, eqb}
use Rattle.storage.specs.Answers.{number_of, error_of}
use Rattle.device_calls.specs.declared.FaultError.{FaultError}
use Rattle.device_calls.specs.declared.FaultError.TheVariants.{Geometry, MediaLength, BitSetWithoutErase, PowerLoss, WatchdogReset, InjectedFailure}

-- "Where an answer is an enum, a definition gives this paper's number .. for each of its cases."
abbrev pub number_of_fault : FaultError → ℕ
number_of_fault (Geometry error) = number_of error
number_of_fault MediaLength = 7
number_of_fault BitSetWithoutErase = 20
number_of_fault PowerLoss = 21
number_of_fault WatchdogReset = 22
number_of_fault InjectedFailure = 23

-- the fault with a number; `fault-numbered` in proofs/Numbers.antt: its number is n, for each n that is the number of one
abbrev pub fault_of : ℕ → FaultError
fault_of n =
    cond (eqb n 7) MediaLength
    (cond (eqb n 20) BitSetWithoutErase
    (cond (eqb n 21) PowerLoss
    (cond (eqb n 22) WatchdogReset
    (cond (eqb n 23) InjectedFailure
    (Geometry (error_of n))))))
