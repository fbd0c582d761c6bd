-- Document 01: "its place among the runs (0 is the fault-free run, then the crash points in order)". Definitions only; assumes nothing.
use Rattle.std.specs.Prelude.{List, ℕ, zero, suc, Result, Ok, Err, None as Nothing, Some as At}
use Rattle.storage.specs.declared.Geometry.{Geometry}
use Rattle.inject.specs.declared.Injection.{Injection}
use Rattle.inject.specs.Answers.{counted, found}
use Rattle.session.specs.Armed.{Armed}

-- what is armed, or the number that refuses the place
abbrev pub Placed : Type 0
Placed = Result Armed ℕ

-- a crash point is armed; a place that is none's is refused
abbrev pub armed_by : Result Injection ℕ → Placed
armed_by (Ok injection) = Ok (At injection)
armed_by (Err number) = Err number

-- nothing is armed in the fault-free run; operations that are none are refused there too
abbrev pub free_by : Result ℕ ℕ → Placed
free_by (Ok points) = Ok Nothing
free_by (Err number) = Err number

-- what is armed in the run at a place
unfoldable pub placed_at : (place : ℕ) → Geometry → (kinds offsets lens : List ℕ) → Placed
placed_at zero g kinds offsets lens = free_by (counted g kinds offsets lens)
placed_at (suc n) g kinds offsets lens = armed_by (found g kinds offsets lens n)
