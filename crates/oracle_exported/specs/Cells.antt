-- The answers about a ledger and the verdicts as cells of a reply: document 01's number, then for each of its values two cells,
-- whether there is one and the value. Definitions only; assumes nothing.
use Rattle.std.specs.Prelude.{Bool, true, false, None as nothing, Some as number, None as Absent, Some as Count, Result, Ok, Err, List, [], ◌∷◌, ◌++◌, map, ℕ, zero, suc}
use Rattle.basics.specs.Replies.{number_in}
use Rattle.model.specs.Answers.{Answer}
use Rattle.oracle.specs.Verdict.{Banks, Verdict, Value, number_of, values_in}

-- a bank count that may be absent is a flag and a number
abbrev pub banks_of : Bool → ℕ → Banks
banks_of false count = Absent
banks_of true count = Count count

-- so is a value that may be missing
abbrev pub cells_of : Value → List ℕ
cells_of nothing = 0 ∷ 0 ∷ []
cells_of (number n) = 1 ∷ n ∷ []

-- the cells of so many values: past the last there is none
abbrev pub value_cells : ℕ → List Value → List ℕ
value_cells zero vs = []
value_cells (suc room) [] = cells_of nothing ++ value_cells room []
value_cells (suc room) (v ∷ vs) = cells_of v ++ value_cells room vs

-- a verdict has up to three values
abbrev pub verdict_cells : Verdict → List ℕ
verdict_cells v = number_in number_of v ∷ value_cells 3 (values_in v)

-- an answer about a ledger has one or none
abbrev pub answer_cells : Answer → List ℕ
answer_cells a = a.number ∷ value_cells 1 (map number a.values)

-- such an answer, by its number or its value
abbrev pub answer_of : Result Value ℕ → Answer
answer_of (Err n) = record { number = n; values = [] }
answer_of (Ok nothing) = record { number = 0; values = [] }
answer_of (Ok (number n)) = record { number = 0; values = n ∷ [] }
