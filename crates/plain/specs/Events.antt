-- Document 01, "Demand 3": the events of the plain run, in order: each operation and each mark that was taken. Definitions only; assumes
-- nothing.
use Rattle.std.specs.Prelude.{List, [], ◌∷◌, ◌++◌, map, ℕ, length, drop}
use Rattle.session.specs.declared.Told.{Told}
use Rattle.records.specs.Records.{RecordMark}
use Rattle.records.specs.Events.{Event, took, noted}
use Rattle.plain.specs.Plain.{Call, Op, Run, step, unrun}

-- what a call added to a run: an operation, a mark, or nothing
abbrev pub added : (before after : Run) → List (Event Op)
added r next = map took (drop (length r.ops) next.ops) ++ map (λ (m : RecordMark). noted m.label) (drop (length r.marks) next.marks)

unfoldable pub events_from : Told → Run → List Call → List (Event Op)
events_from t r [] = []
events_from t r (x ∷ xs) = added r (step t r x) ++ events_from t (step t r x) xs

-- the events of the plain run of a list of calls
abbrev pub events : Told → (media : List ℕ) → List Call → List (Event Op)
events t media xs = events_from t (unrun media) xs
