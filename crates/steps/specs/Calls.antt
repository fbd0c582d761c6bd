-- Document 01, "Demand 3": a script's lines as calls of the plain run. Definitions only; assumes nothing.
use Rattle.std.specs.Prelude.{Bool, true, false, List, [], ◌∷◌}
use Rattle.records.specs.Records
use Rattle.plain.specs.Plain
use Rattle.script.specs.Calls.{Call, begin, end, mark, program, erase, barrier}

-- no line marks a range: the plain run has no such call
unfoldable pub no_range : List Call → Bool
no_range [] = true
no_range (begin id ∷ xs) = no_range xs
no_range (end ∷ xs) = no_range xs
no_range (mark id from to ∷ xs) = false
no_range (program offset bytes ∷ xs) = no_range xs
no_range (erase offset count ∷ xs) = no_range xs
no_range (barrier ∷ xs) = no_range xs

-- the calls of the lines; a range, which `no_range` excludes, has none
unfoldable pub plain_calls : List Call → List Plain.Call
plain_calls [] = []
plain_calls (begin id ∷ xs) = Plain.mark (Records.begin id) ∷ plain_calls xs
plain_calls (end ∷ xs) = Plain.mark Records.end ∷ plain_calls xs
plain_calls (mark id from to ∷ xs) = plain_calls xs
plain_calls (program offset bytes ∷ xs) = Plain.act (Plain.program offset bytes) ∷ plain_calls xs
plain_calls (erase offset count ∷ xs) = Plain.act (Plain.erase offset count) ∷ plain_calls xs
plain_calls (barrier ∷ xs) = Plain.act Plain.barrier ∷ plain_calls xs
