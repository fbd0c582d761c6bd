-- The calls that columns and pool hold: what later runs go by, with no look at the text.
-- Definitions only; assumes nothing.
use Rattle.std.specs.Prelude.{cond, List, [], ◌∷◌, ℕ, zero, suc, take, drop, eqb}
use Rattle.script.specs.Calls.{Call, begin, end, mark, program, erase, barrier}
use Rattle.script.specs.Columns.{Columns}

-- the call of one row: 0 a program, 1 an erase, 2 a barrier, 3 begin, 4 end, else a range
abbrev pub call_from : (kind first second third start : ℕ) → (pool : List ℕ) → Call
call_from kind first second third start pool =
    cond (eqb kind 0) (program first (take second (drop start pool)))
    (cond (eqb kind 1) (erase first second)
    (cond (eqb kind 2) barrier
    (cond (eqb kind 3) (begin first)
    (cond (eqb kind 4) end (mark first second third)))))

unfoldable pub rows_in : ℕ → (kinds firsts seconds thirds starts pool : List ℕ) → List Call
rows_in zero ks xs bs cs ss pool = []
rows_in (suc n) [] xs bs cs ss pool = []
rows_in (suc n) (k ∷ ks) [] bs cs ss pool = []
rows_in (suc n) (k ∷ ks) (a ∷ xs) [] cs ss pool = []
rows_in (suc n) (k ∷ ks) (a ∷ xs) (b ∷ bs) [] ss pool = []
rows_in (suc n) (k ∷ ks) (a ∷ xs) (b ∷ bs) (c ∷ cs) [] pool = []
rows_in (suc n) (k ∷ ks) (a ∷ xs) (b ∷ bs) (c ∷ cs) (s ∷ ss) pool = call_from k a b c s pool ∷ rows_in n ks xs bs cs ss pool

-- the calls of the first n rows
abbrev pub calls_in : ℕ → Columns → List Call
calls_in n k = rows_in n k.kinds k.firsts k.seconds k.thirds k.starts k.pool
