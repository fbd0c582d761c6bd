-- Rows in turn through a session: stopping at the first error, or carrying on. Definitions only; assumes nothing.
use Rattle.std.specs.Prelude.{Bool, true, false, ◌||◌, cond, List, [], ◌∷◌, ℕ, zero, suc, min, length, get_or, eqb}
use Rattle.std.proofs.lemmas.List.Edits.{sets}
use Rattle.session.specs.declared.Told.{Told}
use Rattle.session.specs.Log.{Log, Marks}
use Rattle.threaded.specs.Threaded.{Session, Answered}
use Rattle.script.specs.Columns.{Columns}
use Rattle.steps.specs.declared.Row.{Row}
use Rattle.steps.specs.Step.{session_of, Task, task_from, step_answered}
use Rattle.runner.specs.declared.Ended.{Ended}

-- the row of five numbers
abbrev pub row_from : (kind first second third start : ℕ) → Row
row_from k a b c s = record { kind = k; first = a; second = b; third = c; start = s }

-- the row at a place of the columns
abbrev pub row_in : Columns → (at : ℕ) → Row
row_in k i = row_from (get_or k.kinds i 0) (get_or k.firsts i 0) (get_or k.seconds i 0) (get_or k.thirds i 0) (get_or k.starts i 0)

-- as many rows as were counted and as all five columns have
abbrev pub there : (rows : ℕ) → Columns → ℕ
there rows k =
    min (min (min rows (length k.kinds)) (min (length k.firsts) (length k.seconds))) (min (length k.thirds) (length k.starts))

-- what a row asks for
abbrev pub task_of : (pool : List ℕ) → Row → Task
task_of pool r = task_from r.kind r.first r.second r.third r.start pool

-- the first n rows, as far as all columns reach
unfoldable pub tasks_of : ℕ → (kinds firsts seconds thirds starts pool : List ℕ) → List Task
tasks_of zero ks xs bs cs ss pool = []
tasks_of (suc n) [] xs bs cs ss pool = []
tasks_of (suc n) (k ∷ ks) [] bs cs ss pool = []
tasks_of (suc n) (k ∷ ks) (a ∷ xs) [] cs ss pool = []
tasks_of (suc n) (k ∷ ks) (a ∷ xs) (b ∷ bs) [] ss pool = []
tasks_of (suc n) (k ∷ ks) (a ∷ xs) (b ∷ bs) (c ∷ cs) [] pool = []
tasks_of (suc n) (k ∷ ks) (a ∷ xs) (b ∷ bs) (c ∷ cs) (s ∷ ss) pool = task_of pool (row_from k a b c s) ∷ tasks_of n ks xs bs cs ss pool

abbrev pub tasks_in : ℕ → Columns → List Task
tasks_in n k = tasks_of n k.kinds k.firsts k.seconds k.thirds k.starts k.pool

-- the answers of the rows that were run, the session after them, and whether they ended at an error
pub record Outcome : Type 0 where
  pub answers : List ℕ
  pub session : Session
  pub failed : Bool

-- a row and those after it: an answer other than 0 is an error, at which a run that does not carry on ends
abbrev pub turned : (carries : Bool) → Answered → (rest : Outcome) → Outcome
turned carries a rest =
    cond (eqb a.answer 0 || carries) (record { answers = a.answer ∷ rest.answers; session = rest.session; failed = rest.failed })
    (record { answers = a.answer ∷ []; session = a.session; failed = true })

unfoldable pub ran_rows : Told → (carries : Bool) → Session → List Task → Outcome
ran_rows t carries s [] = record { answers = []; session = s; failed = false }
ran_rows t carries s (x ∷ xs) = turned carries (step_answered t s x) (ran_rows t carries (step_answered t s x).session xs)

-- what is left behind: the session, how the rows ended, how many were run, and the column of answers
pub record Leaves : Type 0 where
  pub session : Session
  pub failed : Bool
  pub done : ℕ
  pub answers : List ℕ

abbrev pub left_of : Ended → (answers media copy : List ℕ) → Log → Marks → Leaves
left_of e a d k l m = record { session = session_of e.counters d k l m; failed = e.failed; done = e.done; answers = a }

-- the answers are stored from the column's first place on, as far as it reaches
abbrev pub leaves : Outcome → (column : List ℕ) → Leaves
leaves w column = record { session = w.session; failed = w.failed; done = length w.answers; answers = sets column 0 w.answers }
