-- Document 01, "Scripts and the two programs": a script's run. "`a` or `r` ..., `s` or `c` (the writer stops at its first error and returns it,
-- or carries on and returns success)". Definitions only; assumes nothing.
use Rattle.std.specs.Prelude.{Bool, true, false, ◌||◌, cond, List, [], ◌∷◌, eqb}
use Rattle.session.specs.declared.Told.{Told}
use Rattle.session.specs.Marks.{begun, ended, range_marked}
use Rattle.session.specs.Barrier.{barriered}
use Rattle.session_erase.specs.Erase.{erase_call}
use Rattle.session_program.specs.Program.{program_call}
use Rattle.threaded.specs.Threaded.{Session, Answered, after_write, after_barrier, after_mark}
use Rattle.script.specs.Calls.{Call, begin, end, mark, program, erase, barrier}

-- what a line does to the session, and its answer
unfoldable pub line_answered : Told → Session → Call → Answered
line_answered t s (begin id) = after_mark s (begun s.counters id s.marks)
line_answered t s end = after_mark s (ended s.counters s.marks)
line_answered t s (mark id from to) = after_mark s (range_marked s.counters id from to s.marks)
line_answered t s (program offset bytes) = after_write s (program_call t s.counters offset bytes s.media s.copy s.log)
line_answered t s (erase offset count) = after_write s (erase_call t s.counters offset count s.media s.copy s.log)
line_answered t s barrier = after_barrier s (barriered t s.counters s.log)

-- the session that a writer leaves, and whether it returned an error
pub record Wrote : Type 0 where
  pub session : Session
  pub failed : Bool

-- the lines in turn: an answer other than 0 is an error, 27 and 28 as any other
unfoldable pub wrote : Told → (carries_on : Bool) → Session → List Call → Wrote
wrote t carries_on s [] = record { session = s; failed = false }
wrote t carries_on s (x ∷ xs) =
    cond (eqb (line_answered t s x).answer 0 || carries_on) (wrote t carries_on (line_answered t s x).session xs)
    (record { session = (line_answered t s x).session; failed = true })
