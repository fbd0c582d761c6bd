-- One row of a list of calls or of a script: what it does to the session, and its answer. Definitions only; assumes nothing.
use Rattle.std.specs.Prelude.{cond, List, ℕ, leb}
use Rattle.session.specs.declared.Told.{Told}
use Rattle.session.specs.declared.Counters.{Counters}
use Rattle.session.specs.Replies.{Called}
use Rattle.session.specs.Log.{Log, Marks}
use Rattle.script.specs.Calls.{Call}
use Rattle.script.specs.Held.{call_from}
use Rattle.threaded.specs.Threaded.{Session, Answered}
use Rattle.steps.specs.Writer.{line_answered}

-- a session, and a call's answer, by their parts
abbrev pub session_of : Counters → (media copy : List ℕ) → Log → Marks → Session
session_of c d k l m = record { counters = c; media = d; copy = k; log = l; marks = m }

abbrev pub answered_of : Called → (media copy : List ℕ) → Log → Marks → Answered
answered_of r d k l m = record { answer = r.answer; session = session_of r.counters d k l m }

-- what a row asks for: a call, or nothing that has a meaning
pub data Task : Type 0 where
  call : Call → Task
  unknown : Task

unfoldable pub task_from : (kind first second third start : ℕ) → (pool : List ℕ) → Task
task_from kind first second third start pool = cond (leb kind 5) (call (call_from kind first second third start pool)) unknown

-- a call is the line of a script; a kind without a meaning is refused with 12 and changes nothing
unfoldable pub step_answered : Told → Session → Task → Answered
step_answered t s (call x) = line_answered t s x
step_answered t s unknown = record { answer = 12; session = s }
