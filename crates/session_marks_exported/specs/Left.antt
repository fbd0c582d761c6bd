-- What an exported call that marks leaves, with the counters as numbers. Definitions only; assumes nothing.
use Rattle.std.specs.Prelude.{List, ℕ}
use Rattle.session.specs.Log.{Marks}
use Rattle.session.specs.Marks.{Noted}
use Rattle.session_numbers.specs.Numbers.{counters_in}

-- a mark or two
pub record MarkLeft : Type 0 where
  pub answer : ℕ
  pub state : List ℕ
  pub marks : Marks

abbrev pub mark_left : (answer : ℕ) (state : List ℕ) → Marks → MarkLeft
mark_left a s m = record { answer = a; state = s; marks = m }

abbrev pub noted_over : (state : List ℕ) → Noted → MarkLeft
noted_over state n = mark_left n.reply.answer (counters_in n.reply.counters state) n.marks
