-- Document 01, "session.rs (974)": record marks. Definitions only; assumes nothing.
use Rattle.std.specs.Prelude.{cond, List, [], ◌∷◌, ℕ, ◌+◌, length, eqb}
use Rattle.session.specs.declared.Counters.{Counters}
use Rattle.session.specs.Replies.{Called}
use Rattle.session.specs.Log.{Marks, Mark, mark_of, marked}
use Rattle.session.specs.Tests.{marks_number}

-- what a call that marks leaves: its reply and the marks
pub record Noted : Type 0 where
  pub reply : Called
  pub marks : Marks

abbrev pub noted : Called → Marks → Noted
noted r m = record { reply = r; marks = m }

-- the lengths lent, then 28; "Marks are still taken" by a stopped session, so nothing else refuses
abbrev pub noted_test : Counters → (more : ℕ) → Marks → ℕ
noted_test c more m = marks_number c.marks more (length m.codes) (length m.ids) (length m.places)

-- the counters after so many more marks
abbrev pub noting : Counters → (more : ℕ) → Counters
noting c more = record {
  operations = c.operations;
  marks = c.marks + more;
  stop = c.stop;
  fired = c.fired;
  place = c.place;
  withheld = c.withheld;
}

-- marks stored from the next free index on
unfoldable pub marked_from : Marks → (index : ℕ) → List Mark → Marks
marked_from m index [] = m
marked_from m index (x ∷ xs) = marked_from (marked m index x) (index + 1) xs

-- a call that its tests refuse answers their number and changes nothing; any other answers 0
abbrev pub noted_by : Counters → (more : ℕ) → List Mark → Marks → Noted
noted_by c more xs m =
    cond (eqb (noted_test c more m) 0) (noted (record { answer = 0; counters = noting c more }) (marked_from m c.marks xs))
    (noted (record { answer = noted_test c more m; counters = c }) m)

-- `begin`: an id, at the operation count
abbrev pub begun : Counters → (id : ℕ) → Marks → Noted
begun c id m = noted_by c 1 (mark_of 1 id c.operations ∷ []) m

-- `end`
abbrev pub ended : Counters → Marks → Noted
ended c m = noted_by c 1 (mark_of 0 0 c.operations ∷ []) m

-- "a range may also be marked afterwards (`mark_operations`)": an id from one operation count, and "end" at another
abbrev pub range_marked : Counters → (id from to : ℕ) → Marks → Noted
range_marked c id from to m = noted_by c 2 (mark_of 1 id from ∷ mark_of 0 0 to ∷ []) m
