-- What the lent columns hold, and that they stay the same ones. Definitions only; assumes nothing.
use Rattle.std.specs.Prelude.{◌≡◌}
use Rattle.session.specs.declared.LogMut.{LogMut}
use Rattle.session.specs.declared.LogRef.{LogRef}
use Rattle.session.specs.declared.MarksMut.{MarksMut}
use Rattle.session.specs.declared.MarksRef.{MarksRef}
use Rattle.session.specs.Log.{Log, log_of, Marks, marks_of}

abbrev pub log_in : LogMut → Log
log_in l = log_of l.kinds.now l.offsets.now l.lens.now l.digests.now l.changed.now l.answered.now

abbrev pub log_seen : LogRef → Log
log_seen l = log_of l.kinds.now l.offsets.now l.lens.now l.digests.now l.changed.now l.answered.now

abbrev pub marks_in : MarksMut → Marks
marks_in m = marks_of m.codes.now m.ids.now m.places.now

abbrev pub marks_seen : MarksRef → Marks
marks_seen m = marks_of m.codes.now m.ids.now m.places.now

-- a call leaves the columns the ones that were lent to it, whatever it writes to them
abbrev pub SameLog : (before after : LogMut) → Type 0
SameLog a b =
    (b.kinds.ghost_name ≡ a.kinds.ghost_name)
    × (b.offsets.ghost_name ≡ a.offsets.ghost_name)
    × (b.lens.ghost_name ≡ a.lens.ghost_name)
    × (b.digests.ghost_name ≡ a.digests.ghost_name)
    × (b.changed.ghost_name ≡ a.changed.ghost_name)
    × (b.answered.ghost_name ≡ a.answered.ghost_name)

abbrev pub SameMarks : (before after : MarksMut) → Type 0
SameMarks a b =
    (b.codes.ghost_name ≡ a.codes.ghost_name)
    × (b.ids.ghost_name ≡ a.ids.ghost_name)
    × (b.places.ghost_name ≡ a.places.ghost_name)
