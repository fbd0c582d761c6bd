-- Document 01, "Scripts and the two programs" and "session.rs (974)": the runs of a sweep, from the script's bytes. Definitions only; assumes
-- nothing.
use Rattle.std.specs.Prelude.{Bool, true, false, cond, List, ◌∷◌, map, ℕ, take, replicate, eqb}
use Rattle.basics.specs.Tests.{first_of}
use Rattle.device.specs.declared.OneWayBits.{OneWayBits}
use Rattle.device.specs.declared.OneWayBits.TheVariants.{Absorbed, Rejected}
use Rattle.device.specs.Media.{new_media}
use Rattle.inject.specs.declared.Injection.{Injection}
use Rattle.inject.specs.Ops.{ops_of}
use Rattle.inject.specs.Points.{injections_of}
use Rattle.session.specs.declared.Told.{Told}
use Rattle.session.specs.Armed.{Armed}
use Rattle.std.specs.Prelude.{None as Nothing, Some as At}
use Rattle.session.specs.Armed.{told_with}
use Rattle.session.specs.Log.{log_of, marks_of}
use Rattle.session.specs.Start.{fresh}
use Rattle.threaded.specs.Threaded.{Session, session_ledger}
use Rattle.script.specs.declared.Head.{Head}
use Rattle.script.specs.Calls.{Call}
use Rattle.script.specs.Script.{Script, script, refused, script_of}
use Rattle.steps.specs.Writer.{Wrote, wrote}
use Rattle.held.specs.Held.{Recorded, recorded_of, is_relabelled, held_number}
use Rattle.lines.specs.Lines.{Shown, sweep_text, judge_text, refused_text}

-- "`a` or `r` (absorbed, rejected)"
abbrev pub rule_of : (rejected : Bool) → OneWayBits
rule_of true = Rejected
rule_of false = Absorbed

abbrev pub told_by : Head → Armed → Told
told_by h a = told_with h.geometry (rule_of h.rejected) a

-- a session as a start leaves it, over a copy and columns of zeros
abbrev pub opened_by : Head → Session
opened_by h =
    let column : List ℕ = replicate 1024 0 in
    let marks : List ℕ = replicate 512 0 in
    record {
      counters = fresh;
      media = new_media h.geometry.capacity;
      copy = replicate h.geometry.capacity 0;
      log = log_of column column column column column column;
      marks = marks_of marks marks marks;
    }

-- the script's run with at most one injection
unfoldable pub run_by : Head → List Call → Armed → Wrote
run_by h xs a = wrote (told_by h a) h.carries_on (opened_by h) xs

-- a run as it is printed
abbrev pub shown_by : Head → Armed → Session → Shown
shown_by h a s = record { injection = a; stop = s.counters.stop; operations = s.counters.operations; ledger = session_ledger (told_by h a) s }

-- the crash points of the fault-free run's operations
unfoldable pub points_of : Head → Session → List Injection
points_of h f =
    injections_of h.geometry (ops_of (take f.counters.operations f.log.kinds) (take f.counters.operations f.log.offsets) (take f.counters.operations f.log.lens))

-- what of a session is held to the fault-free run's
abbrev pub recorded_in : Session → Recorded
recorded_in s =
    recorded_of s.counters s.log.kinds s.log.offsets s.log.lens s.log.digests s.marks.codes s.marks.ids
    s.marks.places

-- the run that is given: "the fault-free run relabelled", or the run itself
unfoldable pub held_run : Injection → (f r : Session) → Session
held_run j f r = cond (is_relabelled j f.counters.operations) f r

-- the number that refuses the run of a crash point, and the run
abbrev pub point_number : Head → List Call → (f : Session) → Injection → ℕ
point_number h xs f j = held_number j (recorded_in f) (recorded_in (run_by h xs (At j)).session)

abbrev pub point_run : Head → List Call → (f : Session) → Injection → Shown
point_run h xs f j = shown_by h (At j) (held_run j f (run_by h xs (At j)).session)

-- the runs of a sweep; or the number and line that refuse it
pub data Swept : Type 0 where
  runs : List Shown → Swept
  not_swept : (number line : ℕ) → Swept

-- "A 26 at any point refuses the whole sweep."
abbrev pub swept_unless : (number : ℕ) → List Shown → Swept
swept_unless number rs = cond (eqb number 0) (runs rs) (not_swept number 0)

-- "0 is the fault-free run, then the crash points in order"
abbrev pub swept_from : Head → List Call → (f : Session) → List Injection → Swept
swept_from h xs f js = swept_unless (first_of (map (point_number h xs f) js)) (shown_by h Nothing f ∷ map (point_run h xs f) js)

-- "24: the fault-free writer returned an error."
abbrev pub swept_by : Head → List Call → (fault_free : Wrote) → Swept
swept_by h xs w = cond w.failed (not_swept 24 0) (swept_from h xs w.session (points_of h w.session))

abbrev pub swept_script : Script → Swept
swept_script (script h xs) = swept_by h xs (run_by h xs Nothing)
swept_script (refused number line) = not_swept number line

unfoldable pub swept_of : (text : List ℕ) → Swept
swept_of text = swept_script (script_of text)

-- what the programs print
abbrev pub printed_by : (List Shown → List ℕ) → Swept → List ℕ
printed_by f (runs rs) = f rs
printed_by f (not_swept number line) = refused_text number line

abbrev pub sweep_output : (text : List ℕ) → List ℕ
sweep_output text = printed_by sweep_text (swept_of text)

abbrev pub judge_output : (text : List ℕ) → List ℕ
judge_output text = printed_by judge_text (swept_of text)
