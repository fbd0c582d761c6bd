-- Document 01, "Scripts and the two programs" and "Demand 3": a script's run and its sweep as plain runs. Definitions only; assumes nothing.
use Rattle.std.specs.Prelude.{Bool, false, not, ◌&&◌, ◌||◌, cond, List, [], ◌∷◌, map, ℕ, suc, length, take, eqb, None as Nothing, Some as At}
use Rattle.device.specs.Media.{new_media}
use Rattle.inject.specs.declared.Op as Inject
use Rattle.inject.specs.declared.Op.TheVariants.{Program, Erase, Barrier}
use Rattle.inject.specs.declared.Injection.{Injection}
use Rattle.inject.specs.Points.{injections_of}
use Rattle.session.specs.Armed.{Armed}
use Rattle.plain.specs.Plain
use Rattle.plain.specs.Plain.{Kind, is_program, is_erase, is_barrier, Op, Run, plain}
use Rattle.plain.specs.Ledger.{ledger}
use Rattle.script.specs.declared.Head.{Head}
use Rattle.script.specs.Calls.{Call}
use Rattle.lines.specs.Lines.{Shown}
use Rattle.steps.specs.Calls.{plain_calls}
use Rattle.sweeps.specs.Sweep.{told_by, Swept, runs, not_swept}

-- ---- "the writer stops at its first error and returns it, or carries on and returns success": by the answers to all of its calls

-- an error is an answer other than 0
unfoldable pub any_error : (answers : List ℕ) → Bool
any_error [] = false
any_error (n ∷ ns) = not (eqb n 0) || any_error ns

-- how many answers there are through the first error; all of them if there is none
unfoldable pub through_error : (answers : List ℕ) → ℕ
through_error [] = 0
through_error (n ∷ ns) = suc (cond (eqb n 0) (through_error ns) 0)

-- the calls that a writer reaches
abbrev pub reached : (carries_on : Bool) → (answers : List ℕ) → List Plain.Call → List Plain.Call
reached carries_on answers cs = cond carries_on cs (take (through_error answers) cs)

abbrev pub failed_by : (carries_on : Bool) → (answers : List ℕ) → Bool
failed_by carries_on answers = not carries_on && any_error answers

-- ---- a script's run, with at most one injection, on a new device's media

-- the plain run of all lines, whatever they answer
abbrev pub all_lines : Head → Armed → List Call → Run
all_lines h a xs = plain (told_by h a) (new_media h.geometry.capacity) (plain_calls xs)

-- the plain run of the lines that the writer reaches
abbrev pub plain_run : Head → Armed → List Call → Run
plain_run h a xs =
    plain (told_by h a) (new_media h.geometry.capacity) (reached h.carries_on (all_lines h a xs).answers (plain_calls xs))

-- a plain run as it is printed
abbrev pub shown_plain : Armed → Run → Shown
shown_plain a r = record { injection = a; stop = r.stop; operations = length r.ops; ledger = ledger r }

-- ---- the sweep

-- the crash points of a plain run's operations
abbrev pub op_for : Kind → (offset len : ℕ) → Inject.Op
op_for is_program offset len = Program offset len
op_for is_erase offset len = Erase offset len
op_for is_barrier offset len = Barrier

abbrev pub points_for : Head → Run → List Injection
points_for h r = injections_of h.geometry (map (λ (o : Op). op_for o.kind o.offset (length o.want)) r.ops)

-- 24, or the fault-free run and the run of each crash point of its operations
abbrev pub plain_swept : Head → List Call → Swept
plain_swept h xs =
    cond (failed_by h.carries_on (all_lines h Nothing xs).answers) (not_swept 24 0)
    (runs
    (shown_plain Nothing (plain_run h Nothing xs)
    ∷ map (λ (j : Injection). shown_plain (At j) (plain_run h (At j) xs)) (points_for h (plain_run h Nothing xs))))
