-- Document 01, "session.rs (974)": "A finished run is held to the fault-free run." Definitions only; assumes nothing.
use Rattle.std.specs.Prelude.{Bool, true, false, not, ◌&&◌, ◌||◌, cond, List, [], ◌∷◌, ℕ, suc, min, length, take, eqb, ltb, Result, Ok, Err}
use Rattle.basics.specs.Tests.{unless, refuse_if, first_of}
use Rattle.basics.specs.Replies.{number_in, answered}
use Rattle.inject.specs.declared.Op.{Op}
use Rattle.inject.specs.declared.Op.TheVariants.{Program, Erase, Barrier}
use Rattle.inject.specs.declared.Progress.{Progress}
use Rattle.inject.specs.declared.Progress.TheVariants.{None, Bytes, Whole}
use Rattle.inject.specs.declared.Interruption.{Interruption}
use Rattle.inject.specs.declared.Interruption.TheVariants.{PowerLoss, Watchdog, Failure}
use Rattle.inject.specs.declared.Injection.{Injection}
use Rattle.inject.specs.Ops.{ops_of}
use Rattle.landing.specs.Landed.{ran}
use Rattle.model.specs.Columns.{all_up_to}
use Rattle.session.specs.declared.Counters.{Counters}
use Rattle.session.specs.Log.{marks_of}
use Rattle.session.specs.Tests.{marks_uneven}
use Rattle.records.specs.Records.{Label, begin, end, RecordMark}
use Rattle.ledger.specs.Ledger.{marks_listed, counts_short}
use Rattle.held.specs.declared.Held.{Held}
use Rattle.held.specs.declared.Held.TheVariants.{Relabelled, Kept}
use Rattle.held.specs.declared.Recorded.{Recorded as Lent}

-- what of a run is asked: its counters, of the operations recorded the rows without change and answer, and the marks
pub record Recorded : Type 0 where
  pub counters : Counters
  pub kinds : List ℕ
  pub offsets : List ℕ
  pub lens : List ℕ
  pub digests : List ℕ
  pub codes : List ℕ
  pub ids : List ℕ
  pub places : List ℕ

abbrev pub recorded_of : Counters → (kinds offsets lens digests codes ids places : List ℕ) → Recorded
recorded_of c k o l d m i p = record { counters = c; kinds = k; offsets = o; lens = l; digests = d; codes = m; ids = i; places = p }

-- what is lent of a run
abbrev pub recorded_in : Lent → Recorded
recorded_in x =
    recorded_of x.counters x.ops.kinds.now x.ops.offsets.now x.ops.lens.now x.digests.now x.marks.codes.now x.marks.ids.now x.marks.places.now

-- ---- which injection it is

abbrev pub is_watchdog : Interruption → Bool
is_watchdog PowerLoss = false
is_watchdog Watchdog = true
is_watchdog Failure = false

abbrev pub is_power_loss : Interruption → Bool
is_power_loss PowerLoss = true
is_power_loss Watchdog = false
is_power_loss Failure = false

abbrev pub is_none : Progress → Bool
is_none None = true
is_none (Bytes count) = false
is_none Whole = false

-- "First: watchdog, none or count 0, at index = operation count gives the fault-free run relabelled."
abbrev pub is_relabelled : Injection → (operations : ℕ) → Bool
is_relabelled j operations = is_watchdog j.interruption && not (ran j.progress) && eqb j.op operations

-- "(except index 0, none, power loss on an empty sequence)"
abbrev pub is_opening : Injection → (operations : ℕ) → Bool
is_opening j operations = eqb operations 0 && eqb j.op 0 && is_none j.progress && is_power_loss j.interruption

-- ---- what has to be alike

-- two lists are alike: as long, and each element as the one at its place
unfoldable pub same : {A : Type 0} → (A → A → Bool) → List A → List A → Bool
same f [] [] = true
same f [] (y ∷ ys) = false
same f (x ∷ xs) [] = false
same f (x ∷ xs) (y ∷ ys) = f x y && same f xs ys

-- two operations: the kind, and the span, which a barrier has not
unfoldable pub same_op : Op → Op → Bool
same_op (Program a m) (Program b n) = eqb a b && eqb m n
same_op (Program a m) (Erase b n) = false
same_op (Program a m) Barrier = false
same_op (Erase a m) (Program b n) = false
same_op (Erase a m) (Erase b n) = eqb a b && eqb m n
same_op (Erase a m) Barrier = false
same_op Barrier (Program b n) = false
same_op Barrier (Erase b n) = false
same_op Barrier Barrier = true

-- two marks: "an id or "end" and the operation count"
unfoldable pub same_label : Label → Label → Bool
same_label (begin i) (begin j) = eqb i j
same_label (begin i) end = false
same_label end (begin j) = false
same_label end end = true

abbrev pub same_mark : RecordMark → RecordMark → Bool
same_mark m n = same_label m.label n.label && eqb m.place n.place

-- how far a run is asked: "through the armed operation", and no further than "the operations that run recorded"
abbrev pub end_of : (through : ℕ) → Recorded → ℕ
end_of through x = min through x.counters.operations

abbrev pub ops_through : (through : ℕ) → Recorded → List Op
ops_through through x =
    ops_of (take (end_of through x) x.kinds) (take (end_of through x) x.offsets) (take (end_of through x) x.lens)

abbrev pub digests_through : (through : ℕ) → Recorded → List ℕ
digests_through through x = take (end_of through x) x.digests

-- the marks whose operation count is below a limit
unfoldable pub below : (limit : ℕ) → List RecordMark → List RecordMark
below limit [] = []
below limit (m ∷ ms) = cond (ltb m.place limit) (m ∷ below limit ms) (below limit ms)

-- ", in either run, the marks whose operation count is below both index + 1 and the operations that run recorded"
abbrev pub marks_through : (through : ℕ) → Recorded → List RecordMark
marks_through through x = below (end_of through x) (marks_listed x.counters (marks_of x.codes x.ids x.places))

-- "operations or digests through the armed operation", and those marks, do not differ
unfoldable pub same_through : (through : ℕ) → (f r : Recorded) → Bool
same_through through f r =
    same same_op (ops_through through f) (ops_through through r) && same eqb (digests_through through f) (digests_through through r)
    && same same_mark (marks_through through f) (marks_through through r)

-- ---- the numbers

-- the number that refuses a run, 0 for none: 25, then 26. A relabelled run is the fault-free one, and is not refused.
unfoldable pub held_number : Injection → (f r : Recorded) → ℕ
held_number j f r =
    cond (is_relabelled j f.counters.operations) 0
    (cond (not r.counters.fired && not (is_opening j f.counters.operations)) 25
    (cond (same_through (suc j.op) f r) 0 26))

-- "columns of one list unequal (.. log, marks)", over their lengths
abbrev pub rows_uneven : (kinds offsets lens digests : ℕ) → Bool
rows_uneven k o l d = not (eqb o k) || not (eqb l k) || not (eqb d k)

abbrev pub columns_uneven : (kinds offsets lens digests codes ids places : ℕ) → Bool
columns_uneven k o l d m i p = rows_uneven k o l d || marks_uneven m i p

abbrev pub uneven_in : Recorded → Bool
uneven_in x =
    columns_uneven (length x.kinds) (length x.offsets) (length x.lens) (length x.digests) (length x.codes) (length x.ids)
    (length x.places)

-- ".. operation or mark code without a meaning", among those counted
abbrev pub known_in : Counters → (kinds codes : List ℕ) → Bool
known_in c kinds codes = all_up_to 2 (take c.operations kinds) && all_up_to 1 (take c.marks codes)

-- one run's columns: 12, then 13 where they are shorter than the session's limits or its counts
unfoldable pub columns_test : Recorded → ℕ
columns_test x =
    first_of
    (refuse_if (uneven_in x) 12
    ∷ unless (known_in x.counters x.kinds x.codes) 12
    ∷ refuse_if (counts_short x.counters (length x.kinds) (length x.codes)) 13
    ∷ [])

-- "the lowest number comes first", of two, 0 being none
unfoldable pub lowest : ℕ → ℕ → ℕ
lowest a b = cond (eqb a 0) b (cond (eqb b 0) a (min a b))

abbrev pub held_test : (f r : Recorded) → ℕ
held_test f r = lowest (columns_test f) (columns_test r)

-- ---- what `held_to` answers: what is given of a run, or the number that refuses it

-- "Where an answer is an enum, a definition gives this paper's number and values for each of its cases."
abbrev pub number_of_held : Result Held ℕ → ℕ
number_of_held r = number_in (λ n. n) r

abbrev pub kept_unless : (number : ℕ) → Result Held ℕ
kept_unless number = answered number Kept

-- a run over columns that are not refused
abbrev pub held_by : Injection → (f r : Recorded) → Result Held ℕ
held_by j f r = cond (is_relabelled j f.counters.operations) (Ok Relabelled) (kept_unless (held_number j f r))

-- the columns' test first; "25, 26: as above, no run given."
unfoldable pub held_call : Injection → (f r : Recorded) → Result Held ℕ
held_call j f r = cond (eqb (held_test f r) 0) (held_by j f r) (Err (held_test f r))
