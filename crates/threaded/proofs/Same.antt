-- Theorem 1 of demand 3: a list of calls through the session is the plain run.
--     all_alike        after a list of calls the two are alike if they were before it
--     fresh-alike      a fresh session is like the plain run before any call
--     same             for every told, fresh session and list of calls
--     start-fresh      what a start that is not refused leaves is a fresh session
-- Assumes nothing.
use mathlib.Core.Path.{◌≡◌, refl, sym, ap, ap₂, ◌∙◌}
use mathlib.Core.Bool.{Bool, true, false, not, ◌&&◌, ◌||◌}
use mathlib.Core.List.{List, [], ◌∷◌, ◌++◌, map, append-nil, append_assoc}
use Prim.Native.Nat.{ℕ, suc}
use native.Mathlib.Omega.{arith}
use lib.ListN.{length, length-replicate}
use lib.Dec.{eqb, leb}
use borrow.Author.Tests.{le-ltb}
use Rattle.basics.specs.Tests.{flag, unless, refuse_if, first_of}
use Rattle.basics.proofs.Tests.{refuse-zero, first_of-zero}
use Rattle.storage.specs.Geometry.{geometry_test}
use Rattle.device.specs.Media.{ff, new_media}
use Rattle.device.proofs.Pairs.{false_left, false_right}
use Rattle.model.specs.Columns.{all_up_to}
use Rattle.session.specs.declared.Told.{Told}
use Rattle.session.specs.declared.Counters.{Counters}
use Rattle.session.specs.Log.{Log, Marks}
use Rattle.session.specs.Tests.{size_test, log_uneven_of, marks_uneven_of, log_short, marks_short, log_length_test, log_test, marks_length_test, marks_test, start_number, start_test}
use Rattle.std.specs.Prelude.{Ok}
use Rattle.session.specs.Start.{fresh, opened, started}
use Rattle.session.proofs.Refusals.{sizes-fit}
use Rattle.records.specs.Records.{Label, begin, end, RecordMark, ledger_by}
use Rattle.ledger.specs.Ledger.{rows_from, rows_of, label_of, marks_from, marks_listed, outstanding, asked, ledger_of_run, Entered, entries_uneven, codes_known, counts_short, ledger_number, ledgered_by, ledger_call}
use Rattle.plain.specs.Plain.{Kind, is_program, is_erase, is_barrier, Call, Op, Run, step, run, unrun, plain}
use Rattle.plain.specs.Ledger.{is_write_kind, orders, changed, ledger}
use Rattle.plain.specs.Ledger
use Rattle.threaded.specs.Threaded.{Session, Fresh, answered, threaded, session_ledger}
use Rattle.threaded.specs.Claim.{SameAsPlain}
use Rattle.threaded.proofs.Steps.{kind_code}
use Rattle.threaded.proofs.Held.{HeldFrom, held-says}
use Rattle.threaded.proofs.Alike.{code_of, id_of, log-long, marks-long, Alike}
use Rattle.threaded.proofs.Calls.{Both, call-alike, sizes-are}
use Rattle.threaded.proofs.Seen.{Seen, seeing, see, ledger-seen}

-- ---- a list of calls

pub all_alike : (t : Told) (s : Session) (r : Run) (xs : List Call) → Alike t s r
    → Alike t (threaded t s xs).session (run t r xs) × ((run t r xs).answers ≡ r.answers ++ (threaded t s xs).answers)
unfolding threaded run
all_alike t s r [] z = (z, sym (append-nil r.answers))
all_alike t s r (x ∷ xs) z =
    let b : Both t (answered t s x) (step t r x) r.answers = call-alike t s r x z in
    let ih = all_alike t (answered t s x).session (step t r x) xs b.alike in
    let rest : List ℕ = (threaded t (answered t s x).session xs).answers in
    (ih.0, ih.1 ∙ ap (λ (l : List ℕ). l ++ rest) b.answer-is ∙ append_assoc r.answers ((answered t s x).answer ∷ []) rest)

-- ---- the ledger

marks-back : (ms : List RecordMark)
    → marks_from (map (λ (m : RecordMark). code_of m.label) ms) (map (λ (m : RecordMark). id_of m.label) ms) (map (λ (m : RecordMark). m.place) ms) ≡ ms
unfolding marks_from
marks-back [] = refl
marks-back (m ∷ ms) = ap₂ {C = List RecordMark} (λ (l : Label) (r : List RecordMark). record { label = l; place = m.place } ∷ r) (back m.label) (marks-back ms)
  where
    back : (l : Label) → label_of (code_of l) (id_of l) ≡ l
    back (begin id) = refl
    back end = refl

write-code : (k : Kind) → not (eqb (kind_code k) 2) ≡ is_write_kind k
write-code is_program = refl
write-code is_erase = refl
write-code is_barrier = refl

flag-code : (b : Bool) → eqb (flag b) 1 ≡ b
flag-code true = refl
flag-code false = refl

order-code : (k : Kind) (b : Bool) → (eqb (kind_code k) 2 && eqb (flag b) 1) ≡ (not (is_write_kind k) && b)
order-code is_program b = refl
order-code is_erase b = refl
order-code is_barrier b = flag-code b

module _ (t : Told) (c : Counters) (media copy : List ℕ) where
  rows_seen : (i : ℕ) (ops : List Op) → HeldFrom t.armed c.place c.withheld copy i ops
      → map (see (asked t c media copy)) (rows_from i (map (λ (o : Op). kind_code o.kind) ops) (map (λ (o : Op). flag (changed o)) ops) (map (λ (o : Op). flag (eqb o.answer 0)) ops))
      ≡ map (see (Ledger.asked media)) ops
  unfolding rows_from outstanding orders
  rows_seen i [] h = refl
  rows_seen i (o ∷ ops) h =
      ap₂ {C = List Seen} (λ (x : Seen) (xs : List Seen). x ∷ xs)
      (λ j. record {
        writes = write-code o.kind j;
        changed = flag-code (changed o) j;
        withheld = held-says t.armed c.place c.withheld copy media i o h.0 j;
        orders = order-code o.kind (eqb o.answer 0) j;
      })
      (rows_seen (suc i) ops h.1)

module _ (t : Told) (s : Session) (r : Run) (z : Alike t s r) where
  ledger-same : session_ledger t s ≡ ledger r
  unfolding ledger_of_run rows_of marks_listed ledger
  ledger-same =
      rw (z.kinds-are, z.changed-are, z.answered-are, z.codes-are, z.ids-are, z.places-are, marks-back r.marks, z.media-is)
      (ledger-seen (asked t s.counters r.media s.copy) _ r.marks
      ∙ ap (λ (l : List Seen). ledger_by seeing l r.marks) (rows_seen t s.counters r.media s.copy 0 r.ops z.held)
      ∙ sym (ledger-seen (Ledger.asked r.media) r.ops r.marks))

  -- of the tests of `ledger`, those of its own columns are left

  kinds-known : (ops : List Op) → all_up_to 2 (map (λ (o : Op). kind_code o.kind) ops) ≡ true
  unfolding all_up_to
  kinds-known [] = refl
  kinds-known (o ∷ ops) = ap₂ ◌&&◌ (known o.kind) (kinds-known ops)
    where
      known : (k : Kind) → leb (kind_code k) 2 ≡ true
      known is_program = refl
      known is_erase = refl
      known is_barrier = refl

  flags-known : (f : Op → Bool) (ops : List Op) → all_up_to 1 (map (λ (o : Op). flag (f o)) ops) ≡ true
  unfolding all_up_to
  flags-known f [] = refl
  flags-known f (o ∷ ops) = ap₂ ◌&&◌ (known (f o)) (flags-known f ops)
    where
      known : (b : Bool) → leb (flag b) 1 ≡ true
      known true = refl
      known false = refl

  codes-known : (ms : List RecordMark) → all_up_to 1 (map (λ (m : RecordMark). code_of m.label) ms) ≡ true
  unfolding all_up_to
  codes-known [] = refl
  codes-known (m ∷ ms) = ap₂ ◌&&◌ (known m.label) (codes-known ms)
    where
      known : (l : Label) → leb (code_of l) 1 ≡ true
      known (begin id) = refl
      known end = refl

  all_known : codes_known s.counters s.log s.marks ≡ true
  unfolding codes_known
  all_known =
      rw (
        z.kinds-are,
        z.changed-are,
        z.answered-are,
        z.codes-are,
        kinds-known r.ops,
        flags-known changed r.ops,
        flags-known (λ (o : Op). eqb o.answer 0) r.ops,
        codes-known r.marks,
      )

  none-short : counts_short s.counters (length s.log.kinds) (length s.marks.codes) ≡ false
  unfolding counts_short
  none-short =
      let a = (log-long s.log z.log-fits).kinds-long in
      let b = (marks-long s.marks z.marks-fit).codes-long in
      let m = z.count-le in
      let n = z.marked-le in
      rw (
        le-ltb (length s.log.kinds) 1024 a,
        le-ltb (length s.marks.codes) 512 b,
        le-ltb (length s.log.kinds) s.counters.operations (omega arith),
        le-ltb (length s.marks.codes) s.counters.marks (omega arith),
      )

  derived-same : (e : Entered)
      → ledger_call t s.counters s.media s.copy s.log s.marks e
      ≡ ledgered_by
      (first_of
      (refuse_if (entries_uneven (length e.ids) (length e.states) (length e.torn)) 12
      ∷ unless (leb (length (ledger r)) (length e.ids)) 13
      ∷ []))
      (ledger r) e
  unfolding ledger_call ledger_number first_of unless refuse_if
  derived-same e =
      rw (sizes-are t s r z, log-even s.log z.log-fits, marks-even s.marks z.marks-fit, all_known, none-short, ledger-same)
    where
      log-even : (l : Log) → log_test l ≡ 0 → log_uneven_of l ≡ false
      log-even l q = refuse-zero (log_uneven_of l) 11 (first_of-zero (refuse_if (log_uneven_of l) 12) (refuse_if (log_short (length l.kinds)) 13 ∷ []) (unfold log_length_test in q)).0

      marks-even : (m : Marks) → marks_test m ≡ 0 → marks_uneven_of m ≡ false
      marks-even m q = refuse-zero (marks_uneven_of m) 11 (first_of-zero (refuse_if (marks_uneven_of m) 12) (refuse_if (marks_short (length m.codes)) 13 ∷ []) (unfold marks_length_test in q)).0

-- ---- from a fresh session, whatever the copy and the columns hold

module _ (t : Told) (s : Session) (f : Fresh t s) where
  abbrev uneven : Bool
  uneven = log_uneven_of s.log || marks_uneven_of s.marks

  abbrev short : Bool
  short = log_short (length s.log.kinds) || marks_short (length s.marks.codes)

  passed : (size_test t.geometry (length s.media) (length s.copy) ≡ 0) × (uneven ≡ false) × (short ≡ false)
  unfolding start_number
  passed =
      let sizes = size_test t.geometry (length s.media) (length s.copy) in
      let one = first_of-zero (geometry_test t.geometry) (sizes ∷ refuse_if uneven 12 ∷ refuse_if short 13 ∷ []) f.not-refused in
      let two = first_of-zero sizes (refuse_if uneven 12 ∷ refuse_if short 13 ∷ []) one.1 in
      let three = first_of-zero (refuse_if uneven 12) (refuse_if short 13 ∷ []) two.1 in
      let four = first_of-zero (refuse_if short 13) [] three.1 in
      (two.0, refuse-zero uneven 11 three.0, refuse-zero short 12 four.0)

  log-passes : log_test s.log ≡ 0
  unfolding log_length_test first_of refuse_if
  log-passes = rw (false_left (log_uneven_of s.log) (marks_uneven_of s.marks) passed.1, false_left (log_short (length s.log.kinds)) (marks_short (length s.marks.codes)) passed.2)

  marks-pass : marks_test s.marks ≡ 0
  unfolding marks_length_test first_of refuse_if
  marks-pass = rw (false_right (log_uneven_of s.log) (marks_uneven_of s.marks) passed.1, false_right (log_short (length s.log.kinds)) (marks_short (length s.marks.codes)) passed.2)

  pub fresh-alike : Alike t s (unrun s.media)
  fresh-alike =
      let e : s.counters ≡ fresh = f.before-any in
      let none : s.counters.operations ≡ 0 = ap (λ (c : Counters). c.operations) e in
      let unmarked : s.counters.marks ≡ 0 = ap (λ (c : Counters). c.marks) e in
      let sizes = sizes-fit t.geometry (length s.media) (length s.copy) passed.0 in
      record {
        count-is = none;
        count-le = rw none (omega arith);
        marked-is = unmarked;
        marked-le = rw unmarked (omega arith);
        stop_is = ap (λ (c : Counters). c.stop) e;
        media-is = refl;
        media-long = sizes.0;
        copy-long = sizes.1;
        log-fits = log-passes;
        marks-fit = marks-pass;
        kinds-are = rw none;
        offsets_are = rw none;
        lens-are = rw none;
        changed-are = rw none;
        answered-are = rw none;
        codes-are = rw unmarked;
        ids-are = rw unmarked;
        places-are = rw unmarked;
        held = tt;
        early = λ k h a. ap (λ (c : Counters). c.withheld) e;
      }

-- demand 3, the first of its four theorems
pub same : (t : Told) (s : Session) (xs : List Call) → Fresh t s → SameAsPlain t s xs
unfolding plain
same t s xs f =
    let z = all_alike t s (unrun s.media) xs (fresh-alike t s f) in
    record {
      answers = sym z.1;
      media = z.0.media-is;
      stop = z.0.stop_is;
      operations = z.0.count-is;
      entries = ledger-same t (threaded t s xs).session (run t (unrun s.media) xs) z.0;
      derived = derived-same t (threaded t s xs).session (run t (unrun s.media) xs) z.0;
    }

-- a start that is not refused leaves a fresh session, on a new device's media
pub start-fresh : (t : Told) (media copy : List ℕ) (l : Log) (m : Marks) → start_test t.geometry (length media) (length copy) l m ≡ 0
    → (started t media (length copy) l m ≡ opened (Ok fresh) (new_media (length media)))
    × Fresh t (record { counters = fresh; media = new_media (length media); copy = copy; log = l; marks = m })
unfolding started
start-fresh t media copy l m e = (
  rw e,
  record {
    not-refused = ap (λ (n : ℕ). start_test t.geometry n (length copy) l m) (length-replicate (length media) ff) ∙ e;
    before-any = refl;
  },
)
