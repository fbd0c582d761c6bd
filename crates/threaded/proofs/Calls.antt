-- One call: the session and the plain run are alike after it, and give the same answer.
--     call-alike       any call, refused or taken
-- Assumes nothing.
use mathlib.Core.Path.{◌≡◌, refl, sym, ap, ◌∙◌, subst}
use mathlib.Core.Bool.{false, true≢false}
use mathlib.Core.List.{List, [], ◌∷◌, ◌++◌}
use Prim.Native.Nat.{ℕ, zero, suc, ◌+◌, ◌≤◌, ◌<◌, ◌^◌}
use native.Mathlib.Nat.{suc-ne-zero}
use native.Mathlib.Omega.{arith}
use lib.ListN.{length, length-append, length-set}
use lib.Dec.{ltb}
use borrow.Author.Tests.{eq-eqb, ne_eqb}
use Rattle.basics.specs.Tests.{unless, first_of}
use Rattle.basics.proofs.Tests.{refuse-not, first_of-pass, first_of-one, first_of-rest, first_of-zero}
use Rattle.storage.specs.declared.Geometry.{Geometry}
use Rattle.storage.specs.Geometry.{geometry_test}
use Rattle.storage.specs.Span.{program_test, erase_test}
use Rattle.storage.proofs.Nesting.{legal}
use Rattle.landing.specs.declared.Stop.{Stop}
use Rattle.landing.specs.Ending.{stop_number}
use Rattle.session.specs.declared.Told.{Told}
use Rattle.std.specs.Prelude.{None as Nothing, Some as At}
use Rattle.session.specs.Log.{Marks, Mark, mark_of, marked}
use Rattle.session.specs.Tests.{size_test, log_test, marks_test, marks_length_test, marks_number, operation_test, mark_test}
use Rattle.session.specs.Armed.{Armed, armed_on, is_armed}
use Rattle.session.specs.Barrier.{barrier_number, barrier_test}
use Rattle.session.specs.Marks.{noted_test, noting, marked_from, noted_by}
use Rattle.session.proofs.Refusals.{operation-room}
use Rattle.session_marks.proofs.Rows.{marks-fit}
use Rattle.session.proofs.Laws.{barrier-refuses, barrier-takes}
use Rattle.session_erase.specs.Erase.{erase_number, erase_number_of}
use Rattle.session_erase.proofs.Laws.{erase-refuses, erase-takes}
use Rattle.session_program.specs.Program.{span_number, bit_test, program_number, program_number_of}
use Rattle.session_program.proofs.Laws.{program-refuses, program-takes}
use Rattle.records.specs.Records.{Label, begin, end, RecordMark}
use Rattle.plain.specs.Plain.{Act, program, erase, barrier, Call, act, mark, Op, Run, act_test, refusal, mark_refusal, wholly, refused, taken, taken_by, step}
use Rattle.plain.specs.Plain
use Rattle.threaded.specs.Threaded.{Session, Answered, after_write, after_barrier, after_mark, answered}
use Rattle.threaded.proofs.Steps.{met, stop_by, taken-by, Whole, Steps, program-steps, erase-steps, barrier-steps}
use Rattle.threaded.proofs.Alike.{code_of, id_of, MarksLong, marks-long, Alike, column-more, step-alike}

-- ---- the tests

-- media and copy as the session has them are never refused
sizes-pass : (g : Geometry) (media copy : ℕ) → media ≡ g.capacity → copy ≡ g.capacity → size_test g media copy ≡ 0
unfolding size_test
sizes-pass g media copy e f = refuse-not _ 7 (rw (eq-eqb media g.capacity e, eq-eqb copy g.capacity f))

module _ (t : Told) (s : Session) (r : Run) (z : Alike t s r) where
  pub sizes-are : size_test t.geometry (length s.media) (length s.copy) ≡ 0
  sizes-are = sizes-pass t.geometry (length s.media) (length s.copy) z.media-long z.copy-long

  -- of the session's tests those of the plain run are left
  numbers-same : (tests : List ℕ)
      → first_of (size_test t.geometry (length s.media) (length s.copy) ∷ log_test s.log ∷ stop_number s.counters.stop ∷ tests)
      ≡ first_of (stop_number r.stop ∷ first_of tests ∷ [])
  numbers-same tests =
      first_of-pass _ (log_test s.log ∷ stop_number s.counters.stop ∷ tests) sizes-are
      ∙ first_of-pass (log_test s.log) (stop_number s.counters.stop ∷ tests) z.log-fits
      ∙ ap (λ (x : Stop). first_of (stop_number x ∷ tests)) z.stop_is ∙ sym (first_of-rest (stop_number r.stop) tests)

  program-number : (offset : ℕ) (bytes : List ℕ)
      → program_number_of t s.counters offset bytes s.media s.copy s.log ≡ refusal t r (program offset bytes)
  unfolding program_number refusal act_test
  program-number offset bytes =
      numbers-same (span_number t offset (length bytes) ∷ bit_test t.bits s.media offset bytes ∷ operation_test s.counters.operations ∷ [])
      ∙ rw (z.media-is, z.count-is)

  erase-number : (offset len : ℕ) → erase_number_of t s.counters offset len s.media s.copy s.log ≡ refusal t r (erase offset len)
  unfolding erase_number refusal act_test
  erase-number offset len = numbers-same (erase_test t.geometry offset len ∷ operation_test s.counters.operations ∷ []) ∙ rw z.count-is

  barrier-number : barrier_test t s.counters s.log ≡ refusal t r barrier
  unfolding barrier_number refusal act_test
  barrier-number =
      first_of-pass (log_test s.log) _ z.log-fits
      ∙ sym (first_of-rest (stop_number s.counters.stop) (geometry_test t.geometry ∷ operation_test s.counters.operations ∷ []))
      ∙ rw (z.stop_is, z.count-is)

-- what the tests of an operation that is taken say
act-room : (t : Told) (media : List ℕ) (count : ℕ) (a : Act) → act_test t media count a ≡ 0 → operation_test count ≡ 0
unfolding act_test
act-room t media count (program offset bytes) e =
    let two = first_of-zero (span_number t offset (length bytes)) (bit_test t.bits media offset bytes ∷ operation_test count ∷ []) e in
    let three = first_of-zero (bit_test t.bits media offset bytes) (operation_test count ∷ []) two.1 in
    (first_of-zero (operation_test count) [] three.1).0
act-room t media count (erase offset len) e =
    let two = first_of-zero (erase_test t.geometry offset len) (operation_test count ∷ []) e in (first_of-zero (operation_test count) [] two.1).0
act-room t media count barrier e =
    let two = first_of-zero (geometry_test t.geometry) (operation_test count ∷ []) e in (first_of-zero (operation_test count) [] two.1).0

program-inside : (t : Told) (media : List ℕ) (count offset : ℕ) (bytes : List ℕ) → act_test t media count (program offset bytes) ≡ 0
    → offset + length bytes ≤ t.geometry.capacity
unfolding act_test span_number
program-inside t media count offset bytes e =
    let two = first_of-zero (span_number t offset (length bytes)) (bit_test t.bits media offset bytes ∷ operation_test count ∷ []) e in
    let buffer = unless (ltb (length bytes) (2 ^ 32)) 6 in
    let span = program_test t.geometry offset (length bytes) in
    let a = first_of-zero (geometry_test t.geometry) (buffer ∷ span ∷ []) two.0 in
    let b = first_of-zero buffer (span ∷ []) a.1 in
    (legal t.geometry t.geometry.program_size offset (length bytes) (first_of-zero span [] b.1).0).inside

erase-inside : (t : Told) (media : List ℕ) (count offset len : ℕ) → act_test t media count (erase offset len) ≡ 0 → offset + len ≤ t.geometry.capacity
unfolding act_test
erase-inside t media count offset len e =
    let two = first_of-zero (erase_test t.geometry offset len) (operation_test count ∷ []) e in
    (legal t.geometry t.geometry.erase_size offset len two.0).inside

act-passes : (t : Told) (r : Run) (a : Act) → refusal t r a ≡ 0 → act_test t r.media (length r.ops) a ≡ 0
unfolding refusal
act-passes t r a e =
    let test = act_test t r.media (length r.ops) a in
    let two = first_of-zero (stop_number r.stop) (test ∷ []) e in
    (first_of-zero test [] two.1).0

wholly-whole : (media : List ℕ) (a : Act) → Whole (wholly media a)
unfolding wholly
wholly-whole media (program offset bytes) = record { all-landed = refl; answers-0 = refl }
wholly-whole media (erase offset len) = record { all-landed = refl; answers-0 = refl }
wholly-whole media barrier = record { all-landed = refl; answers-0 = refl }

-- ---- the two after a call

pub record Both (t : Told) (x : Answered) (next : Run) (before : List ℕ) : Type 0 where
  pub alike : Alike t x.session next
  pub answer-is : next.answers ≡ before ++ (x.answer ∷ [])

unarmed-whole : (g : Geometry) (a : Armed) (o : Op) → Whole o → is_armed a ≡ false → (met g a o).landed ≡ length (met g a o).want
unarmed-whole g Nothing o w e = w.all-landed
unarmed-whole g (At j) o w e = absurd (true≢false e)

module _ (t : Told) (s : Session) (r : Run) (z : Alike t s r) where
  -- a refused call leaves both as they were
  refused-alike : (n : ℕ) → Alike t s (refused r n)
  refused-alike n = record {
    count-is = z.count-is;
    count-le = z.count-le;
    marked-is = z.marked-is;
    marked-le = z.marked-le;
    stop_is = z.stop_is;
    media-is = z.media-is;
    media-long = z.media-long;
    copy-long = z.copy-long;
    log-fits = z.log-fits;
    marks-fit = z.marks-fit;
    kinds-are = z.kinds-are;
    offsets_are = z.offsets_are;
    lens-are = z.lens-are;
    changed-are = z.changed-are;
    answered-are = z.answered-are;
    codes-are = z.codes-are;
    ids-are = z.ids-are;
    places-are = z.places-are;
    held = z.held;
    early = z.early;
  }

  refused-both : (n : ℕ) → Both t (record { answer = n; session = s }) (refused r n) r.answers
  refused-both n = record { alike = refused-alike n; answer-is = refl }

  -- an operation that is taken
  taken-both : (a : Act) (x : Answered) → refusal t r a ≡ 0
      → Steps s (met t.geometry (armed_on t.armed s.counters.operations) (wholly s.media a))
      (stop_by t.geometry (armed_on t.armed s.counters.operations) (wholly s.media a)) x
      → Both t x (taken_by t.geometry t.armed r (wholly r.media a)) r.answers
  taken-both a x e y =
      let g : Geometry = t.geometry in
      let k : Armed = armed_on t.armed s.counters.operations in
      let o : Op = wholly s.media a in
      let q : taken_by g t.armed r (wholly r.media a) ≡ taken r (met g k o) (stop_by g k o) =
      taken-by g t.armed r (wholly r.media a) ∙ rw (z.media-is, z.count-is) in
      let room : s.counters.operations < 1024 = rw z.count-is (operation-room (length r.ops) (act-room t r.media (length r.ops) a (act-passes t r a e))) in
      subst (λ (next : Run). Both t x next r.answers) (sym q)
      (record {
        alike = step-alike t s r (met g k o) (stop_by g k o) x z y room (unarmed-whole g k o (wholly-whole s.media a));
        answer-is = ap (λ (v : ℕ). r.answers ++ (v ∷ [])) (sym y.answer-is);
      })

  -- an operation, by its number
  module _ (a : Act) (n : ℕ) (e : n ≡ refusal t r a) where
    act-refused : (x : Answered) → (n ≡ 0 → ⊥) → x ≡ record { answer = n; session = s } → Both t x (step t r (act a)) r.answers
    unfolding step
    act-refused x h q = rw (q, ← e, ne_eqb n 0 h) (refused-both n)

    act-taken : (x : Answered) → n ≡ 0
        → Steps s (met t.geometry (armed_on t.armed s.counters.operations) (wholly s.media a))
        (stop_by t.geometry (armed_on t.armed s.counters.operations) (wholly s.media a)) x
        → Both t x (step t r (act a)) r.answers
    unfolding step
    act-taken x h y = rw (← e, eq-eqb n 0 h) (taken-both a x (sym e ∙ h) y)

  even : length s.copy ≡ length s.media
  even = z.copy-long ∙ sym z.media-long

  program-alike : (offset : ℕ) (bytes : List ℕ) (n : ℕ) → program_number_of t s.counters offset bytes s.media s.copy s.log ≡ n
      → Both t (answered t s (act (program offset bytes))) (step t r (act (program offset bytes))) r.answers
  unfolding answered
  program-alike offset bytes zero e =
      let p : refusal t r (program offset bytes) ≡ 0 = sym (program-number t s r z offset bytes) ∙ e in
      let fits : offset + length bytes ≤ length s.media = rw z.media-long (program-inside t r.media (length r.ops) offset bytes (act-passes t r (program offset bytes) p)) in
      rw (program-takes t s.counters offset bytes s.media s.copy s.log e)
      (act-taken (program offset bytes) 0 (sym p) _ refl (program-steps t s offset bytes fits even))
  program-alike offset bytes (suc n) e =
      let p : suc n ≡ refusal t r (program offset bytes) = sym e ∙ program-number t s r z offset bytes in
      act-refused (program offset bytes) (suc n) p _ (suc-ne-zero n)
      (ap (after_write s) (program-refuses t s.counters offset bytes s.media s.copy s.log (λ q. suc-ne-zero n (sym e ∙ q))) ∙ rw e)

  erase-alike : (offset len : ℕ) (n : ℕ) → erase_number_of t s.counters offset len s.media s.copy s.log ≡ n
      → Both t (answered t s (act (erase offset len))) (step t r (act (erase offset len))) r.answers
  unfolding answered
  erase-alike offset len zero e =
      let p : refusal t r (erase offset len) ≡ 0 = sym (erase-number t s r z offset len) ∙ e in
      let fits : offset + len ≤ length s.media = rw z.media-long (erase-inside t r.media (length r.ops) offset len (act-passes t r (erase offset len) p)) in
      rw (erase-takes t s.counters offset len s.media s.copy s.log e)
      (act-taken (erase offset len) 0 (sym p) _ refl (erase-steps t s offset len fits even))
  erase-alike offset len (suc n) e =
      let p : suc n ≡ refusal t r (erase offset len) = sym e ∙ erase-number t s r z offset len in
      act-refused (erase offset len) (suc n) p _ (suc-ne-zero n)
      (ap (after_write s) (erase-refuses t s.counters offset len s.media s.copy s.log (λ q. suc-ne-zero n (sym e ∙ q))) ∙ rw e)

  barrier-alike : (n : ℕ) → barrier_test t s.counters s.log ≡ n → Both t (answered t s (act barrier)) (step t r (act barrier)) r.answers
  unfolding answered
  barrier-alike zero e =
      let p : refusal t r barrier ≡ 0 = sym (barrier-number t s r z) ∙ e in
      rw (barrier-takes t s.counters s.log e) (act-taken barrier 0 (sym p) _ refl (barrier-steps t s))
  barrier-alike (suc n) e =
      let p : suc n ≡ refusal t r barrier = sym e ∙ barrier-number t s r z in
      act-refused barrier (suc n) p _ (suc-ne-zero n)
      (ap (after_barrier s) (barrier-refuses t s.counters s.log (λ q. suc-ne-zero n (sym e ∙ q))) ∙ rw e)

-- ---- marks

module _ (t : Told) (s : Session) (r : Run) (z : Alike t s r) (l : Label) where
  abbrev number : ℕ
  number = noted_test s.counters 1 s.marks

  abbrev new : Mark
  new = mark_of (code_of l) (id_of l) s.counters.operations

  abbrev next : RecordMark
  next = record { label = l; place = length r.ops }

  mark-number : number ≡ mark_refusal r
  unfolding marks_number mark_refusal
  mark-number =
      first_of-pass (marks_test s.marks) (mark_test s.counters.marks 1 ∷ []) z.marks-fit
      ∙ first_of-one (mark_test s.counters.marks 1) ∙ ap (λ (k : ℕ). mark_test k 1) z.marked-is

  -- a mark that is taken
  taken-mark : number ≡ 0 → Alike t (record { counters = noting s.counters 1; media = s.media; copy = s.copy; log = s.log; marks = marked s.marks s.counters.marks new }) (Plain.marked r l)
  taken-mark e =
      let m : Marks = s.marks in
      let k : ℕ = s.counters.marks in
      let long : MarksLong m = marks-long m z.marks-fit in
      let g1 = long.codes-long in
      let g2 = long.ids-even in
      let g3 = long.places-even in
      let room : k + 1 ≤ 512 = marks-fit k 1 (length m.codes) (length m.ids) (length m.places) e in
      record {
        count-is = z.count-is;
        count-le = z.count-le;
        marked-is = ap (λ (x : ℕ). x + 1) z.marked-is ∙ sym (length-append r.marks (next ∷ []));
        marked-le = room;
        stop_is = z.stop_is;
        media-is = z.media-is;
        media-long = z.media-long;
        copy-long = z.copy-long;
        log-fits = z.log-fits;
        marks-fit = ap₃ (length-set m.codes k new.code) (length-set m.ids k new.id) (length-set m.places k new.place) ∙ z.marks-fit;
        kinds-are = z.kinds-are;
        offsets_are = z.offsets_are;
        lens-are = z.lens-are;
        changed-are = z.changed-are;
        answered-are = z.answered-are;
        codes-are = column-more m.codes _ k (k + 1) (code_of l) (λ (x : RecordMark). code_of x.label) r.marks next (omega arith) refl refl refl z.codes-are;
        ids-are = column-more m.ids _ k (k + 1) (id_of l) (λ (x : RecordMark). id_of x.label) r.marks next (omega arith) refl refl refl z.ids-are;
        places-are = column-more m.places _ k (k + 1) s.counters.operations (λ (x : RecordMark). x.place) r.marks next (omega arith) refl refl z.count-is z.places-are;
        held = z.held;
        early = z.early;
      }
    where
      ap₃ : {a b c a' b' c' : ℕ} → a ≡ a' → b ≡ b' → c ≡ c' → marks_length_test a b c ≡ marks_length_test a' b' c'
      ap₃ p q w = λ i. marks_length_test (p i) (q i) (w i)

  abbrev after : Answered
  after = after_mark s (noted_by s.counters 1 (new ∷ []) s.marks)

  mark-by : (n : ℕ) → number ≡ n → Both t after (step t r (mark l)) r.answers
  unfolding step marked_from
  mark-by zero e =
      rw (e, ← mark-number, e) (record { alike = taken-mark e; answer-is = refl })
  mark-by (suc n) e =
      rw (← mark-number, e, ne_eqb (suc n) 0 (suc-ne-zero n)) (refused-both t s r z (suc n))

  -- begin and end are this mark
  mark-answered : answered t s (mark l) ≡ after
  unfolding answered
  mark-answered = go l
    where
      go : (k : Label) → answered t s (mark k) ≡ after_mark s (noted_by s.counters 1 (mark_of (code_of k) (id_of k) s.counters.operations ∷ []) s.marks)
      go (begin id) = refl
      go end = refl

  mark-alike : Both t (answered t s (mark l)) (step t r (mark l)) r.answers
  mark-alike = rw mark-answered (mark-by number refl)

-- ---- any call

pub call-alike : (t : Told) (s : Session) (r : Run) (x : Call) → Alike t s r → Both t (answered t s x) (step t r x) r.answers
call-alike t s r (act (program offset bytes)) z = program-alike t s r z offset bytes (program_number_of t s.counters offset bytes s.media s.copy s.log) refl
call-alike t s r (act (erase offset len)) z = erase-alike t s r z offset len (erase_number_of t s.counters offset len s.media s.copy s.log) refl
call-alike t s r (act barrier) z = barrier-alike t s r z (barrier_test t s.counters s.log) refl
call-alike t s r (mark l) z = mark-alike t s r z l
