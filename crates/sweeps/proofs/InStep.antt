-- Two runs of a script from the moment that the injection was met: what each line keeps.
--     rows_to, Keeps, line-keeps      operations before an end stay as they were recorded, and what fired stays fired
--     Together, together-line        two sessions that a line leaves as like each other as they were
--     Held, together-held            what a run is held to
--     Answers, line-answers          a line that answers 0: the operations after it, and the marks below an end
-- Assumes nothing.
use mathlib.Core.Path.{◌≡◌, refl, sym, ap, subst, ◌∙◌}
use mathlib.Core.Bool.{Bool, true, false, cond, or-true, true≢false}
use mathlib.Core.List.{List, [], ◌∷◌, ◌++◌, append-nil}
use Prim.Native.Nat.{ℕ, zero, suc, ◌+◌, ◌≤◌}
use native.Mathlib.Nat.{suc-ne-zero, le_refl, le_trans}
use native.Mathlib.Omega.{arith}
use lib.ListN.{length, take, length-map}
use lib.Seq.{take-set-le}
use borrow.Author.Tests.{ne_eqb}
use Rattle.basics.proofs.Tests.{first_of-zero}
use Rattle.session.specs.declared.Told.{Told}
use Rattle.session.specs.Armed.{Armed}
use Rattle.session.specs.Log.{Marks}
use Rattle.session.specs.Tests.{marks_test, mark_test, marks_number}
use Rattle.session.specs.Armed.{armed_on, is_armed}
use Rattle.session.specs.Marks.{noted_test, noting, marked_from}
use Rattle.session_marks.proofs.Rows.{marks-fit}
use Rattle.records.specs.Records.{RecordMark}
use Rattle.held.specs.Held.{below}
use Rattle.threaded.specs.Threaded.{Session, Answered}
use Rattle.threaded.proofs.Alike.{MarksLong, marks-long}
use Rattle.script.specs.declared.Head.{Head}
use Rattle.script.specs.Calls.{Call, begin, end, mark, program, erase, barrier}
use Rattle.steps.specs.Writer.{line_answered}
use Rattle.sweeps.specs.Sweep.{told_by}
use Rattle.sweeps.proofs.Below.{clipped, clipped-far, Same, same-stored, seen, seen_same, shown_all, Room, seen_stored}
use Rattle.sweeps.proofs.OneLine.{is_op, notes_of, note-line, OpView, refuses, takes, op-view}

-- ---- the operations before an end

pub record Rows : Type 0 where
  pub kinds : List ℕ
  pub offsets : List ℕ
  pub lens : List ℕ
  pub digests : List ℕ

abbrev pub rows_to : (upto : ℕ) → Session → Rows
rows_to upto s = record { kinds = take upto s.log.kinds; offsets = take upto s.log.offsets; lens = take upto s.log.lens; digests = take upto s.log.digests }

pub rows_are : {a a' b b' c c' d d' : List ℕ} → a ≡ a' → b ≡ b' → c ≡ c' → d ≡ d'
    → ◌≡◌ {A = Rows} (record { kinds = a; offsets = b; lens = c; digests = d }) (record { kinds = a'; offsets = b'; lens = c'; digests = d' })
rows_are p q w v = λ i. record { kinds = p i; offsets = q i; lens = w i; digests = v i }

pub record Keeps (upto : ℕ) (s s' : Session) : Type 0 where
  pub grows : s.counters.operations ≤ s'.counters.operations
  pub stays-fired : s.counters.fired ≡ true → s'.counters.fired ≡ true
  pub rows-kept : rows_to upto s' ≡ rows_to upto s

pub keeps-all : (upto : ℕ) (s : Session) → Keeps upto s s
keeps-all upto s = record { grows = le_refl _; stays-fired = λ e. e; rows-kept = refl }

pub keeps_on : (upto : ℕ) (s s' s'' : Session) → Keeps upto s s' → Keeps upto s' s'' → Keeps upto s s''
keeps_on upto s s' s'' a b = record {
  grows = le_trans a.grows b.grows;
  stays-fired = λ e. b.stays-fired (a.stays-fired e);
  rows-kept = b.rows-kept ∙ a.rows-kept;
}

module _ (h : Head) (upto : ℕ) (s : Session) (far : upto ≤ s.counters.operations) where
  op-keeps : (x : Call) → OpView h s x → (a : Armed) → Keeps upto s (line_answered (told_by h a) s x).session
  op-keeps x (refuses k z e) a = rw (e a) (keeps-all upto s)
  op-keeps x (takes w t) a =
      let y = t a in
      let n : ℕ = s.counters.operations in
      record {
        grows = rw y.operations-is (omega arith);
        stays-fired = λ e. y.fired-is ∙ rw e (or-true (is_armed (armed_on a n)));
        rows-kept = rows_are (ap (take upto) y.kinds-is ∙ take-set-le upto s.log.kinds n w.kind far)
            (ap (take upto) y.offsets-is ∙ take-set-le upto s.log.offsets n w.offset far)
            (ap (take upto) y.lens-is ∙ take-set-le upto s.log.lens n w.len far)
            (ap (take upto) y.digests-is ∙ take-set-le upto s.log.digests n w.digest far);
      }

-- a line that marks is refused and changes nothing, or its marks are stored
abbrev pub note_count : Session → Call → ℕ
note_count s x = length (notes_of s.counters.operations x)

abbrev pub note_test : Session → Call → ℕ
note_test s x = noted_test s.counters (note_count s x) s.marks

abbrev pub note_stored : Session → Call → Session
note_stored s x = record {
  counters = noting s.counters (note_count s x);
  media = s.media;
  copy = s.copy;
  log = s.log;
  marks = marked_from s.marks s.counters.marks (notes_of s.counters.operations x);
}

pub note-refused : (t : Told) (s : Session) (x : Call) → is_op x ≡ false → (k : ℕ) → note_test s x ≡ suc k
    → line_answered t s x ≡ record { answer = suc k; session = s }
note-refused t s x o k e = note-line t s x o ∙ rw (e, ne_eqb (suc k) 0 (suc-ne-zero k))

pub note-taken : (t : Told) (s : Session) (x : Call) → is_op x ≡ false → note_test s x ≡ 0 → line_answered t s x ≡ record { answer = 0; session = note_stored s x }
note-taken t s x o e = note-line t s x o ∙ rw e

note-keeps : (t : Told) (upto : ℕ) (s : Session) (x : Call) → is_op x ≡ false → (k : ℕ) → note_test s x ≡ k → Keeps upto s (line_answered t s x).session
note-keeps t upto s x o zero e = rw (note-taken t s x o e) (record { grows = le_refl _; stays-fired = λ p. p; rows-kept = refl })
note-keeps t upto s x o (suc k) e = rw (note-refused t s x o k e) (keeps-all upto s)

pub line-keeps : (h : Head) (a : Armed) (upto : ℕ) (s : Session) (x : Call) → upto ≤ s.counters.operations
    → Keeps upto s (line_answered (told_by h a) s x).session
line-keeps h a upto s x far = go (is_op x) refl
  where
    go : (b : Bool) → is_op x ≡ b → Keeps upto s (line_answered (told_by h a) s x).session
    go true e = op-keeps h upto s far x (op-view h s x e) a
    go false e = note-keeps (told_by h a) upto s x e (note_test s x) refl

-- ---- two sessions after the injection

pub record Together (upto : ℕ) (f r : Session) : Type 0 where
  pub fired : r.counters.fired ≡ true
  pub f-far : upto ≤ f.counters.operations
  pub r-far : upto ≤ r.counters.operations
  pub rows_same : rows_to upto f ≡ rows_to upto r
  pub count_same : f.counters.marks ≡ r.counters.marks
  pub marks-same : Same upto f.marks r.marks

-- the marks of a session below an end
abbrev pub seen_by : (upto : ℕ) → Session → List RecordMark
seen_by upto s = seen upto s.counters.marks s.marks

-- what a run is held to
pub record Held (upto : ℕ) (f r : Session) : Type 0 where
  pub fired : r.counters.fired ≡ true
  pub f-far : upto ≤ f.counters.operations
  pub r-far : upto ≤ r.counters.operations
  pub rows_same : rows_to upto f ≡ rows_to upto r
  pub marks-same : seen_by upto f ≡ seen_by upto r

pub together-held : (upto : ℕ) (f r : Session) → Together upto f r → Held upto f r
together-held upto f r z = record {
  fired = z.fired;
  f-far = z.f-far;
  r-far = z.r-far;
  rows_same = z.rows_same;
  marks-same = seen_same upto f.counters.marks f.marks r.marks z.marks-same ∙ ap (λ (k : ℕ). seen upto k r.marks) z.count_same;
}

-- the marks of one line stored in both
same_noted : (upto m n : ℕ) (x : Call) (k : ℕ) (p q : Marks) → upto ≤ m → upto ≤ n → Same upto p q
    → Same upto (marked_from p k (notes_of m x)) (marked_from q k (notes_of n x))
unfolding marked_from
same_noted upto m n (begin id) k p q a b z = same-stored upto p q k _ _ z refl refl (clipped-far upto m a ∙ sym (clipped-far upto n b))
same_noted upto m n end k p q a b z = same-stored upto p q k _ _ z refl refl (clipped-far upto m a ∙ sym (clipped-far upto n b))
same_noted upto m n (mark id from to) k p q a b z = same-stored upto _ _ (k + 1) _ _ (same-stored upto p q k _ _ z refl refl refl) refl refl refl
same_noted upto m n (program offset bytes) k p q a b z = z
same_noted upto m n (erase offset count) k p q a b z = z
same_noted upto m n barrier k p q a b z = z

note-counts : (m n : ℕ) (x : Call) → length (notes_of m x) ≡ length (notes_of n x)
note-counts m n (begin id) = refl
note-counts m n end = refl
note-counts m n (mark id from to) = refl
note-counts m n (program offset bytes) = refl
note-counts m n (erase offset count) = refl
note-counts m n barrier = refl

module _ (h : Head) (upto : ℕ) (f r : Session) (z : Together upto f r) (x : Call) where
  tests_same : note_test f x ≡ note_test r x
  tests_same =
      numbers z.count_same (note-counts f.counters.operations r.counters.operations x) (ap length z.marks-same.codes_same) (ap length z.marks-same.ids-same)
      (sym (length-map f.marks.places (clipped upto)) ∙ ap length z.marks-same.places_same ∙ length-map r.marks.places (clipped upto))
    where
      numbers : {a a' b b' c c' d d' e e' : ℕ} → a ≡ a' → b ≡ b' → c ≡ c' → d ≡ d' → e ≡ e' → marks_number a b c d e ≡ marks_number a' b' c' d' e'
      numbers p q w u v = λ i. marks_number (p i) (q i) (w i) (u i) (v i)

  -- a line that marks
  stored-together : Together upto (note_stored f x) (note_stored r x)
  stored-together = record {
    fired = z.fired;
    f-far = z.f-far;
    r-far = z.r-far;
    rows_same = z.rows_same;
    count_same = λ i. z.count_same i + note-counts f.counters.operations r.counters.operations x i;
    marks-same =
        subst (λ (k : ℕ). Same upto (marked_from f.marks f.counters.marks (notes_of f.counters.operations x)) (marked_from r.marks k (notes_of r.counters.operations x))) z.count_same
        (same_noted upto f.counters.operations r.counters.operations x f.counters.marks f.marks r.marks z.f-far z.r-far z.marks-same);
  }

  note-together : (t u : Told) → is_op x ≡ false → (k : ℕ) → note_test f x ≡ k → Together upto (line_answered t f x).session (line_answered u r x).session
  note-together t u o zero e = rw (note-taken t f x o e, note-taken u r x o (sym tests_same ∙ e)) stored-together
  note-together t u o (suc k) e = rw (note-refused t f x o k e, note-refused u r x o k (sym tests_same ∙ e)) z

-- an operation leaves the marks
op-marks : (h : Head) (s : Session) (x : Call) → OpView h s x → (a : Armed)
    → ((line_answered (told_by h a) s x).session.counters.marks ≡ s.counters.marks) × ((line_answered (told_by h a) s x).session.marks ≡ s.marks)
op-marks h s x (refuses k z e) a = (ap (λ (y : Answered). y.session.counters.marks) (e a), ap (λ (y : Answered). y.session.marks) (e a))
op-marks h s x (takes w t) a = ((t a).count_kept, (t a).marks-kept)

op-together : (h : Head) (upto : ℕ) (f r : Session) (x : Call) (a b : Armed) → Together upto f r → is_op x ≡ true
    → Together upto (line_answered (told_by h a) f x).session (line_answered (told_by h b) r x).session
op-together h upto f r x a b z o =
    let p = line-keeps h a upto f x z.f-far in
    let q = line-keeps h b upto r x z.r-far in
    let u = op-marks h f x (op-view h f x o) a in
    let v = op-marks h r x (op-view h r x o) b in
    record {
      fired = q.stays-fired z.fired;
      f-far = le_trans z.f-far p.grows;
      r-far = le_trans z.r-far q.grows;
      rows_same = p.rows-kept ∙ z.rows_same ∙ sym q.rows-kept;
      count_same = u.0 ∙ z.count_same ∙ sym v.0;
      marks-same = rw (u.1, v.1) z.marks-same;
    }

pub together-line : (h : Head) (upto : ℕ) (f r : Session) (x : Call) (a b : Armed) → Together upto f r
    → Together upto (line_answered (told_by h a) f x).session (line_answered (told_by h b) r x).session
together-line h upto f r x a b z = go (is_op x) refl
  where
    go : (o : Bool) → is_op x ≡ o → Together upto (line_answered (told_by h a) f x).session (line_answered (told_by h b) r x).session
    go true e = op-together h upto f r x a b z e
    go false e = note-together h upto f r z x (told_by h a) (told_by h b) e (note_test f x) refl

-- ---- a line that answers 0

-- the operations after a line
abbrev pub count_after : (operations : ℕ) → Call → ℕ
count_after n x = cond (is_op x) (suc n) n

-- the marks fit their columns
note-room : (s : Session) (x : Call) → note_test s x ≡ 0 → Room (s.counters.marks + note_count s x) s.marks
unfolding marks_number
note-room s x e =
    let m : Marks = s.marks in
    let k : ℕ = s.counters.marks in
    let two = first_of-zero (marks_test m) (mark_test k (note_count s x) ∷ []) e in
    let long : MarksLong m = marks-long m two.0 in
    let fit : k + note_count s x ≤ 512 = marks-fit k (note_count s x) (length m.codes) (length m.ids) (length m.places) e in
    let a = long.codes-long in
    let b = long.ids-even in
    let c = long.places-even in
    record { codes-room = omega arith; ids-room = omega arith; places-room = omega arith }

-- what a line that answers 0 leaves: one operation more, or its marks
pub record Answers (upto : ℕ) (s : Session) (x : Call) (s' : Session) : Type 0 where
  pub count-is : s'.counters.operations ≡ count_after s.counters.operations x
  pub seen-is : seen_by upto s' ≡ seen_by upto s ++ shown_all upto (notes_of s.counters.operations x)

note-answers : (t : Told) (upto : ℕ) (s : Session) (x : Call) → is_op x ≡ false → (line_answered t s x).answer ≡ 0 → (k : ℕ) → note_test s x ≡ k
    → Answers upto s x (line_answered t s x).session
note-answers t upto s x o z zero e =
    rw (note-taken t s x o e)
    (record { count-is = rw o; seen-is = seen_stored upto (notes_of s.counters.operations x) s.counters.marks s.marks (note-room s x e) })
note-answers t upto s x o z (suc k) e = absurd (suc-ne-zero k (sym (ap (λ (y : Answered). y.answer) (note-refused t s x o k e)) ∙ z))

op-notes : (n : ℕ) (x : Call) → is_op x ≡ true → notes_of n x ≡ []
op-notes n (begin id) e = absurd (true≢false (sym e))
op-notes n end e = absurd (true≢false (sym e))
op-notes n (mark id from to) e = absurd (true≢false (sym e))
op-notes n (program offset bytes) e = refl
op-notes n (erase offset count) e = refl
op-notes n barrier e = refl

op-answers : (h : Head) (upto : ℕ) (s : Session) (x : Call) (a : Armed) → is_op x ≡ true → (line_answered (told_by h a) s x).answer ≡ 0 → OpView h s x
    → Answers upto s x (line_answered (told_by h a) s x).session
op-answers h upto s x a o z (refuses k nz e) = absurd (nz (sym (ap (λ (y : Answered). y.answer) (e a)) ∙ z))
op-answers h upto s x a o z (takes w t) = record {
  count-is = (t a).operations-is ∙ rw o;
  seen-is = rw ((t a).count_kept, (t a).marks-kept, op-notes s.counters.operations x o) none;
}
  where
    none : seen_by upto s ≡ seen_by upto s ++ shown_all upto []
    none = unfold below in sym (append-nil (seen_by upto s))

pub line-answers : (h : Head) (a : Armed) (upto : ℕ) (s : Session) (x : Call) → (line_answered (told_by h a) s x).answer ≡ 0
    → Answers upto s x (line_answered (told_by h a) s x).session
line-answers h a upto s x z = go (is_op x) refl
  where
    go : (o : Bool) → is_op x ≡ o → Answers upto s x (line_answered (told_by h a) s x).session
    go true e = op-answers h upto s x a e z (op-view h s x e)
    go false e = note-answers (told_by h a) upto s x e z (note_test s x) refl
