-- One line of a script through a session, whatever is armed.
--     is_op, notes_of             the lines that are operations, and the marks of the others
--     note-line                 a line that marks, whatever is armed
--     Taken, OpView, op-view    an operation is refused alike whatever is armed, or it is taken and leaves the same row
--     same_line                 an injection that is not armed on the next operation makes no difference
-- Assumes nothing.
use mathlib.Core.Path.{◌≡◌, refl, sym, ap, ◌∙◌}
use mathlib.Core.Bool.{Bool, true, false, cond, not, ◌||◌, true≢false}
use mathlib.Core.List.{List, [], ◌∷◌}
use Prim.Native.Nat.{ℕ, zero, suc, ◌≤◌, ◌<◌}
use native.Mathlib.Numerals.{add-one}
use native.Mathlib.Nat.{suc-ne-zero}
use lib.ListN.{length, set}
use lib.Dec.{eqb}
use borrow.Author.Tests.{eqb-true, ltb-false, not-false}
use Rattle.basics.specs.Tests.{refuse_if}
use Rattle.basics.proofs.Tests.{refuse-zero, first_of-zero}
use Rattle.storage.specs.Geometry.{geometry_test}
use Rattle.storage.specs.Span.{erase_test}
use Rattle.device.proofs.Pairs.{false_left, false_right}
use Rattle.landing.specs.Ending.{stop_number}
use Rattle.digest.specs.Fnv.{digest_of}
use Rattle.session.specs.declared.Told.{Told}
use Rattle.session.specs.Armed.{Armed}
use Rattle.std.specs.Prelude.{None as Nothing}
use Rattle.session.specs.Log.{Log, Mark, mark_of}
use Rattle.session.specs.Tests.{size_test, log_short, log_length_test, log_test, operation_test}
use Rattle.session.specs.Armed.{armed_on, is_armed, program_lands, erase_lands, ended_by, next_count, write_reply}
use Rattle.session.specs.Written.{planned_by, written_by}
use Rattle.session.specs.Barrier.{barrier_number, barrier_test, barrier_reply_by, barrier_reply, ordered, ordered_by, barriered}
use Rattle.session.specs.Marks.{noted_by}
use Rattle.session.proofs.Laws.{next-count, barrier-refuses, barrier-takes}
use Rattle.session.proofs.Refusals.{operation-room}
use Rattle.session_erase.specs.Erase.{erase_number, erase_number_of, erase_plan, erase_taken, erase_call}
use Rattle.session_erase.proofs.Laws.{erase-refuses, erase-takes}
use Rattle.session_program.specs.Program.{span_number, bit_test, program_number, program_number_of, program_plan, program_taken, program_call}
use Rattle.session_program.proofs.Laws.{program-refuses, program-takes}
use Rattle.threaded.specs.Threaded.{Session, Answered, after_write, after_barrier, after_mark}
use Rattle.script.specs.declared.Head.{Head}
use Rattle.script.specs.Calls.{Call, begin, end, mark, program, erase, barrier}
use Rattle.steps.specs.Writer.{line_answered}
use Rattle.sweeps.specs.Sweep.{told_by}

-- ---- lines that mark

abbrev pub is_op : Call → Bool
is_op (begin id) = false
is_op end = false
is_op (mark id from to) = false
is_op (program offset bytes) = true
is_op (erase offset count) = true
is_op barrier = true

-- the marks of a line that so many operations came before
abbrev pub notes_of : (operations : ℕ) → Call → List Mark
notes_of n (begin id) = mark_of 1 id n ∷ []
notes_of n end = mark_of 0 0 n ∷ []
notes_of n (mark id from to) = mark_of 1 id from ∷ mark_of 0 0 to ∷ []
notes_of n (program offset bytes) = []
notes_of n (erase offset count) = []
notes_of n barrier = []

abbrev pub noted_line : Session → Call → Answered
noted_line s x =
    after_mark s (noted_by s.counters (length (notes_of s.counters.operations x)) (notes_of s.counters.operations x) s.marks)

pub note-line : (t : Told) (s : Session) (x : Call) → is_op x ≡ false → line_answered t s x ≡ noted_line s x
unfolding line_answered
note-line t s (begin id) e = refl
note-line t s end e = refl
note-line t s (mark id from to) e = refl
note-line t s (program offset bytes) e = absurd (true≢false e)
note-line t s (erase offset count) e = absurd (true≢false e)
note-line t s barrier e = absurd (true≢false e)

-- ---- operations

-- what is compared of an operation's row
pub record Row : Type 0 where
  pub kind : ℕ
  pub offset : ℕ
  pub len : ℕ
  pub digest : ℕ

abbrev pub row_of : (kind offset len digest : ℕ) → Row
row_of k o l d = record { kind = k; offset = o; len = l; digest = d }

-- columns long enough for every operation
pub record LogRoom (l : Log) : Type 0 where
  pub kinds-long : 1024 ≤ length l.kinds
  pub offsets-long : 1024 ≤ length l.offsets
  pub lens-long : 1024 ≤ length l.lens

log-room : (l : Log) → log_test l ≡ 0 → LogRoom l
unfolding log_length_test
log-room l e =
    let k = length l.kinds in
    let u1 = not (eqb (length l.offsets) k) in
    let u2 = not (eqb (length l.lens) k) in
    let u3 = not (eqb (length l.digests) k) in
    let u4 = not (eqb (length l.changed) k) in
    let u5 = not (eqb (length l.answered) k) in
    let uneven = u1 || u2 || u3 || u4 || u5 in
    let one = first_of-zero (refuse_if uneven 12) (refuse_if (log_short k) 13 ∷ []) e in
    let two = first_of-zero (refuse_if (log_short k) 13) [] one.1 in
    let no : uneven ≡ false = refuse-zero uneven 11 one.0 in
    let long : 1024 ≤ k = ltb-false k 1024 (refuse-zero (log_short k) 12 two.0) in
    let both : (u1 || u2) ≡ false = false_left (u1 || u2) u3 (false_left (u1 || u2 || u3) u4 (false_left (u1 || u2 || u3 || u4) u5 no)) in
    let p : length l.offsets ≡ k = eqb-true (length l.offsets) k (not-false (eqb (length l.offsets) k) (false_left u1 u2 both)) in
    let q : length l.lens ≡ k = eqb-true (length l.lens) k (not-false (eqb (length l.lens) k) (false_right u1 u2 both)) in
    record { kinds-long = long; offsets-long = rw p long; lens-long = rw q long }

-- an operation that is taken with `a` armed on it, and leaves this row
pub record Taken (s : Session) (w : Row) (a : Armed) (y : Answered) : Type 0 where
  pub room : s.counters.operations < 1024
  pub log-fits : LogRoom s.log
  pub operations-is : y.session.counters.operations ≡ suc s.counters.operations
  pub fired-is : y.session.counters.fired ≡ (is_armed a || s.counters.fired)
  pub count_kept : y.session.counters.marks ≡ s.counters.marks
  pub marks-kept : y.session.marks ≡ s.marks
  pub kinds-is : y.session.log.kinds ≡ set s.log.kinds s.counters.operations w.kind
  pub offsets-is : y.session.log.offsets ≡ set s.log.offsets s.counters.operations w.offset
  pub lens-is : y.session.log.lens ≡ set s.log.lens s.counters.operations w.len
  pub digests-is : y.session.log.digests ≡ set s.log.digests s.counters.operations w.digest
  pub completed : Bool
  pub answer-is : y.answer ≡ (ended_by a completed).answer

one_more : (n : ℕ) → n < 1024 → next_count n ≡ suc n
one_more n h = next-count n h ∙ add-one n

module _ (h : Head) (s : Session) where
  abbrev told : Armed → Told
  told a = told_by h a

  abbrev n : ℕ
  n = s.counters.operations

  program-passes : (offset : ℕ) (bytes : List ℕ) (a : Armed) → program_number_of (told a) s.counters offset bytes s.media s.copy s.log ≡ 0
      → (log_test s.log ≡ 0) × (operation_test n ≡ 0)
  unfolding program_number
  program-passes offset bytes a e =
      let t : Told = told a in
      let span = span_number t offset (length bytes) in
      let bit = bit_test t.bits s.media offset bytes in
      let full = operation_test n in
      let stop = stop_number s.counters.stop in
      let one = first_of-zero (size_test t.geometry (length s.media) (length s.copy)) (log_test s.log ∷ stop ∷ span ∷ bit ∷ full ∷ []) e in
      let two = first_of-zero (log_test s.log) (stop ∷ span ∷ bit ∷ full ∷ []) one.1 in
      let three = first_of-zero stop (span ∷ bit ∷ full ∷ []) two.1 in
      let four = first_of-zero span (bit ∷ full ∷ []) three.1 in
      let five = first_of-zero bit (full ∷ []) four.1 in
      (two.0, (first_of-zero full [] five.1).0)

  program-taken : (offset : ℕ) (bytes : List ℕ) (a : Armed) → program_number_of (told a) s.counters offset bytes s.media s.copy s.log ≡ 0
      → Taken s (row_of 0 offset (length bytes) (digest_of bytes)) (armed_on a n) (line_answered (told a) s (program offset bytes))
  unfolding line_answered program_plan write_reply
  program-taken offset bytes a e =
      let p = program-passes offset bytes a e in
      let few : n < 1024 = operation-room n p.1 in
      rw (program-takes (told a) s.counters offset bytes s.media s.copy s.log e)
      (record {
        room = few;
        log-fits = log-room s.log p.0;
        operations-is = one_more n few;
        fired-is = refl;
        count_kept = refl;
        marks-kept = refl;
        kinds-is = refl;
        offsets-is = refl;
        lens-is = refl;
        digests-is = refl;
        completed = eqb (program_lands (armed_on a n) (length bytes) h.geometry.program_size) (length bytes);
        answer-is = refl;
      })

  erase-passes : (offset len : ℕ) (a : Armed) → erase_number_of (told a) s.counters offset len s.media s.copy s.log ≡ 0
      → (log_test s.log ≡ 0) × (operation_test n ≡ 0)
  unfolding erase_number
  erase-passes offset len a e =
      let t : Told = told a in
      let span = erase_test t.geometry offset len in
      let full = operation_test n in
      let stop = stop_number s.counters.stop in
      let one = first_of-zero (size_test t.geometry (length s.media) (length s.copy)) (log_test s.log ∷ stop ∷ span ∷ full ∷ []) e in
      let two = first_of-zero (log_test s.log) (stop ∷ span ∷ full ∷ []) one.1 in
      let three = first_of-zero stop (span ∷ full ∷ []) two.1 in
      let four = first_of-zero span (full ∷ []) three.1 in
      (two.0, (first_of-zero full [] four.1).0)

  erase-taken : (offset len : ℕ) (a : Armed) → erase_number_of (told a) s.counters offset len s.media s.copy s.log ≡ 0
      → Taken s (row_of 1 offset len 0) (armed_on a n) (line_answered (told a) s (erase offset len))
  unfolding line_answered erase_plan write_reply
  erase-taken offset len a e =
      let p = erase-passes offset len a e in
      let few : n < 1024 = operation-room n p.1 in
      rw (erase-takes (told a) s.counters offset len s.media s.copy s.log e)
      (record {
        room = few;
        log-fits = log-room s.log p.0;
        operations-is = one_more n few;
        fired-is = refl;
        count_kept = refl;
        marks-kept = refl;
        kinds-is = refl;
        offsets-is = refl;
        lens-is = refl;
        digests-is = refl;
        completed = eqb (erase_lands (armed_on a n) len h.geometry.erase_size) len;
        answer-is = refl;
      })

  barrier-passes : (a : Armed) → barrier_test (told a) s.counters s.log ≡ 0 → (log_test s.log ≡ 0) × (operation_test n ≡ 0)
  unfolding barrier_number
  barrier-passes a e =
      let units = geometry_test h.geometry in
      let full = operation_test n in
      let stop = stop_number s.counters.stop in
      let one = first_of-zero (log_test s.log) (stop ∷ units ∷ full ∷ []) e in
      let two = first_of-zero stop (units ∷ full ∷ []) one.1 in
      let three = first_of-zero units (full ∷ []) two.1 in
      (one.0, (first_of-zero full [] three.1).0)

  barrier-taken : (a : Armed) → barrier_test (told a) s.counters s.log ≡ 0
      → Taken s (row_of 2 0 0 0) (armed_on a n) (line_answered (told a) s barrier)
  unfolding line_answered barrier_reply
  barrier-taken a e =
      let p = barrier-passes a e in
      let few : n < 1024 = operation-room n p.1 in
      rw (barrier-takes (told a) s.counters s.log e)
      (record {
        room = few;
        log-fits = log-room s.log p.0;
        operations-is = one_more n few;
        fired-is = refl;
        count_kept = refl;
        marks-kept = refl;
        kinds-is = refl;
        offsets-is = refl;
        lens-is = refl;
        digests-is = refl;
        completed = _;
        answer-is = refl;
      })

-- whatever is armed, an operation is refused by the same number, or is taken and leaves the same row
pub data OpView (h : Head) (s : Session) (x : Call) : Type 0 where
  refuses : (number : ℕ) → (number ≡ 0 → ⊥) → ((a : Armed) → line_answered (told_by h a) s x ≡ record { answer = number; session = s }) → OpView h s x
  takes : (w : Row) → ((a : Armed) → Taken s w (armed_on a s.counters.operations) (line_answered (told_by h a) s x)) → OpView h s x

module _ (h : Head) (s : Session) where
  program-view : (offset : ℕ) (bytes : List ℕ) (k : ℕ) → program_number_of (told_by h Nothing) s.counters offset bytes s.media s.copy s.log ≡ k
      → OpView h s (program offset bytes)
  unfolding line_answered program_number span_number
  program-view offset bytes zero e = takes _ (λ a. program-taken h s offset bytes a e)
  program-view offset bytes (suc k) e =
      refuses (suc k) (suc-ne-zero k)
      (λ a. ap (after_write s) (program-refuses (told_by h a) s.counters offset bytes s.media s.copy s.log (λ q. suc-ne-zero k (sym e ∙ q))) ∙ rw e)

  erase-view : (offset len : ℕ) (k : ℕ) → erase_number_of (told_by h Nothing) s.counters offset len s.media s.copy s.log ≡ k
      → OpView h s (erase offset len)
  unfolding line_answered erase_number
  erase-view offset len zero e = takes _ (λ a. erase-taken h s offset len a e)
  erase-view offset len (suc k) e =
      refuses (suc k) (suc-ne-zero k)
      (λ a. ap (after_write s) (erase-refuses (told_by h a) s.counters offset len s.media s.copy s.log (λ q. suc-ne-zero k (sym e ∙ q))) ∙ rw e)

  barrier-view : (k : ℕ) → barrier_test (told_by h Nothing) s.counters s.log ≡ k → OpView h s barrier
  unfolding line_answered barrier_number
  barrier-view zero e = takes _ (λ a. barrier-taken h s a e)
  barrier-view (suc k) e =
      refuses (suc k) (suc-ne-zero k)
      (λ a. ap (after_barrier s) (barrier-refuses (told_by h a) s.counters s.log (λ q. suc-ne-zero k (sym e ∙ q))) ∙ rw e)

  pub op-view : (x : Call) → is_op x ≡ true → OpView h s x
  op-view (begin id) e = absurd (true≢false (sym e))
  op-view end e = absurd (true≢false (sym e))
  op-view (mark id from to) e = absurd (true≢false (sym e))
  op-view (program offset bytes) e = program-view offset bytes _ refl
  op-view (erase offset len) e = erase-view offset len _ refl
  op-view barrier e = barrier-view _ refl

  -- ---- an injection that is armed elsewhere

  pub same_line : (x : Call) (a b : Armed) → armed_on a s.counters.operations ≡ armed_on b s.counters.operations
      → line_answered (told_by h a) s x ≡ line_answered (told_by h b) s x
  unfolding line_answered program_call program_number span_number program_plan erase_call erase_number erase_plan barriered barrier_number barrier_reply
  same_line (begin id) a b e = refl
  same_line end a b e = refl
  same_line (mark id from to) a b e = refl
  same_line (program offset bytes) a b e =
      let c = s.counters in
      let len : ℕ = length bytes in
      let lands : Armed → ℕ = λ (k : Armed). program_lands k len h.geometry.program_size in
      let number : ℕ = program_number_of (told_by h a) c offset bytes s.media s.copy s.log in
      ap (λ (k : Armed). after_write s (written_by number c s.media s.copy s.log (program_taken c offset bytes (planned_by c k offset len lands) s.media s.copy s.log))) e
  same_line (erase offset len) a b e =
      let c = s.counters in
      let lands : Armed → ℕ = λ (k : Armed). erase_lands k len h.geometry.erase_size in
      let number : ℕ = erase_number_of (told_by h a) c offset len s.media s.copy s.log in
      ap (λ (k : Armed). after_write s (written_by number c s.media s.copy s.log (erase_taken c offset len (planned_by c k offset len lands) s.media s.copy s.log))) e
  same_line barrier a b e =
      let c = s.counters in
      let number : ℕ = barrier_test (told_by h a) c s.log in
      ap (λ (k : Armed). after_barrier s (cond (eqb number 0) (ordered_by c s.log (barrier_reply_by c k)) (ordered (record { answer = number; counters = c }) s.log))) e
