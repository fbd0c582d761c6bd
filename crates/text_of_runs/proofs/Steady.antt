-- Every session of a script's run is steady: no line stores a code without a meaning, counts past its columns, or changes a length.
--     line-steady      one line
--     wrote-steady     a list of lines, whatever is armed and whether the writer stops or carries on
--     opened-steady    a session as a start leaves it, over columns of zeros
--     run-steady       a script's run
-- Assumes nothing.
use mathlib.Core.Path.{◌≡◌, refl, sym, ◌∙◌}
use mathlib.Core.Logic.{inl, inr, ◌⊎◌}
use mathlib.Core.Bool.{Bool, true, false, cond, ◌||◌}
use mathlib.Core.List.{List, [], ◌∷◌}
use Prim.Native.Nat.{ℕ, ◌+◌, ◌-◌, ◌≤◌, ◌<◌, zero-le}
use native.Mathlib.Omega.{arith}
use lib.ListN.{length, take, drop, length-set, length-replicate}
use lib.Dec.{eqb, leb, ltb}
use borrow.Author.Tests.{eqb-true, ltb-true, le-leb, lt-leb}
use Rattle.basics.specs.Parts.{part, overlaid}
use Rattle.basics.proofs.Tests.{le-or-gt}
use Rattle.basics.proofs.Parts.{length_part}
use Rattle.device.specs.Media.{ff, anded, postimage}
use Rattle.device.proofs.Cells.{length-anded}
use Rattle.device.proofs.Programming.{length-programmed}
use Rattle.device.proofs.Erasing.{length-erased}
use Rattle.session.specs.declared.Told.{Told}
use Rattle.session.specs.Armed.{Armed, next_count, write_reply}
use Rattle.session.specs.declared.Entry.{Entry}
use Rattle.session.specs.Replies.{Called, Plan}
use Rattle.session.specs.Log.{Log, logged, Marks, Mark, mark_of, marked}
use Rattle.session.specs.Written.{Written, written, Landing, landed_so}
use Rattle.session.specs.Barrier.{Ordered, ordered, ordered_by, barrier_test, barrier_reply, barrier_entry, barriered}
use Rattle.session.specs.Marks.{noted_test, noting, marked_from, noted}
use Rattle.session_marks.proofs.Rows.{marks-fit}
use Rattle.session_erase.specs.Erase.{erase_number_of, erase_plan, erase_entry, erase_landing, erase_taken, erase_call}
use Rattle.session_program.specs.Program.{program_number_of, program_plan, program_entry, program_landing, program_taken, program_call}
use Rattle.threaded.specs.Threaded.{Session, after_write, after_barrier, after_mark}
use Rattle.threaded.proofs.Cells.{length-overlaid, overlaid-none}
use Rattle.script.specs.declared.Head.{Head}
use Rattle.script.specs.Calls.{Call, begin, end, mark, program, erase, barrier}
use Rattle.steps.specs.Writer.{line_answered, Wrote, wrote}
use Rattle.sweeps.specs.Sweep.{told_by, opened_by, run_by}
use Rattle.text_of_runs.specs.Steady.{LogSteady, MarksSteady, Steady}
use Rattle.text_of_runs.proofs.Codes.{set_known, zeros-known, flag-known}

-- ---- one row more

-- a row whose codes have a meaning
record RowKnown (e : Entry) : Type 0 where
  kind-known : leb e.kind 2 ≡ true
  change-known : leb e.changed 1 ≡ true
  answer-known : leb e.answered 1 ≡ true

logged-steady : (l : Log) (i : ℕ) (e : Entry) → RowKnown e → LogSteady l → LogSteady (logged l i e)
logged-steady l i e k z = record {
  kinds-long = length-set l.kinds i e.kind ∙ z.kinds-long;
  offsets-long = length-set l.offsets i e.offset ∙ z.offsets-long;
  lens-long = length-set l.lens i e.len ∙ z.lens-long;
  digests-long = length-set l.digests i e.digest ∙ z.digests-long;
  changed-long = length-set l.changed i e.changed ∙ z.changed-long;
  answered-long = length-set l.answered i e.answered ∙ z.answered-long;
  kinds-known = set_known 2 l.kinds i e.kind k.kind-known z.kinds-known;
  changed-known = set_known 1 l.changed i e.changed k.change-known z.changed-known;
  answered-known = set_known 1 l.answered i e.answered k.answer-known z.answered-known;
}

marked-steady : (m : Marks) (i : ℕ) (x : Mark) → leb x.code 1 ≡ true → MarksSteady m → MarksSteady (marked m i x)
marked-steady m i x k z = record {
  codes-long = length-set m.codes i x.code ∙ z.codes-long;
  ids-long = length-set m.ids i x.id ∙ z.ids-long;
  places-long = length-set m.places i x.place ∙ z.places-long;
  codes-known = set_known 1 m.codes i x.code k z.codes-known;
}

count-few : (n : ℕ) → n ≤ 1024 → next_count n ≤ 1024
unfolding next_count
count-few n h = go (ltb n 1024) refl
  where
    go : (b : Bool) → ltb n 1024 ≡ b → cond b (n + 1) n ≤ 1024
    go true e = let k = ltb-true n 1024 e in omega arith
    go false e = h

-- ---- the copy keeps its length

copy-kept : (media copy : List ℕ) (place : ℕ) (bytes : List ℕ) → length copy ≡ length media
    → length (overlaid copy place (postimage media place bytes)) ≡ length copy
unfolding postimage
copy-kept media copy place bytes e = go (le-or-gt (place + length bytes) (length media))
  where
    go : (place + length bytes ≤ length media) ⊎ (length media < place + length bytes)
        → length (overlaid copy place (cond (leb (place + length bytes) (length media)) (anded (part media place (length bytes)) bytes) [])) ≡ length copy
    go (inl k) =
        let p : length (part media place (length bytes)) ≡ length bytes = length_part media place (length bytes) k in
        let q : length (anded (part media place (length bytes)) bytes) ≡ length bytes = length-anded (part media place (length bytes)) bytes p ∙ p in
        rw (le-leb _ _ k) (length-overlaid copy place (anded (part media place (length bytes)) bytes) (rw (q, e) k))
    go (inr k) = rw (lt-leb _ _ k, overlaid-none copy place)

-- ---- one line

module _ (t : Told) (capacity : ℕ) (s : Session) (z : Steady capacity s) where
  -- a call that writes is refused and changes nothing, or is taken
  write-either : (b : Bool) (w : Written) (number : ℕ) → Steady capacity (after_write s w).session
      → Steady capacity (after_write s (cond b w (written (record { answer = number; counters = s.counters }) s.media s.copy s.log))).session
  write-either true w number y = y
  write-either false w number y = record {
    media-long = z.media-long;
    copy-long = z.copy-long;
    few-operations = z.few-operations;
    few-marks = z.few-marks;
    log-steady = z.log-steady;
    marks-steady = z.marks-steady;
  }

  abbrev n : ℕ
  n = s.counters.operations

  -- one that is taken: what it leaves of counters, media and copy, and its row
  taken-steady : (entry : Bool → ℕ → Entry) → ((b : Bool) (k : ℕ) → RowKnown (entry b k)) → (r : Called) (d : Landing)
      → r.counters.operations ≡ next_count n → r.counters.marks ≡ s.counters.marks → length d.media ≡ length s.media → length d.copy ≡ length s.copy
      → Steady capacity (after_write s (landed_so s.counters entry r d s.log)).session
  taken-steady entry k r d c q u v = record {
    media-long = u ∙ z.media-long;
    copy-long = v ∙ z.copy-long;
    few-operations = rw c (count-few n z.few-operations);
    few-marks = rw q z.few-marks;
    log-steady = logged-steady s.log n (entry d.changed r.answer) (k d.changed r.answer) z.log-steady;
    marks-steady = z.marks-steady;
  }

  program-steady : (offset : ℕ) (bytes : List ℕ) → Steady capacity (line_answered t s (program offset bytes)).session
  unfolding line_answered program_call program_plan write_reply program_landing
  program-steady offset bytes =
      let p : Plan = program_plan t s.counters offset (length bytes) in
      let d : Landing = program_landing offset p.landed bytes s.media s.copy in
      write-either (eqb (program_number_of t s.counters offset bytes s.media s.copy s.log) 0)
      (program_taken s.counters offset bytes p s.media s.copy s.log) (program_number_of t s.counters offset bytes s.media s.copy s.log)
      (taken-steady (program_entry offset bytes) (λ b k. record { kind-known = refl; change-known = flag-known b; answer-known = flag-known (eqb k 0) }) p.reply d refl refl
      (length-programmed s.media offset (take p.landed bytes))
      (copy-kept s.media s.copy (offset + p.landed) (drop p.landed bytes) (z.copy-long ∙ sym z.media-long)))

  erase-steady : (offset len : ℕ) → Steady capacity (line_answered t s (erase offset len)).session
  unfolding line_answered erase_call erase_plan write_reply erase_landing
  erase-steady offset len =
      let p : Plan = erase_plan t s.counters offset len in
      let d : Landing = erase_landing offset len p.landed s.media s.copy in
      write-either (eqb (erase_number_of t s.counters offset len s.media s.copy s.log) 0)
      (erase_taken s.counters offset len p s.media s.copy s.log) (erase_number_of t s.counters offset len s.media s.copy s.log)
      (taken-steady (erase_entry offset len) (λ b k. record { kind-known = refl; change-known = flag-known b; answer-known = flag-known (eqb k 0) }) p.reply d refl refl
      (length-erased s.media offset p.landed) (length-erased s.copy (offset + p.landed) (len - p.landed)))

  order-either : (b : Bool) (w : Ordered) (number : ℕ) → Steady capacity (after_barrier s w).session
      → Steady capacity (after_barrier s (cond b w (ordered (record { answer = number; counters = s.counters }) s.log))).session
  order-either true w number y = y
  order-either false w number y = record {
    media-long = z.media-long;
    copy-long = z.copy-long;
    few-operations = z.few-operations;
    few-marks = z.few-marks;
    log-steady = z.log-steady;
    marks-steady = z.marks-steady;
  }

  barrier-steady : Steady capacity (line_answered t s barrier).session
  unfolding line_answered barriered barrier_reply
  barrier-steady =
      let r : Called = barrier_reply t s.counters in
      let e : Entry = barrier_entry r.answer in
      order-either (eqb (barrier_test t s.counters s.log) 0) (ordered_by s.counters s.log r) (barrier_test t s.counters s.log)
      (record {
        media-long = z.media-long;
        copy-long = z.copy-long;
        few-operations = count-few n z.few-operations;
        few-marks = z.few-marks;
        log-steady = logged-steady s.log n e (record { kind-known = refl; change-known = refl; answer-known = flag-known (eqb r.answer 0) }) z.log-steady;
        marks-steady = z.marks-steady;
      })

  -- a call that marks is refused and changes nothing, or its marks fit
  note-either : (more : ℕ) (xs : List Mark) → MarksSteady (marked_from s.marks s.counters.marks xs) → (b : Bool) → eqb (noted_test s.counters more s.marks) 0 ≡ b
      → Steady capacity (after_mark s (cond b (noted (record { answer = 0; counters = noting s.counters more }) (marked_from s.marks s.counters.marks xs)) (noted (record { answer = noted_test s.counters more s.marks; counters = s.counters }) s.marks))).session
  note-either more xs y true e = record {
    media-long = z.media-long;
    copy-long = z.copy-long;
    few-operations = z.few-operations;
    few-marks = marks-fit s.counters.marks more (length s.marks.codes) (length s.marks.ids) (length s.marks.places) (eqb-true _ 0 e);
    log-steady = z.log-steady;
    marks-steady = y;
  }
  note-either more xs y false e = record {
    media-long = z.media-long;
    copy-long = z.copy-long;
    few-operations = z.few-operations;
    few-marks = z.few-marks;
    log-steady = z.log-steady;
    marks-steady = z.marks-steady;
  }

  one-noted : (x : Mark) → leb x.code 1 ≡ true → MarksSteady (marked_from s.marks s.counters.marks (x ∷ []))
  unfolding marked_from
  one-noted x k = marked-steady s.marks s.counters.marks x k z.marks-steady

  two-noted : (x y : Mark) → leb x.code 1 ≡ true → leb y.code 1 ≡ true → MarksSteady (marked_from s.marks s.counters.marks (x ∷ y ∷ []))
  unfolding marked_from
  two-noted x y k l =
      marked-steady (marked s.marks s.counters.marks x) (s.counters.marks + 1) y l (marked-steady s.marks s.counters.marks x k z.marks-steady)

  pub line-steady : (x : Call) → Steady capacity (line_answered t s x).session
  unfolding line_answered
  line-steady (begin id) = note-either 1 (mark_of 1 id n ∷ []) (one-noted (mark_of 1 id n) refl) _ refl
  line-steady end = note-either 1 (mark_of 0 0 n ∷ []) (one-noted (mark_of 0 0 n) refl) _ refl
  line-steady (mark id from to) = note-either 2 (mark_of 1 id from ∷ mark_of 0 0 to ∷ []) (two-noted (mark_of 1 id from) (mark_of 0 0 to) refl refl) _ refl
  line-steady (program offset bytes) = program-steady offset bytes
  line-steady (erase offset len) = erase-steady offset len
  line-steady barrier = barrier-steady

-- ---- all of them

wrote-either : (capacity : ℕ) (b : Bool) (w v : Wrote) → Steady capacity w.session → Steady capacity v.session → Steady capacity (cond b w v).session
wrote-either capacity true w v y z = y
wrote-either capacity false w v y z = z

pub wrote-steady : (t : Told) (co : Bool) (capacity : ℕ) (xs : List Call) (s : Session) → Steady capacity s → Steady capacity (wrote t co s xs).session
unfolding wrote
wrote-steady t co capacity [] s z = z
wrote-steady t co capacity (x ∷ xs) s z =
    let y = line-steady t capacity s z x in
    wrote-either capacity (eqb (line_answered t s x).answer 0 || co) (wrote t co (line_answered t s x).session xs) (record { session = (line_answered t s x).session; failed = true })
    (wrote-steady t co capacity xs (line_answered t s x).session y) y

pub opened-steady : (h : Head) → Steady h.geometry.capacity (opened_by h)
opened-steady h = record {
  media-long = length-replicate h.geometry.capacity ff;
  copy-long = length-replicate {A = ℕ} h.geometry.capacity 0;
  few-operations = zero-le;
  few-marks = zero-le;
  log-steady = record {
    kinds-long = length-replicate {A = ℕ} 1024 0;
    offsets-long = length-replicate {A = ℕ} 1024 0;
    lens-long = length-replicate {A = ℕ} 1024 0;
    digests-long = length-replicate {A = ℕ} 1024 0;
    changed-long = length-replicate {A = ℕ} 1024 0;
    answered-long = length-replicate {A = ℕ} 1024 0;
    kinds-known = zeros-known 2 1024;
    changed-known = zeros-known 1 1024;
    answered-known = zeros-known 1 1024;
  };
  marks-steady = record { codes-long = length-replicate {A = ℕ} 512 0; ids-long = length-replicate {A = ℕ} 512 0; places-long = length-replicate {A = ℕ} 512 0; codes-known = zeros-known 1 512 };
}

-- whatever the script and the injection
pub run-steady : (h : Head) (xs : List Call) (a : Armed) → Steady h.geometry.capacity (run_by h xs a).session
unfolding run_by
run-steady h xs a = wrote-steady (told_by h a) h.carries_on h.geometry.capacity xs (opened_by h) (opened-steady h)
