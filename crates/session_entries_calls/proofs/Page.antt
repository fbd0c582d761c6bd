-- The page CarriesOver, proved: what a call records in the columns is one entry stored at the count, so the two logs stay the same, for
-- one call and for a list of them. Assumes nothing.
use mathlib.Core.Path.{◌≡◌, refl, sym, ap, subst, ◌∙◌}
use mathlib.Core.Bool.{Bool, true, false, cond}
use mathlib.Core.List.{List, [], ◌∷◌}
use Prim.Native.Nat.{ℕ, ◌<◌, ◌≤◌}
use native.Mathlib.Omega.{arith}
use lib.ListN.{length, set, length-set}
use lib.Dec.{eqb}
use borrow.Author.Tests.{eqb-true}
use Rattle.session.specs.declared.Told.{Told}
use Rattle.session.specs.declared.Entry.{Entry}
use Rattle.session.specs.Log.{Log, logged}
use Rattle.session.specs.Barrier.{barrier_test}
use Rattle.session_erase.specs.Erase.{erase_number_of}
use Rattle.session_program.specs.Program.{program_number_of}
use Rattle.plain.specs.Plain.{program, erase, barrier, Call, act, mark}
use Rattle.records.specs.Records.{begin, end}
use Rattle.threaded.specs.Threaded.{Session, answered, threaded}
use Rattle.session_entries.specs.Entries.{with_rows, moved_test, entries_number, to_entries, columns_number, to_columns, OfLength, Same}
use Rattle.session_entries.proofs.Refused.{moved-fits}
use Rattle.session_entries.proofs.Correspond.{again}
use Rattle.session_entries.proofs.Recorded.{recorded-is-stored, stored_same, recorded-length}
use Rattle.session_entries.proofs.Returned.{refused-entries, refused-columns, unrefused, entries-all, handed-on, handed-past, got-back, got-past, handed-length, got-length, entries-of, columns-of}
use Rattle.session_entries_calls.proofs.Calls.{recorded_by, erase-ready, program-ready, barrier-ready, erase-records, program-records, barrier-records}
use Rattle.session_entries_calls.specs.CarriesOver.{stored_by, entries_after, entries_through, with_log, Kept, kept_of, kept_through, CarriesOver}

-- ---- one call, by its number

kept_by : (b : Bool) (n : ℕ) (log : List Entry) (l : Log) (i : ℕ) (e : Entry) → Same n log l → Same n (cond b (set log i e) log) (cond b (logged l i e) l)
kept_by true n log l i e s = stored_same n log l s i e
kept_by false n log l i e s = s

length-by : (b : Bool) (log : List Entry) (i : ℕ) (e : Entry) → length (cond b (set log i e) log) ≡ length log
length-by true log i e = length-set log i e
length-by false log i e = refl

lengths-by : (b : Bool) (n : ℕ) (l : Log) (i : ℕ) (e : Entry) → OfLength n l → OfLength n (cond b (logged l i e) l)
lengths-by true n l i e even = recorded-length n l i e even
lengths-by false n l i e even = even

rows-by : (b : Bool) (n : ℕ) (log : List Entry) (l : Log) (i : ℕ) (e : Entry) → OfLength n l → Same n log l → (b ≡ true → i < n) → with_rows (cond b (logged l i e) l) log n ≡ cond b (set log i e) log
rows-by true n log l i e even s low = recorded-is-stored l log n i e even (low refl) s.entries ∙ ap (λ (xs : List Entry). set xs i e) (again n log l s)
rows-by false n log l i e even s low = again n log l s

-- the columns that a call leaves, handed on to a log that was the same as those before it
again_by : (number : ℕ) (log : List Entry) (l : Log) (i : ℕ) (e : Entry) → OfLength (length l.kinds) l → Same (length l.kinds) log l → (number ≡ 0 → i < length l.kinds)
    → to_entries (recorded_by number l i e) log ≡ stored_by number log i e
again_by number log l i e even s low =
    let after = lengths-by (eqb number 0) (length l.kinds) l i e even in
    entries-all (recorded_by number l i e) log (unrefused (length l.kinds) (recorded_by number l i e) (length (recorded_by number l i e).kinds) (length log) after (subst (λ (m : ℕ). m ≤ length log) (sym after.0) s.entries))
    ∙ ap (with_rows (recorded_by number l i e) log) after.0
    ∙ rows-by (eqb number 0) (length l.kinds) log l i e even s (λ t. low (eqb-true number 0 t))

-- the number of handing on is a matter of lengths, which a call keeps
number_by : (b : Bool) (l : Log) (i : ℕ) (e : Entry) (log : List Entry) → entries_number (cond b (logged l i e) l) log ≡ entries_number l log
number_by true l i e log = λ k.
    moved_test (length-set l.kinds i e.kind k) (length-set l.offsets i e.offset k) (length-set l.lens i e.len k) (length-set l.digests i e.digest k)
    (length-set l.changed i e.changed k) (length-set l.answered i e.answered k) (length-set l.kinds i e.kind k) (length log)
number_by false l i e log = refl

-- ---- every call

number-stays : (t : Told) (s : Session) (x : Call) (log : List Entry) → entries_number (answered t s x).session.log log ≡ entries_number s.log log
unfolding answered
number-stays t s (act (program offset bytes)) log =
    ap (λ (k : Log). entries_number k log) (program-records t s.counters offset bytes s.media s.copy s.log)
    ∙ number_by (eqb (program_number_of t s.counters offset bytes s.media s.copy s.log) 0) s.log s.counters.operations _ log
number-stays t s (act (erase offset len)) log =
    ap (λ (k : Log). entries_number k log) (erase-records t s.counters offset len s.media s.copy s.log)
    ∙ number_by (eqb (erase_number_of t s.counters offset len s.media s.copy s.log) 0) s.log s.counters.operations _ log
number-stays t s (act barrier) log =
    ap (λ (k : Log). entries_number k log) (barrier-records t s.counters s.log)
    ∙ number_by (eqb (barrier_test t s.counters s.log) 0) s.log s.counters.operations _ log
number-stays t s (mark (begin id)) log = refl
number-stays t s (mark end) log = refl

call-keeps : (t : Told) (s : Session) (x : Call) (n : ℕ) (log : List Entry) → Same n log s.log → Same n (entries_after t s x log) (answered t s x).session.log
unfolding answered
call-keeps t s (act (program offset bytes)) n log same =
    subst (λ (k : Log). Same n (entries_after t s (act (program offset bytes)) log) k) (sym (program-records t s.counters offset bytes s.media s.copy s.log))
    (kept_by (eqb (program_number_of t s.counters offset bytes s.media s.copy s.log) 0) n log s.log s.counters.operations _ same)
call-keeps t s (act (erase offset len)) n log same =
    subst (λ (k : Log). Same n (entries_after t s (act (erase offset len)) log) k) (sym (erase-records t s.counters offset len s.media s.copy s.log))
    (kept_by (eqb (erase_number_of t s.counters offset len s.media s.copy s.log) 0) n log s.log s.counters.operations _ same)
call-keeps t s (act barrier) n log same =
    subst (λ (k : Log). Same n (entries_after t s (act barrier) log) k) (sym (barrier-records t s.counters s.log))
    (kept_by (eqb (barrier_test t s.counters s.log) 0) n log s.log s.counters.operations _ same)
call-keeps t s (mark (begin id)) n log same = same
call-keeps t s (mark end) n log same = same

after-length : (t : Told) (s : Session) (x : Call) (log : List Entry) → length (entries_after t s x log) ≡ length log
after-length t s (act (program offset bytes)) log = length-by (eqb (program_number_of t s.counters offset bytes s.media s.copy s.log) 0) log s.counters.operations _
after-length t s (act (erase offset len)) log = length-by (eqb (erase_number_of t s.counters offset len s.media s.copy s.log) 0) log s.counters.operations _
after-length t s (act barrier) log = length-by (eqb (barrier_test t s.counters s.log) 0) log s.counters.operations _
after-length t s (mark label) log = refl

left-lengths : (t : Told) (s : Session) (x : Call) (n : ℕ) → OfLength n s.log → OfLength n (answered t s x).session.log
unfolding answered
left-lengths t s (act (program offset bytes)) n even =
    subst (OfLength n) (sym (program-records t s.counters offset bytes s.media s.copy s.log))
    (lengths-by (eqb (program_number_of t s.counters offset bytes s.media s.copy s.log) 0) n s.log s.counters.operations _ even)
left-lengths t s (act (erase offset len)) n even =
    subst (OfLength n) (sym (erase-records t s.counters offset len s.media s.copy s.log))
    (lengths-by (eqb (erase_number_of t s.counters offset len s.media s.copy s.log) 0) n s.log s.counters.operations _ even)
left-lengths t s (act barrier) n even =
    subst (OfLength n) (sym (barrier-records t s.counters s.log))
    (lengths-by (eqb (barrier_test t s.counters s.log) 0) n s.log s.counters.operations _ even)
left-lengths t s (mark (begin id)) n even = even
left-lengths t s (mark end) n even = even

on-again : (t : Told) (s : Session) (x : Call) (log : List Entry) → OfLength (length s.log.kinds) s.log → entries_number s.log log ≡ 0 → Same (length s.log.kinds) log s.log
    → to_entries (answered t s x).session.log log ≡ entries_after t s x log
unfolding answered
on-again t s (act (program offset bytes)) log even z same =
    ap (λ (k : Log). to_entries k log) (program-records t s.counters offset bytes s.media s.copy s.log)
    ∙ again_by (program_number_of t s.counters offset bytes s.media s.copy s.log) log s.log s.counters.operations _ even same (λ y. (program-ready t s.counters offset bytes s.media s.copy s.log y).1)
on-again t s (act (erase offset len)) log even z same =
    ap (λ (k : Log). to_entries k log) (erase-records t s.counters offset len s.media s.copy s.log)
    ∙ again_by (erase_number_of t s.counters offset len s.media s.copy s.log) log s.log s.counters.operations _ even same (λ y. (erase-ready t s.counters offset len s.media s.copy s.log y).1)
on-again t s (act barrier) log even z same =
    ap (λ (k : Log). to_entries k log) (barrier-records t s.counters s.log)
    ∙ again_by (barrier_test t s.counters s.log) log s.log s.counters.operations _ even same (λ y. (barrier-ready t s.counters s.log y).1)
on-again t s (mark (begin id)) log even z same = entries-all s.log log z ∙ again (length s.log.kinds) log s.log same
on-again t s (mark end) log even z same = entries-all s.log log z ∙ again (length s.log.kinds) log s.log same

handed_on-again : (t : Told) (s : Session) (x : Call) (log : List Entry) → entries_number s.log log ≡ 0 → Same (length s.log.kinds) log s.log
    → to_entries (answered t s x).session.log log ≡ entries_after t s x log
handed_on-again t s x log z same = on-again t s x log (moved-fits s.log (length s.log.kinds) (length log) z).0 z same

one-length : (a b : ℕ) → a ≤ b → b ≤ a → a ≡ b
one-length a b h k = omega (arith, h, k)

self : (n : ℕ) → n ≤ n
self n = omega arith

kept-as-entries : (t : Told) (s : Session) (x : Call) (log : List Entry) → columns_number log s.log ≡ 0 → entries_number s.log log ≡ 0
    → to_entries (answered t (with_log s (to_columns log s.log)) x).session.log log ≡ entries_after t (with_log s (to_columns log s.log)) x log
kept-as-entries t s x log z y =
    let p = one-length (length log) (length s.log.kinds) (moved-fits s.log (length log) (length s.log.kinds) z).1 (moved-fits s.log (length s.log.kinds) (length log) y).1 in
    let even = got-length log s.log (length s.log.kinds) (moved-fits s.log (length log) (length s.log.kinds) z).0 in
    let q = p ∙ sym even.0 in
    handed_on-again t (with_log s (to_columns log s.log)) x log
    (unrefused (length s.log.kinds) (to_columns log s.log) (length (to_columns log s.log).kinds) (length log) even (subst (λ (m : ℕ). m ≤ length log) q (self (length log))))
    (subst (λ (m : ℕ). Same m log (to_columns log s.log)) q (got-back log s.log z))

-- ---- a list of calls

calls-keep : (t : Told) (s : Session) (xs : List Call) (n : ℕ) (log : List Entry) → Same n log s.log → Same n (entries_through t s xs log) (threaded t s xs).session.log
unfolding threaded entries_through
calls-keep t s [] n log same = same
calls-keep t s (x ∷ xs) n log same = calls-keep t (answered t s x).session xs n (entries_after t s x log) (call-keeps t s x n log same)

through-length : (t : Told) (s : Session) (xs : List Call) (log : List Entry) → length (entries_through t s xs log) ≡ length log
unfolding entries_through
through-length t s [] log = refl
through-length t s (x ∷ xs) log = through-length t (answered t s x).session xs (entries_after t s x log) ∙ after-length t s x log

through-lengths : (t : Told) (s : Session) (xs : List Call) (n : ℕ) → OfLength n s.log → OfLength n (threaded t s xs).session.log
unfolding threaded
through-lengths t s [] n even = even
through-lengths t s (x ∷ xs) n even = through-lengths t (answered t s x).session xs n (left-lengths t s x n even)

-- one call of a caller who keeps the log as entries, from a session that is lent its columns
abbrev kept_from : Told → Session → Call → List Call → List Entry → Kept
kept_from t s x xs log =
    let next : Kept = kept_through t (answered t s x).session xs (to_entries (answered t s x).session.log log) in
    record { answers = (answered t s x).answer ∷ next.answers; session = next.session; entries = next.entries }

abbrev kept_and : ℕ → Kept → Kept
kept_and answer next = record { answers = answer ∷ next.answers; session = next.session; entries = next.entries }

kept-through : (t : Told) (s : Session) (xs : List Call) (n : ℕ) (log : List Entry) → Same n log s.log → length log ≡ n → OfLength n s.log
    → kept_through t s xs log ≡ kept_of (threaded t s xs) (entries_through t s xs log)
unfolding kept_through threaded entries_through
kept-through t s [] n log same p even = refl
kept-through t s (x ∷ xs) n log same p even =
    let own = even.0 in
    let own-even = subst (λ (m : ℕ). OfLength m s.log) (sym own) even in
    let z = unrefused n s.log (length s.log.kinds) (length log) even (subst (λ (m : ℕ). m ≤ length log) (sym own) same.entries) in
    ap (λ (l : Log). kept_from t (with_log s l) x xs log) (columns-of n log s.log s.log same p even even)
    ∙ ap (λ (log' : List Entry). kept_and (answered t s x).answer (kept_through t (answered t s x).session xs log')) (on-again t s x log own-even z (subst (λ (m : ℕ). Same m log s.log) (sym own) same))
    ∙ ap (kept_and (answered t s x).answer) (kept-through t (answered t s x).session xs n (entries_after t s x log) (call-keeps t s x n log same) (after-length t s x log ∙ p) (left-lengths t s x n even))

calls-return : (t : Told) (s : Session) (xs : List Call) (n : ℕ) (log : List Entry) (l : Log) → Same n log s.log → length log ≡ n → OfLength n s.log → OfLength n l
    → to_columns (entries_through t s xs log) l ≡ (threaded t s xs).session.log
calls-return t s xs n log l same p even even' =
    columns-of n (entries_through t s xs log) (threaded t s xs).session.log l (calls-keep t s xs n log same) (through-length t s xs log ∙ p) (through-lengths t s xs n even) even'

pub carries_over : CarriesOver
carries_over = record {
  handed-on = handed-on;
  as-many-entries = handed-length;
  past-the-columns = handed-past;
  got-back = got-back;
  as-many-rows = got-length;
  past-the-entries = got-past;
  entries-refused = refused-entries;
  columns-refused = refused-columns;
  entries-of = entries-of;
  columns-of = columns-of;
  call-keeps = call-keeps;
  calls-keep = calls-keep;
  number-stays = number-stays;
  handed_on-again = handed_on-again;
  kept-as-entries = kept-as-entries;
  kept-through = kept-through;
  calls-return = calls-return;
}
