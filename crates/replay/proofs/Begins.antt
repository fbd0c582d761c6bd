-- How many entries the plain run's ledger has: as many as begins were taken, which the calls' codes tell.
--     ledger-many      of calls in columns of one length whose codes have a meaning
-- Assumes nothing.
use mathlib.Core.Logic.{⊎_elim}
use mathlib.Core.Path.{◌≡◌, refl, sym, ap, ap₂, ◌∙◌}
use mathlib.Core.Bool.{Bool, true, false, cond, ◌&&◌, true≢false}
use mathlib.Core.List.{List, [], ◌∷◌, ◌++◌}
use Prim.Native.Nat.{ℕ, zero, suc, ◌+◌}
use native.Mathlib.Nat.{add_assoc, zero-add, add-zero}
use native.Mathlib.Omega.{arith}
use lib.ListN.{length, take, length-append}
use lib.Dec.{eqb, leb, ltb}
use borrow.Author.Tests.{le-leb, lt-leb, lt-ltb, le-ltb}
use Rattle.std.proofs.lemmas.Bool.{and_parts}
use Rattle.basics.specs.Tests.{flag, unless}
use Rattle.basics.proofs.Tests.{le-or-gt}
use Rattle.storage.specs.declared.Geometry.{Geometry}
use Rattle.model.specs.Ledger.{Entry, ids}
use Rattle.model.specs.Columns.{all_up_to}
use Rattle.session.specs.declared.Told.{Told}
use Rattle.session.specs.Armed.{Armed}
use Rattle.std.specs.Prelude.{None as Nothing, Some as At}
use Rattle.session.specs.Tests.{mark_test}
use Rattle.records.specs.Records.{Label, begin, end, RecordMark}
use Rattle.plain.specs.Plain.{Act, Call, act, mark, Op, Run, refusal, mark_refusal, wholly, taken_by, refused, step, run, unrun, plain}
use Rattle.plain.specs.Ledger.{id_of, begun, ledger}
use Rattle.plain.proofs.Entries.{ledger-ids}
use Rattle.script.specs.Calls as line
use Rattle.script.specs.Columns.{Columns}
use Rattle.script.specs.Held.{call_from, rows_in}
use Rattle.rows.specs.Rows.{takes, begins_from}
use Rattle.rows.proofs.Numbers.{RowsEven}
use Rattle.steps.specs.Calls.{plain_calls}
use Rattle.replay.specs.Replay.{list_of}

is_begin : Label → Bool
is_begin (begin id) = true
is_begin end = false

-- the begins that a run takes of a list of calls, where so many marks were taken before
begins : ℕ → List Call → ℕ
begins m [] = 0
begins m (act a ∷ xs) = begins m xs
begins m (mark l ∷ xs) = flag (ltb m 512 && is_begin l) + begins (m + flag (ltb m 512)) xs

-- ---- the marks of a run

either-marks : (b : Bool) (x y : Run) (ms : List RecordMark) → x.marks ≡ ms → y.marks ≡ ms → (cond b x y).marks ≡ ms
either-marks true x y ms e f = e
either-marks false x y ms e f = f

taken-marks : (g : Geometry) (a : Armed) (r : Run) (o : Op) → (taken_by g a r o).marks ≡ r.marks
unfolding taken_by
taken-marks g Nothing r o = refl
taken-marks g (At j) r o = either-marks (eqb j.op (length r.ops)) _ _ r.marks refl refl

act-marks : (t : Told) (r : Run) (a : Act) → (step t r (act a)).marks ≡ r.marks
unfolding step
act-marks t r a =
    either-marks (eqb (refusal t r a) 0) (taken_by t.geometry t.armed r (wholly r.media a)) (refused r (refusal t r a)) r.marks
    (taken-marks t.geometry t.armed r (wholly r.media a)) refl

begun-snoc : (ms : List RecordMark) (m : RecordMark) → length (begun (ms ++ (m ∷ []))) ≡ length (begun ms) + flag (is_begin m.label)
unfolding begun is_begin
begun-snoc [] m = go m.label
  where
    go : (l : Label) → length (id_of l []) ≡ 0 + flag (is_begin l)
    go (begin id) = refl
    go end = refl
begun-snoc (k ∷ ms) m = go k.label (begun-snoc ms m)
  where
    go : (l : Label) → length (begun (ms ++ (m ∷ []))) ≡ length (begun ms) + flag (is_begin m.label)
        → length (id_of l (begun (ms ++ (m ∷ [])))) ≡ length (id_of l (begun ms)) + flag (is_begin m.label)
    go (begin id) e = omega arith
    go end e = e

-- a mark: taken while there are fewer than 512
module _ (t : Told) (r : Run) (l : Label) where
  next : RecordMark
  next = record { label = l; place = length r.ops }

  mark-number : (b : Bool) → ltb (length r.marks) 512 ≡ b → mark_refusal r ≡ unless b 28
  unfolding mark_refusal mark_test
  mark-number b e = ap (λ (x : Bool). unless x 28) (more (length r.marks) 512 ∙ e)
    where
      more : (m n : ℕ) → leb (m + 1) n ≡ ltb m n
      more m n = ⊎_elim (λ w. lt-leb (m + 1) n (omega arith) ∙ sym (le-ltb m n w)) (λ w. le-leb (m + 1) n (omega arith) ∙ sym (lt-ltb m n w)) (le-or-gt n m)

  mark-marks : (b : Bool) → ltb (length r.marks) 512 ≡ b → (step t r (mark l)).marks ≡ cond b (r.marks ++ (next ∷ [])) r.marks
  unfolding step unless next
  mark-marks true e = rw (mark-number true e)
  mark-marks false e = rw (mark-number false e)

  mark-many : (b : Bool) → ltb (length r.marks) 512 ≡ b → length (step t r (mark l)).marks ≡ length r.marks + flag b
  mark-many true e = ap length (mark-marks true e) ∙ length-append r.marks (next ∷ [])
  mark-many false e = ap length (mark-marks false e) ∙ sym (add-zero (length r.marks))

  mark-begun : (b : Bool) → ltb (length r.marks) 512 ≡ b → length (begun (step t r (mark l)).marks) ≡ length (begun r.marks) + flag (b && is_begin l)
  unfolding next
  mark-begun true e = ap (λ (ms : List RecordMark). length (begun ms)) (mark-marks true e) ∙ begun-snoc r.marks next
  mark-begun false e = ap (λ (ms : List RecordMark). length (begun ms)) (mark-marks false e) ∙ sym (add-zero (length (begun r.marks)))

run-begins : (t : Told) (r : Run) (xs : List Call) → length (begun (run t r xs).marks) ≡ length (begun r.marks) + begins (length r.marks) xs
unfolding run begins
run-begins t r [] = sym (add-zero (length (begun r.marks)))
run-begins t r (act a ∷ xs) =
    run-begins t (step t r (act a)) xs
    ∙ ap (λ (ms : List RecordMark). length (begun ms) + begins (length ms) xs) (act-marks t r a)
run-begins t r (mark l ∷ xs) =
    let b : Bool = ltb (length r.marks) 512 in
    run-begins t (step t r (mark l)) xs
    ∙ ap₂ (λ (n k : ℕ). n + begins k xs) (mark-begun t r l b refl) (mark-many t r l b refl)
    ∙ add_assoc (length (begun r.marks)) (flag (b && is_begin l)) (begins (length r.marks + flag b) xs)

-- ---- calls in columns

-- by the kind of a row
one-begins : (m j a b c s : ℕ) (pool : List ℕ) (xs : List line.Call) → leb j 4 ≡ true
    → begins m (plain_calls (call_from j a b c s pool ∷ xs)) ≡ flag (takes m j && eqb j 3) + begins (m + flag (takes m j)) (plain_calls xs)
unfolding begins plain_calls is_begin
one-begins m zero a b c s pool xs h = sym (zero-add _ ∙ ap (λ (n : ℕ). begins n (plain_calls xs)) (add-zero m))
one-begins m (suc zero) a b c s pool xs h = sym (zero-add _ ∙ ap (λ (n : ℕ). begins n (plain_calls xs)) (add-zero m))
one-begins m (suc (suc zero)) a b c s pool xs h = sym (zero-add _ ∙ ap (λ (n : ℕ). begins n (plain_calls xs)) (add-zero m))
one-begins m (suc (suc (suc zero))) a b c s pool xs h = refl
one-begins m (suc (suc (suc (suc zero)))) a b c s pool xs h = refl
one-begins m (suc (suc (suc (suc (suc j))))) a b c s pool xs h = absurd (true≢false (sym h ∙ lt-leb (suc (suc (suc (suc (suc j))))) 4 (omega arith)))

codes-begins : (m n : ℕ) (ks xs bs cs ss pool : List ℕ) → length xs ≡ length ks → length bs ≡ length ks → length cs ≡ length ks → length ss ≡ length ks
    → all_up_to 4 (take n ks) ≡ true → begins m (plain_calls (rows_in n ks xs bs cs ss pool)) ≡ begins_from m (take n ks)
unfolding rows_in plain_calls begins begins_from all_up_to
codes-begins m zero ks xs bs cs ss pool p q r o h = refl
codes-begins m (suc n) [] xs bs cs ss pool p q r o h = refl
codes-begins m (suc n) (k ∷ ks) [] bs cs ss pool p q r o h = absurd (omega arith)
codes-begins m (suc n) (k ∷ ks) (a ∷ xs) [] cs ss pool p q r o h = absurd (omega arith)
codes-begins m (suc n) (k ∷ ks) (a ∷ xs) (b ∷ bs) [] ss pool p q r o h = absurd (omega arith)
codes-begins m (suc n) (k ∷ ks) (a ∷ xs) (b ∷ bs) (c ∷ cs) [] pool p q r o h = absurd (omega arith)
codes-begins m (suc n) (k ∷ ks) (a ∷ xs) (b ∷ bs) (c ∷ cs) (s ∷ ss) pool p q r o h =
    let two = and_parts (leb k 4) (all_up_to 4 (take n ks)) h in
    one-begins m k a b c s pool (rows_in n ks xs bs cs ss pool) two.0
    ∙ ap (λ (i : ℕ). flag (takes m k && eqb k 3) + i)
    (codes-begins (m + flag (takes m k)) n ks xs bs cs ss pool (omega arith) (omega arith) (omega arith) (omega arith) two.1)

many-ids : (l : List Entry) → length l ≡ length (ids l)
unfolding ids
many-ids [] = refl
many-ids (e ∷ es) = ap suc (many-ids es)

pub ledger-many : (t : Told) (media : List ℕ) (rows : ℕ) (k : Columns) → RowsEven k → all_up_to 4 (take rows k.kinds) ≡ true
    → length (ledger (plain t media (list_of rows k))) ≡ begins_from 0 (take rows k.kinds)
unfolding plain begun
ledger-many t media rows k e h =
    many-ids (ledger (plain t media (list_of rows k))) ∙ ap length (ledger-ids (plain t media (list_of rows k))) ∙ run-begins t (unrun media) (list_of rows k) ∙ zero-add _
    ∙ codes-begins 0 rows k.kinds k.firsts k.seconds k.thirds k.starts k.pool e.0 e.1 e.2 e.3 h
