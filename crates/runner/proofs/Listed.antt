-- Rows without a range that carry on are a list of calls.
--     listed          run in turn they are the calls through the session, each with its answer
--     no-range        kinds of at most 4 mark no range
--     few-answers     there are at most as many answers as rows
--     answers-fit     answers that fit are at the beginning of their column
-- Assumes nothing.
use mathlib.Core.Path.{◌≡◌, refl, sym, ap, ◌∙◌}
use mathlib.Core.Bool.{Bool, true, false, cond, true≢false}
use mathlib.Core.List.{List, [], ◌∷◌, ◌++◌, map}
use Prim.Native.Nat.{ℕ, zero, suc, ◌+◌, ◌≤◌, zero-le, suc-le-suc}
use native.Mathlib.Nat.{le_trans}
use native.Mathlib.Omega.{arith}
use lib.ListN.{length, take, drop}
use lib.Seq.{sets-eq}
use lib.Dec.{eqb, leb}
use borrow.Author.Tests.{lt-leb}
use Rattle.std.proofs.Math.Bool.{or-true}
use Rattle.std.proofs.lemmas.Bool.{and_parts}
use Rattle.model.specs.Columns.{all_up_to}
use Rattle.session.specs.declared.Told.{Told}
use Rattle.plain.specs.Plain
use Rattle.script.specs.Calls.{Call, begin, end, mark, program, erase, barrier}
use Rattle.script.specs.Columns.{Columns}
use Rattle.script.specs.Held.{call_from, rows_in, calls_in}
use Rattle.threaded.specs.Threaded.{Session, Answered, answered, Threaded, threaded}
use Rattle.steps.specs.Writer.{line_answered}
use Rattle.steps.specs.Step.{call, step_answered}
use Rattle.steps.specs.Calls.{no_range, plain_calls}
use Rattle.steps.proofs.Lines.{Same, none, more, lines_same}
use Rattle.runner.specs.Run.{Outcome, turned, ran_rows, leaves}

-- rows that carry on, as a list of calls
abbrev pub carried_on : Threaded → Outcome
carried_on x = record { answers = x.answers; session = x.session; failed = false }

module _ (t : Told) where
  -- one call, and those after it
  call-on : (s : Session) (x : Call) (c : Plain.Call) (xs : List Call) (cs : List Plain.Call) → line_answered t s x ≡ answered t s c
      → ((u : Session) → ran_rows t true u (map call xs) ≡ carried_on (threaded t u cs))
      → ran_rows t true s (call x ∷ map call xs) ≡ carried_on (threaded t s (c ∷ cs))
  unfolding ran_rows threaded step_answered
  call-on s x c xs cs e rest =
      let y : Answered = answered t s c in
      ap (λ (z : Answered). turned true z (ran_rows t true z.session (map call xs))) e
      ∙ ap (λ (b : Bool). cond b (record { answers = y.answer ∷ (ran_rows t true y.session (map call xs)).answers; session = (ran_rows t true y.session (map call xs)).session; failed = (ran_rows t true y.session (map call xs)).failed }) (record { answers = y.answer ∷ []; session = y.session; failed = true })) (or-true (eqb y.answer 0))
      ∙ ap (λ (w : Outcome). record { answers = y.answer ∷ w.answers; session = w.session; failed = w.failed }) (rest y.session)

  none-on : (s : Session) → ran_rows t true s [] ≡ carried_on (threaded t s [])
  unfolding ran_rows threaded
  none-on s = refl

  calls-on : (s : Session) (xs : List Call) (cs : List Plain.Call) → Same xs cs → ran_rows t true s (map call xs) ≡ carried_on (threaded t s cs)
  calls-on s _ _ none = none-on s
  calls-on s _ _ (more x c xs cs e r) = call-on s x c xs cs (e t s) (λ u. calls-on u xs cs r)

  pub listed : (s : Session) (xs : List Call) → no_range xs ≡ true → ran_rows t true s (map call xs) ≡ carried_on (threaded t s (plain_calls xs))
  listed s xs h = calls-on s xs (plain_calls xs) (lines_same xs h)

-- ---- the calls of rows

module _ (pool : List ℕ) where
  -- a kind of at most 4 marks no range
  no-range-one : (j a b c s : ℕ) (xs : List Call) → leb j 4 ≡ true → no_range xs ≡ true → no_range (call_from j a b c s pool ∷ xs) ≡ true
  unfolding no_range
  no-range-one zero a b c s xs h e = e
  no-range-one (suc zero) a b c s xs h e = e
  no-range-one (suc (suc zero)) a b c s xs h e = e
  no-range-one (suc (suc (suc zero))) a b c s xs h e = e
  no-range-one (suc (suc (suc (suc zero)))) a b c s xs h e = e
  no-range-one (suc (suc (suc (suc (suc j))))) a b c s xs h e = absurd (true≢false (sym h ∙ lt-leb (suc (suc (suc (suc (suc j))))) 4 (omega arith)))

  no-range-rows : (n : ℕ) (ks xs bs cs ss : List ℕ) → all_up_to 4 (take n ks) ≡ true → no_range (rows_in n ks xs bs cs ss pool) ≡ true
  unfolding rows_in all_up_to no_range
  no-range-rows zero ks xs bs cs ss h = refl
  no-range-rows (suc n) [] xs bs cs ss h = refl
  no-range-rows (suc n) (k ∷ ks) [] bs cs ss h = refl
  no-range-rows (suc n) (k ∷ ks) (a ∷ xs) [] cs ss h = refl
  no-range-rows (suc n) (k ∷ ks) (a ∷ xs) (b ∷ bs) [] ss h = refl
  no-range-rows (suc n) (k ∷ ks) (a ∷ xs) (b ∷ bs) (c ∷ cs) [] h = refl
  no-range-rows (suc n) (k ∷ ks) (a ∷ xs) (b ∷ bs) (c ∷ cs) (s ∷ ss) h =
      let two = and_parts (leb k 4) (all_up_to 4 (take n ks)) h in
      no-range-one k a b c s (rows_in n ks xs bs cs ss pool) two.0 (no-range-rows n ks xs bs cs ss two.1)

  rows_few : (n : ℕ) (ks xs bs cs ss : List ℕ) → length (rows_in n ks xs bs cs ss pool) ≤ n
  unfolding rows_in
  rows_few zero ks xs bs cs ss = zero-le
  rows_few (suc n) [] xs bs cs ss = zero-le
  rows_few (suc n) (k ∷ ks) [] bs cs ss = zero-le
  rows_few (suc n) (k ∷ ks) (a ∷ xs) [] cs ss = zero-le
  rows_few (suc n) (k ∷ ks) (a ∷ xs) (b ∷ bs) [] ss = zero-le
  rows_few (suc n) (k ∷ ks) (a ∷ xs) (b ∷ bs) (c ∷ cs) [] = zero-le
  rows_few (suc n) (k ∷ ks) (a ∷ xs) (b ∷ bs) (c ∷ cs) (s ∷ ss) = suc-le-suc (rows_few n ks xs bs cs ss)

pub no-range : (n : ℕ) (k : Columns) → all_up_to 4 (take n k.kinds) ≡ true → no_range (calls_in n k) ≡ true
no-range n k h = no-range-rows k.pool n k.kinds k.firsts k.seconds k.thirds k.starts h

calls-few : (xs : List Call) → length (plain_calls xs) ≤ length xs
unfolding plain_calls
calls-few [] = zero-le
calls-few (begin id ∷ xs) = suc-le-suc (calls-few xs)
calls-few (end ∷ xs) = suc-le-suc (calls-few xs)
calls-few (mark id from to ∷ xs) = let h = calls-few xs in omega arith
calls-few (program offset bytes ∷ xs) = suc-le-suc (calls-few xs)
calls-few (erase offset count ∷ xs) = suc-le-suc (calls-few xs)
calls-few (barrier ∷ xs) = suc-le-suc (calls-few xs)

answers-many : (t : Told) (s : Session) (xs : List Plain.Call) → length (threaded t s xs).answers ≡ length xs
unfolding threaded
answers-many t s [] = refl
answers-many t s (x ∷ xs) = ap suc (answers-many t (answered t s x).session xs)

pub few-answers : (t : Told) (s : Session) (n : ℕ) (k : Columns) → length (threaded t s (plain_calls (calls_in n k))).answers ≤ n
few-answers t s n k =
    rw (answers-many t s (plain_calls (calls_in n k)))
    (le_trans (calls-few (calls_in n k)) (rows_few k.pool n k.kinds k.firsts k.seconds k.thirds k.starts))

-- ---- the column of answers

pub answers-fit : (w : Outcome) (column : List ℕ) → length w.answers ≤ length column
    → (leaves w column).answers ≡ w.answers ++ drop (length w.answers) column
answers-fit w column h =
    let none : 0 + length w.answers ≡ length w.answers = omega arith in
    sets-eq w.answers column 0 (rw none h) ∙ ap (λ (n : ℕ). w.answers ++ drop n column) none
