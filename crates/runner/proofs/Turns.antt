-- The loop over the rows: what the rows from one on leave is what all of them leave.
--     tasks-row, tasks-none      the rows from one on: a row and the rest, and none at the end
--     Left                       the rows from one on, from the session and the answers so far, leave what all leave
--     left-first, left-turn, left-stop, left_end
--     error-told                 an answer is an error where its number is not 0
-- Assumes nothing.
use mathlib.Core.Logic.{⊎_elim}
use mathlib.Core.Path.{◌≡◌, refl, sym, ap, ◌∙◌}
use mathlib.Core.Bool.{Bool, true, false, not, ◌&&◌, ◌||◌}
use mathlib.Core.List.{List, [], ◌∷◌}
use Prim.Native.Nat.{ℕ, zero, suc, ◌+◌, ◌-◌, ◌≤◌, ◌<◌, min}
use native.Mathlib.Omega.{arith}
use lib.ListN.{length, get_or, drop, set}
use lib.Seq.{sets}
use lib.Dec.{eqb}
use Rattle.basics.proofs.Scans.{at-step, at-end}
use Rattle.basics.proofs.Tests.{le-or-gt}
use Rattle.std.specs.Prelude.{Result, Ok, Err}
use Rattle.std.specs.Result.{is_err}
use borrow.Author.Tests.{ne_eqb}
use Rattle.basics.specs.Replies.{number_in}
use Rattle.refusals.specs.declared.Refusal.{Refusal}
use Rattle.refusals.specs.Numbers.{number_of}
use Rattle.refusals.specs.Nonzero.{refusal-nonzero}
use Rattle.session.specs.declared.Told.{Told}
use Rattle.threaded.specs.Threaded.{Session, Answered}
use Rattle.script.specs.Columns.{Columns}
use Rattle.steps.specs.declared.Row.{Row}
use Rattle.steps.specs.Step.{Task, step_answered}
use Rattle.runner.specs.Run.{row_in, there, task_of, tasks_of, tasks_in, Outcome, turned, ran_rows, Leaves, leaves}

-- ---- the rows from one on

abbrev pub tasks_at : (rows : ℕ) → Columns → ℕ → List Task
tasks_at rows k i =
    tasks_of (rows - i) (drop i k.kinds) (drop i k.firsts) (drop i k.seconds) (drop i k.thirds) (drop i k.starts) k.pool

abbrev pub task_at : Columns → ℕ → Task
task_at k i =
    task_of k.pool (row_in k i)

-- a column that has ended has no row
module _ (pool : List ℕ) where
  no-kinds : (n : ℕ) (xs bs cs ss : List ℕ) → tasks_of n [] xs bs cs ss pool ≡ []
  unfolding tasks_of
  no-kinds zero xs bs cs ss = refl
  no-kinds (suc n) xs bs cs ss = refl

  no-firsts : (n : ℕ) (ks bs cs ss : List ℕ) → tasks_of n ks [] bs cs ss pool ≡ []
  unfolding tasks_of
  no-firsts zero ks bs cs ss = refl
  no-firsts (suc n) [] bs cs ss = refl
  no-firsts (suc n) (k ∷ ks) bs cs ss = refl

  no-seconds : (n : ℕ) (ks xs cs ss : List ℕ) → tasks_of n ks xs [] cs ss pool ≡ []
  unfolding tasks_of
  no-seconds zero ks xs cs ss = refl
  no-seconds (suc n) [] xs cs ss = refl
  no-seconds (suc n) (k ∷ ks) [] cs ss = refl
  no-seconds (suc n) (k ∷ ks) (a ∷ xs) cs ss = refl

  no-thirds : (n : ℕ) (ks xs bs ss : List ℕ) → tasks_of n ks xs bs [] ss pool ≡ []
  unfolding tasks_of
  no-thirds zero ks xs bs ss = refl
  no-thirds (suc n) [] xs bs ss = refl
  no-thirds (suc n) (k ∷ ks) [] bs ss = refl
  no-thirds (suc n) (k ∷ ks) (a ∷ xs) [] ss = refl
  no-thirds (suc n) (k ∷ ks) (a ∷ xs) (b ∷ bs) ss = refl

  no-starts : (n : ℕ) (ks xs bs cs : List ℕ) → tasks_of n ks xs bs cs [] pool ≡ []
  unfolding tasks_of
  no-starts zero ks xs bs cs = refl
  no-starts (suc n) [] xs bs cs = refl
  no-starts (suc n) (k ∷ ks) [] bs cs = refl
  no-starts (suc n) (k ∷ ks) (a ∷ xs) [] cs = refl
  no-starts (suc n) (k ∷ ks) (a ∷ xs) (b ∷ bs) [] = refl
  no-starts (suc n) (k ∷ ks) (a ∷ xs) (b ∷ bs) (c ∷ cs) = refl

lt_both : (i a b : ℕ) → i < min a b → (i < a) × (i < b)
lt_both i a b h = (omega arith, omega arith)

module _ (rows : ℕ) (k : Columns) (i : ℕ) where
  row_within : i < rows → i < length k.kinds → i < length k.firsts → i < length k.seconds → i < length k.thirds → i < length k.starts
      → tasks_at rows k i ≡ task_at k i ∷ tasks_at rows k (i + 1)
  unfolding tasks_of
  row_within h hk ha hb hc hs =
      let n : ℕ = rows - (i + 1) in
      let e : rows - i ≡ suc n = omega arith in
      let pool : List ℕ = k.pool in
      let K : List ℕ = get_or k.kinds i 0 ∷ drop (i + 1) k.kinds in
      let A : List ℕ = get_or k.firsts i 0 ∷ drop (i + 1) k.firsts in
      let B : List ℕ = get_or k.seconds i 0 ∷ drop (i + 1) k.seconds in
      let C : List ℕ = get_or k.thirds i 0 ∷ drop (i + 1) k.thirds in
      ap (λ (m : ℕ). tasks_of m (drop i k.kinds) (drop i k.firsts) (drop i k.seconds) (drop i k.thirds) (drop i k.starts) pool) e
      ∙ at-step (λ (x : List ℕ). tasks_of (suc n) x (drop i k.firsts) (drop i k.seconds) (drop i k.thirds) (drop i k.starts) pool) k.kinds i 0 hk
      ∙ at-step (λ (x : List ℕ). tasks_of (suc n) K x (drop i k.seconds) (drop i k.thirds) (drop i k.starts) pool) k.firsts i 0 ha
      ∙ at-step (λ (x : List ℕ). tasks_of (suc n) K A x (drop i k.thirds) (drop i k.starts) pool) k.seconds i 0 hb
      ∙ at-step (λ (x : List ℕ). tasks_of (suc n) K A B x (drop i k.starts) pool) k.thirds i 0 hc
      ∙ at-step (λ (x : List ℕ). tasks_of (suc n) K A B C x pool) k.starts i 0 hs

  pub tasks-row : i < there rows k → tasks_at rows k i ≡ task_at k i ∷ tasks_at rows k (i + 1)
  tasks-row h =
      let five = lt_both i (min (min rows (length k.kinds)) (min (length k.firsts) (length k.seconds))) (min (length k.thirds) (length k.starts)) h in
      let four = lt_both i (min rows (length k.kinds)) (min (length k.firsts) (length k.seconds)) five.0 in
      let one = lt_both i rows (length k.kinds) four.0 in
      let two = lt_both i (length k.firsts) (length k.seconds) four.1 in
      let three = lt_both i (length k.thirds) (length k.starts) five.1 in
      row_within one.0 one.1 two.0 two.1 three.0 three.1

  past-rows : rows ≤ i → tasks_at rows k i ≡ []
  unfolding tasks_of
  past-rows h =
      let e : rows - i ≡ 0 = omega arith in
      ap (λ (m : ℕ). tasks_of m (drop i k.kinds) (drop i k.firsts) (drop i k.seconds) (drop i k.thirds) (drop i k.starts) k.pool) e

  past-kinds : length k.kinds ≤ i → tasks_at rows k i ≡ []
  past-kinds h =
      at-end (λ (x : List ℕ). tasks_of (rows - i) x (drop i k.firsts) (drop i k.seconds) (drop i k.thirds) (drop i k.starts) k.pool) k.kinds i h
      ∙ no-kinds k.pool _ _ _ _ _

  past-firsts : length k.firsts ≤ i → tasks_at rows k i ≡ []
  past-firsts h =
      at-end (λ (x : List ℕ). tasks_of (rows - i) (drop i k.kinds) x (drop i k.seconds) (drop i k.thirds) (drop i k.starts) k.pool) k.firsts i h
      ∙ no-firsts k.pool _ _ _ _ _

  past-seconds : length k.seconds ≤ i → tasks_at rows k i ≡ []
  past-seconds h =
      at-end (λ (x : List ℕ). tasks_of (rows - i) (drop i k.kinds) (drop i k.firsts) x (drop i k.thirds) (drop i k.starts) k.pool) k.seconds i h
      ∙ no-seconds k.pool _ _ _ _ _

  past-thirds : length k.thirds ≤ i → tasks_at rows k i ≡ []
  past-thirds h =
      at-end (λ (x : List ℕ). tasks_of (rows - i) (drop i k.kinds) (drop i k.firsts) (drop i k.seconds) x (drop i k.starts) k.pool) k.thirds i h
      ∙ no-thirds k.pool _ _ _ _ _

  past-starts : length k.starts ≤ i → tasks_at rows k i ≡ []
  past-starts h =
      at-end (λ (x : List ℕ). tasks_of (rows - i) (drop i k.kinds) (drop i k.firsts) (drop i k.seconds) (drop i k.thirds) x k.pool) k.starts i h
      ∙ no-starts k.pool _ _ _ _ _

  pub tasks-none : there rows k ≤ i → tasks_at rows k i ≡ []
  tasks-none h =
      ⊎_elim past-rows
      (λ a. ⊎_elim past-kinds
      (λ b. ⊎_elim past-firsts
      (λ c. ⊎_elim past-seconds
      (λ d. ⊎_elim past-thirds (λ e. past-starts (omega arith)) (le-or-gt (length k.thirds) i))
      (le-or-gt (length k.seconds) i))
      (le-or-gt (length k.firsts) i))
      (le-or-gt (length k.kinds) i))
      (le-or-gt rows i)

-- ---- the rows that are left

-- what an outcome leaves where so many rows were run before
abbrev from : ℕ → Outcome → (column : List ℕ) → Leaves
from i w column = record { session = w.session; failed = w.failed; done = i + length w.answers; answers = sets column i w.answers }

pub record Left (t : Told) (on : Bool) (rows : ℕ) (k : Columns) (all : Leaves) (i : ℕ) (s : Session) (column : List ℕ) : Type 0 where
  pub leaves_all : from i (ran_rows t on s (tasks_at rows k i)) column ≡ all

pub left-first : (t : Told) (on : Bool) (rows : ℕ) (k : Columns) (s : Session) (column : List ℕ)
    → Left t on rows k (leaves (ran_rows t on s (tasks_in rows k)) column) 0 s column
left-first t on rows k s column = record { leaves_all = first-is (rows - 0) less_none }
  where
    less_none : rows - 0 ≡ rows
    less_none = omega arith

    counted : (n : ℕ) → 0 + n ≡ n
    counted n = omega arith

    first-is : (n : ℕ) → n ≡ rows
        → from 0 (ran_rows t on s (tasks_of n k.kinds k.firsts k.seconds k.thirds k.starts k.pool)) column ≡ leaves (ran_rows t on s (tasks_in rows k)) column
    first-is n e =
        ap (λ (m : ℕ). from 0 (ran_rows t on s (tasks_of m k.kinds k.firsts k.seconds k.thirds k.starts k.pool)) column) e
        ∙ ap (λ (d : ℕ). record { session = (ran_rows t on s (tasks_in rows k)).session; failed = (ran_rows t on s (tasks_in rows k)).failed; done = d; answers = sets column 0 (ran_rows t on s (tasks_in rows k)).answers })
        (counted (length (ran_rows t on s (tasks_in rows k)).answers))

goes_on : (b o : Bool) → (not b && not o) ≡ false → (b || o) ≡ true
goes_on true o q = refl
goes_on false true q = refl
goes_on false false q = sym q

stops : (b o : Bool) → (not b && not o) ≡ true → (b || o) ≡ false
stops true o q = sym q
stops false true q = sym q
stops false false q = refl

module _ (t : Told) (on : Bool) (rows : ℕ) (k : Columns) (all : Leaves) (i : ℕ) (s : Session) (x : Answered) (column column' : List ℕ)
    (n : ℕ) (q : n ≡ there rows k) (h : i < n) (l : Left t on rows k all i s column)
    (row : Row) (p : row ≡ row_in k i)
    (e : x ≡ step_answered t s (task_of k.pool row)) (w : column' ≡ set column i x.answer) where
  row_is : from i (turned on x (ran_rows t on x.session (tasks_at rows k (i + 1)))) column ≡ all
  unfolding ran_rows
  row_is =
      ap (λ (y : Answered). from i (turned on y (ran_rows t on y.session (tasks_at rows k (i + 1)))) column)
      (e ∙ ap (λ (r : Row). step_answered t s (task_of k.pool r)) p)
      ∙ sym (ap (λ (xs : List Task). from i (ran_rows t on s xs) column) (tasks-row rows k i (rw q at h))) ∙ l.leaves_all

  pub left-turn : (not (eqb x.answer 0) && not on) ≡ false → Left t on rows k all (i + 1) x.session column'
  left-turn b =
      let r : Outcome = ran_rows t on x.session (tasks_at rows k (i + 1)) in
      let d : i + suc (length r.answers) ≡ i + 1 + length r.answers = omega arith in
      let m : suc i ≡ i + 1 = omega arith in
      let z : from i (record { answers = x.answer ∷ r.answers; session = r.session; failed = r.failed }) column ≡ all =
      rw (goes_on (eqb x.answer 0) on b) at row_is in
      record {
        leaves_all = rw w (sym (λ j. record { session = r.session; failed = r.failed; done = d j; answers = sets (set column i x.answer) (m j) r.answers }) ∙ z);
      }

  pub left-stop : (not (eqb x.answer 0) && not on) ≡ true
      → ◌≡◌ {A = Leaves} (record { session = x.session; failed = true; done = i + 1; answers = column' }) all
  left-stop b = rw w (rw (stops (eqb x.answer 0) on b) at row_is)

pub left_end : (t : Told) (on : Bool) (rows : ℕ) (k : Columns) (all : Leaves) (i : ℕ) (s : Session) (column : List ℕ) (n : ℕ) → n ≡ there rows k → n ≤ i → i ≤ n
    → Left t on rows k all i s column → ◌≡◌ {A = Leaves} (record { session = s; failed = false; done = n; answers = column }) all
unfolding ran_rows
left_end t on rows k all i s column n q h g l =
    let z : i + 0 ≡ n = omega arith in
    sym (λ j. record { session = s; failed = false; done = z j; answers = column })
    ∙ sym (ap (λ (xs : List Task). from i (ran_rows t on s xs) column) (tasks-none rows k i (rw q at h))) ∙ l.leaves_all

-- an answer is an error where its number is not 0
pub error-told : (r : Result (Unit {0}) Refusal) → is_err r ≡ not (eqb (number_in number_of r) 0)
error-told (Ok x) = refl
error-told (Err e) = rw (ne_eqb (number_of e) 0 (refusal-nonzero e))
