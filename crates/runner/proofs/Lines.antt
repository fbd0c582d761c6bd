-- Rows whose kinds all have a meaning are a script's lines.
--     tasks-calls     they ask for the calls that the table holds
--     writes          run in turn they are what a writer does: the session left, and whether it returned an error
-- Assumes nothing.
use mathlib.Core.Path.{◌≡◌, refl, ap, ◌∙◌}
use mathlib.Core.Bool.{Bool, true, false, cond, ◌||◌}
use mathlib.Core.List.{List, [], ◌∷◌, map}
use Prim.Native.Nat.{ℕ, zero, suc}
use lib.ListN.{take}
use lib.Dec.{eqb, leb}
use Rattle.std.proofs.lemmas.Bool.{and_parts}
use Rattle.model.specs.Columns.{all_up_to}
use Rattle.session.specs.declared.Told.{Told}
use Rattle.script.specs.Calls.{Call}
use Rattle.script.specs.Columns.{Columns}
use Rattle.script.specs.Held.{call_from, rows_in, calls_in}
use Rattle.threaded.specs.Threaded.{Session, Answered}
use Rattle.steps.specs.Writer.{line_answered, Wrote, wrote}
use Rattle.steps.specs.Step.{Task, call, task_from, step_answered}
use Rattle.runner.specs.Run.{tasks_of, tasks_in, Outcome, ran_rows}

module _ (most : ℕ) (few : (kind : ℕ) → leb kind most ≡ true → leb kind 5 ≡ true) (pool : List ℕ) where
  rows-calls : (n : ℕ) (ks xs bs cs ss : List ℕ) → all_up_to most (take n ks) ≡ true → tasks_of n ks xs bs cs ss pool ≡ map call (rows_in n ks xs bs cs ss pool)
  unfolding tasks_of rows_in all_up_to task_from
  rows-calls zero ks xs bs cs ss h = refl
  rows-calls (suc n) [] xs bs cs ss h = refl
  rows-calls (suc n) (k ∷ ks) [] bs cs ss h = refl
  rows-calls (suc n) (k ∷ ks) (a ∷ xs) [] cs ss h = refl
  rows-calls (suc n) (k ∷ ks) (a ∷ xs) (b ∷ bs) [] ss h = refl
  rows-calls (suc n) (k ∷ ks) (a ∷ xs) (b ∷ bs) (c ∷ cs) [] h = refl
  rows-calls (suc n) (k ∷ ks) (a ∷ xs) (b ∷ bs) (c ∷ cs) (s ∷ ss) h =
      let two = and_parts (leb k most) (all_up_to most (take n ks)) h in
      rw (few k two.0) (ap (λ (ts : List Task). call (call_from k a b c s pool) ∷ ts) (rows-calls n ks xs bs cs ss two.1))

pub tasks-calls : (most n : ℕ) (k : Columns) → ((kind : ℕ) → leb kind most ≡ true → leb kind 5 ≡ true) → all_up_to most (take n k.kinds) ≡ true
    → tasks_in n k ≡ map call (calls_in n k)
tasks-calls most n k few known = rows-calls most few k.pool n k.kinds k.firsts k.seconds k.thirds k.starts known

-- rows as a script's writer tells of them
abbrev pub wrote_by : Outcome → Wrote
wrote_by w = record { session = w.session; failed = w.failed }

on-either : (b : Bool) (x : Answered) (rest : Outcome)
    → wrote_by (cond b (record { answers = x.answer ∷ rest.answers; session = rest.session; failed = rest.failed }) (record { answers = x.answer ∷ []; session = x.session; failed = true }))
    ≡ cond b (wrote_by rest) (record { session = x.session; failed = true })
on-either true x rest = refl
on-either false x rest = refl

pub writes : (t : Told) (on : Bool) (s : Session) (xs : List Call) → wrote_by (ran_rows t on s (map call xs)) ≡ wrote t on s xs
unfolding ran_rows wrote step_answered
writes t on s [] = refl
writes t on s (x ∷ xs) =
    let y : Answered = line_answered t s x in
    on-either (eqb y.answer 0 || on) y (ran_rows t on y.session (map call xs))
    ∙ ap (λ (w : Wrote). cond (eqb y.answer 0 || on) w (record { session = y.session; failed = true })) (writes t on y.session xs)
