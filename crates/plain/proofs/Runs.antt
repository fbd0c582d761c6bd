-- What every call keeps holds of every run.
--     taken-either    an operation taken, whole or as cut
--     unless-either   a call, refused or taken
--     run-keeps       what a refusal, an operation taken and a mark taken keep holds after any list of calls
-- Assumes nothing.
use mathlib.Core.Bool.{Bool, true, false, cond}
use mathlib.Core.List.{List, [], ◌∷◌}
use Prim.Native.Nat.{ℕ}
use lib.ListN.{length}
use lib.Dec.{eqb}
use Rattle.storage.specs.declared.Geometry.{Geometry}
use Rattle.inject.specs.declared.Injection.{Injection}
use Rattle.landing.specs.declared.Stop.TheVariants.{Running}
use Rattle.session.specs.declared.Told.{Told}
use Rattle.session.specs.Armed.{Armed}
use Rattle.std.specs.Prelude.{None as Nothing, Some as At}
use Rattle.records.specs.Records.{Label}
use Rattle.plain.specs.Plain.{Act, Call, act, mark, Op, Run, refusal, mark_refusal, wholly, ending_by, as_cut, refused, taken, taken_by, marked, unless_refused, step, run, unrun, plain}

pub taken-either : (P : Run → Type 0) (g : Geometry) (a : Armed) (r : Run) (o : Op) → P (taken r o Running)
    → ((j : Injection) → P (taken r (as_cut g j o) (ending_by g j o).stop)) → P (taken_by g a r o)
unfolding taken_by
taken-either P g Nothing r o whole cut = whole
taken-either P g (At j) r o whole cut = go (eqb j.op (length r.ops))
  where
    go : (b : Bool) → P (cond b (taken r (as_cut g j o) (ending_by g j o).stop) (taken r o Running))
    go true = cut j
    go false = whole

pub unless-either : (P : Run → Type 0) (number : ℕ) (r next : Run) → P (refused r number) → P next → P (unless_refused number r next)
unless-either P number r next h k = go (eqb number 0)
  where
    go : (b : Bool) → P (cond b next (refused r number))
    go true = k
    go false = h

module _ (t : Told) (P : Run → Type 0) (refusing : (r : Run) (number : ℕ) → P r → P (refused r number))
    (taking : (r : Run) (a : Act) → P r → P (taken_by t.geometry t.armed r (wholly r.media a)))
    (marking : (r : Run) (l : Label) → P r → P (marked r l)) where
  step_keeps : (r : Run) (x : Call) → P r → P (step t r x)
  unfolding step
  step_keeps r (act a) h = unless-either P (refusal t r a) r (taken_by t.geometry t.armed r (wholly r.media a)) (refusing r (refusal t r a) h) (taking r a h)
  step_keeps r (mark l) h = unless-either P (mark_refusal r) r (marked r l) (refusing r (mark_refusal r) h) (marking r l h)

  pub run-keeps : (r : Run) (xs : List Call) → P r → P (run t r xs)
  unfolding run
  run-keeps r [] h = h
  run-keeps r (x ∷ xs) h = run-keeps (step t r x) xs (step_keeps r x h)

  pub plain-keeps : (media : List ℕ) (xs : List Call) → P (unrun media) → P (plain t media xs)
  unfolding plain
  plain-keeps media xs h = run-keeps (unrun media) xs h
