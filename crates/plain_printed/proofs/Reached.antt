-- What a writer leaves, by the calls of its lines.
--     wrote-plain     the session that it leaves is that of the calls that it reaches, and it failed exactly if it stops at errors and
--                     there is one
-- Assumes nothing.
use mathlib.Core.Path.{◌≡◌, refl}
use mathlib.Core.Bool.{Bool, true, false, or-true}
use mathlib.Core.List.{List, ◌∷◌}
use lib.Dec.{eqb}
use Rattle.session.specs.declared.Told.{Told}
use Rattle.plain.specs.Plain
use Rattle.threaded.specs.Threaded.{Session, answered, threaded}
use Rattle.script.specs.Calls.{Call}
use Rattle.steps.specs.Writer.{Wrote, wrote}
use Rattle.steps.proofs.Lines.{Same, none, more}
use Rattle.plain_printed.specs.Reached.{any_error, through_error, reached, failed_by}

abbrev pub wrote_by : Told → (carries_on : Bool) → Session → List Plain.Call → Wrote
wrote_by t on s cs = record {
  session = (threaded t s (reached on (threaded t s cs).answers cs)).session;
  failed = failed_by on (threaded t s cs).answers;
}

pub wrote-plain : (t : Told) (on : Bool) (s : Session) (xs : List Call) (cs : List Plain.Call) → Same xs cs → wrote t on s xs ≡ wrote_by t on s cs
unfolding wrote threaded any_error through_error
wrote-plain t true s _ _ none = refl
wrote-plain t false s _ _ none = refl
wrote-plain t on s _ _ (more x c xs cs same r) = go on (eqb (answered t s c).answer 0) refl (wrote-plain t on (answered t s c).session xs cs r)
  where
    go : (on b : Bool) → eqb (answered t s c).answer 0 ≡ b → wrote t on (answered t s c).session xs ≡ wrote_by t on (answered t s c).session cs
        → wrote t on s (x ∷ xs) ≡ wrote_by t on s (c ∷ cs)
    go true b e ih = rw (same t s, or-true (eqb (answered t s c).answer 0)) ih
    go false true e ih = rw (same t s, e) ih
    go false false e ih = rw (same t s, e)
