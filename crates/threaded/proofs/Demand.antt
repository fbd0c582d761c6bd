-- Demand 3, whole: the plain run's claims, carried over to the session by theorem 1. Assumes nothing.
use mathlib.Core.List.{List}
use Rattle.session.specs.declared.Told.{Told}
use Rattle.std.specs.Prelude.{None as Nothing, Some as At}
use Rattle.session.specs.Armed.{Armed, cut_by}
use Rattle.plain.specs.Plain.{Call}
use Rattle.plain.specs.Claims.{Claims}
use Rattle.plain.proofs.Theorems.{claims}
use Rattle.threaded.specs.Threaded.{Session, Fresh}
use Rattle.threaded.specs.Demand3.{Demand3}
use Rattle.threaded.proofs.Same.{same}

-- a fresh session is fresh whatever is armed
fresh-by : (t : Told) (a : Armed) (s : Session) → Fresh t s → Fresh (cut_by t a) s
fresh-by t a s f = record { not-refused = f.not-refused; before-any = f.before-any }

pub demand-3 : (t : Told) (s : Session) (xs : List Call) → Fresh t s → Demand3 t s xs
demand-3 t s xs f =
    let c : Claims t s.media xs = claims t s.media xs in
    record {
      same = same t s xs f;
      only-the-last = λ o. rw (same t s xs f).entries (c.only-the-last o);
      accepts-exactly = λ o d. rw (same t s xs f).entries (c.accepts-exactly o d);
      later-cuts-keep = λ j k o p h q.
          rw ((same (cut_by t (At j)) s xs (fresh-by t (At j) s f)).entries, (same (cut_by t (At k)) s xs (fresh-by t (At k) s f)).entries)
          (c.later-cuts-keep j k o p h q);
      uncut-keeps = λ j o q.
          rw ((same (cut_by t (At j)) s xs (fresh-by t (At j) s f)).entries, (same (cut_by t Nothing) s xs (fresh-by t Nothing s f)).entries)
          (c.uncut-keeps j o q);
    }
