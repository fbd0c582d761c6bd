-- The two ways that a start and a barrier go, refused or taken, as their definitions have them. Assumes nothing.
use mathlib.Core.Path.{◌≡◌, ap, ◌∙◌}
use mathlib.Core.Bool.{Bool}
use mathlib.Core.List.{List}
use Prim.Native.Nat.{ℕ}
use lib.ListN.{length}
use lib.Dec.{eqb}
use borrow.Author.Tests.{eq-eqb, ne_eqb}
use Rattle.basics.specs.Tests.{flag}
use Rattle.device.specs.Media.{new_media}
use Rattle.session.specs.declared.Told.{Told}
use Rattle.session.specs.declared.Counters.{Counters}
use Rattle.session.specs.Replies.{Called}
use Rattle.std.specs.Prelude.{Ok as Fresh, Err as NotStarted}
use Rattle.session.specs.Log.{Log, logged, Marks}
use Rattle.session.specs.Tests.{start_test}
use Rattle.landing.specs.Ending.{Ending}
use Rattle.session.specs.Armed.{Armed, armed_on, barrier_ran, ended_by, replied}
use Rattle.session.specs.Start.{fresh, opened, started}
use Rattle.session.specs.Barrier.{barrier_test, barrier_reply_by, barrier_reply, ordered, barriered}

-- ---- start

module _ (t : Told) (media : List ℕ) (copy : ℕ) (l : Log) (m : Marks) (n : ℕ) (e : n ≡ start_test t.geometry (length media) copy l m) where
  pub start-refused : (n ≡ 0 → ⊥) → opened (NotStarted n) media ≡ started t media copy l m
  unfolding started
  start-refused h = simp (← e, ne_eqb n 0 h)

  pub start-taken : n ≡ 0 → (media' : List ℕ) → media' ≡ new_media (length media) → opened (Fresh fresh) media' ≡ started t media copy l m
  unfolding started
  start-taken z media' f = simp (← e, eq-eqb n 0 z, f)

-- ---- barrier

-- the reply, from what is armed, whether it ran and how it ends
pub reply-so : (t : Told) (c : Counters) (a : Armed) (b : Bool) (d : Ending) (r : Called) → r ≡ replied c a d → d ≡ ended_by a b → b ≡ barrier_ran a
    → a ≡ armed_on t.armed c.operations → r ≡ barrier_reply t c
unfolding barrier_reply
reply-so t c a b d r p q f e = p ∙ ap (replied c a) (q ∙ ap (ended_by a) f) ∙ ap (barrier_reply_by c) e

module _ (t : Told) (c : Counters) (l : Log) (n : ℕ) (e : n ≡ barrier_test t c l) where
  pub barrier-refused : (n ≡ 0 → ⊥) → ordered (record { answer = n; counters = c }) l ≡ barriered t c l
  unfolding barriered
  barrier-refused h = simp (← e, ne_eqb n 0 h)

  pub barrier-taken : n ≡ 0 → (r : Called) (f : ℕ) (l' : Log) → r ≡ barrier_reply t c → f ≡ flag (eqb r.answer 0)
      → l' ≡ logged l c.operations (record { kind = 2; offset = 0; len = 0; digest = 0; changed = 0; answered = f })
      → ordered r l' ≡ barriered t c l
  unfolding barriered
  barrier-taken z r f l' a b d = simp (← e, eq-eqb n 0 z, d, b, a)
