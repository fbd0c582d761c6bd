-- What a session's operations mean, for whoever reasons about whole lists of calls.
--     barrier-refuses, barrier-takes    a refused barrier changes nothing; a taken one is replied to and recorded at the count
--     barrier-stopped                   a stopped session takes no barrier, so that it stays stopped as it was
--     next-count                        a taken operation adds one to the count
--     armed-index                       only the operation at the injection's index has it armed
--     unarmed-ends, unarmed-barrier     with nothing armed an operation answers 0 and the session runs on
--     answers-armed                     only an armed operation answers other than 0 once taken, or stops the session
-- Assumes nothing.
use mathlib.Core.Path.{◌≡◌, refl, ap}
use mathlib.Core.Logic.{◌⊎◌, inl, inr}
use mathlib.Core.Bool.{Bool, true, false, cond}
use mathlib.Core.List.{[], ◌∷◌}
use Prim.Native.Nat.{ℕ, ◌+◌, ◌<◌}
use lib.Dec.{eqb}
use borrow.Author.Tests.{lt-ltb, eqb-true, eq-eqb, ne_eqb}
use Rattle.basics.proofs.Tests.{first_of-zero}
use Rattle.storage.specs.Geometry.{geometry_test}
use Rattle.inject.specs.declared.Injection.{Injection}
use Rattle.landing.specs.declared.Stop.TheVariants.{Running}
use Rattle.landing.specs.Ending.{Ending, stop_number}
use Rattle.session.specs.declared.Told.{Told}
use Rattle.std.specs.Prelude.{None as Nothing, Some as At}
use Rattle.session.specs.declared.Counters.{Counters}
use Rattle.session.specs.Log.{Log, logged}
use Rattle.session.specs.Tests.{log_test, operation_test}
use Rattle.session.specs.Armed.{Armed, armed_on, barrier_ran, ended_by, next_count}
use Rattle.session.specs.Barrier.{barrier_number, barrier_test, barrier_reply, barrier_entry, ordered, barriered}
use Rattle.session.proofs.Refusals.{operation-room}

-- ---- counts and what is armed

pub next-count : (operations : ℕ) → operations < 1024 → next_count operations ≡ operations + 1
unfolding next_count
next-count operations h = simp (lt-ltb operations 1024 h)

armed-at : (j : Injection) (index : ℕ) (b : Bool) → eqb j.op index ≡ b
    → (cond b (At j) Nothing ≡ Nothing) ⊎ ((cond b (At j) Nothing ≡ At j) × (j.op ≡ index))
armed-at j index true e = inr (refl, eqb-true j.op index e)
armed-at j index false e = inl refl

-- nothing is armed on an operation, or the injection is and the index is its own
pub armed-index : (a : Armed) (index : ℕ) → (armed_on a index ≡ Nothing) ⊎ ((j : Injection) × (armed_on a index ≡ At j) × (a ≡ At j) × (j.op ≡ index))
armed-index Nothing index = inl refl
armed-index (At j) index = go (armed-at j index (eqb j.op index) refl)
  where
    go : (armed_on (At j) index ≡ Nothing) ⊎ ((armed_on (At j) index ≡ At j) × (j.op ≡ index))
        → (armed_on (At j) index ≡ Nothing) ⊎ ((k : Injection) × (armed_on (At j) index ≡ At k) × (At j ≡ At k) × (k.op ≡ index))
    go (inl e) = inl e
    go (inr e) = inr (j, e.0, refl, e.1)

pub unarmed-ends : (a : Armed) (completed : Bool) → a ≡ Nothing → ended_by a completed ≡ record { answer = 0; stop = Running }
unarmed-ends a completed e = rw e

-- an operation that answers other than 0 has the injection armed on it
pub answers-armed : (a : Armed) (index : ℕ) (completed : Bool) → ((ended_by (armed_on a index) completed).answer ≡ 0 → ⊥)
    → (j : Injection) × (a ≡ At j) × (j.op ≡ index)
answers-armed a index completed h = go (armed-index a index)
  where
    go : (armed_on a index ≡ Nothing) ⊎ ((j : Injection) × (armed_on a index ≡ At j) × (a ≡ At j) × (j.op ≡ index))
        → (j : Injection) × (a ≡ At j) × (j.op ≡ index)
    go (inl e) = absurd (h (ap (λ (x : Ending). x.answer) (unarmed-ends (armed_on a index) completed e)))
    go (inr e) = (e.0, e.2, e.3)

-- ---- barrier

module _ (t : Told) (c : Counters) (l : Log) where
  pub barrier-refuses : (barrier_test t c l ≡ 0 → ⊥) → barriered t c l ≡ ordered (record { answer = barrier_test t c l; counters = c }) l
  unfolding barriered
  barrier-refuses h = simp (ne_eqb (barrier_test t c l) 0 h)

  pub barrier-takes : barrier_test t c l ≡ 0
      → barriered t c l ≡ ordered (barrier_reply t c) (logged l c.operations (barrier_entry (barrier_reply t c).answer))
  unfolding barriered
  barrier-takes e = simp (eq-eqb (barrier_test t c l) 0 e)

  -- the tests of a taken barrier
  passed : barrier_test t c l ≡ 0 → (stop_number c.stop ≡ 0) × (operation_test c.operations ≡ 0)
  unfolding barrier_number
  passed e =
      let units = geometry_test t.geometry in
      let full = operation_test c.operations in
      let one = first_of-zero (log_test l) (stop_number c.stop ∷ units ∷ full ∷ []) e in
      let two = first_of-zero (stop_number c.stop) (units ∷ full ∷ []) one.1 in
      let three = first_of-zero units (full ∷ []) two.1 in
      (two.0, (first_of-zero full [] three.1).0)

  pub barrier-stopped : (stop_number c.stop ≡ 0 → ⊥) → barrier_test t c l ≡ 0 → ⊥
  barrier-stopped h e = h (passed e).0

  pub barrier-counts : barrier_test t c l ≡ 0 → (barrier_reply t c).counters.operations ≡ c.operations + 1
  unfolding barrier_reply
  barrier-counts e = next-count c.operations (operation-room c.operations (passed e).1)

  pub unarmed-barrier : armed_on t.armed c.operations ≡ Nothing
      → ((barrier_reply t c).answer ≡ 0) × ((barrier_reply t c).counters.stop ≡ Running)
  unfolding barrier_reply
  unarmed-barrier e =
      let w = unarmed-ends (armed_on t.armed c.operations) (barrier_ran (armed_on t.armed c.operations)) e in
      (ap (λ (x : Ending). x.answer) w, ap (λ (x : Ending). x.stop) w)
