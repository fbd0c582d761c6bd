-- What an erase means, for whoever reasons about whole lists of calls.
--     erase-refuses, erase-takes    a refused erase changes nothing; a taken one lands and is recorded at the count
--     erase-stopped                 a stopped session takes no erase, so that it stays stopped as it was
--     erase-counts                  a taken one adds one to the count
--     unarmed-erase                 with nothing armed it lands whole, answers 0, and the session runs on
--     erase-outside                 the media outside its span are untouched, refused or taken, cut or not
-- Assumes nothing.
use mathlib.Core.Path.{◌≡◌, refl}
use mathlib.Core.Logic.{◌⊎◌, inl, inr}
use mathlib.Core.List.{List, [], ◌∷◌}
use Prim.Native.Nat.{ℕ, ◌+◌, ◌≤◌}
use native.Mathlib.Omega.{arith}
use lib.ListN.{length}
use Rattle.basics.specs.Parts.{part}
use Rattle.basics.proofs.Tests.{first_of-zero}
use Rattle.storage.specs.Span.{erase_test}
use Rattle.device.proofs.Erasing.{erased-outside}
use Rattle.landing.specs.declared.Stop.TheVariants.{Running}
use Rattle.landing.specs.Ending.{stop_number}
use Rattle.session.specs.declared.Told.{Told}
use Rattle.std.specs.Prelude.{None as Nothing}
use Rattle.session.specs.declared.Counters.{Counters}
use Rattle.session.specs.Log.{Log}
use Rattle.session.specs.Tests.{size_test, log_test, operation_test}
use Rattle.session.specs.Armed.{Armed, armed_on, erase_lands}
use Rattle.session.specs.Written.{Written, written}
use Rattle.session.proofs.Writing.{unarmed-plan, plan-counts, refuses, takes, either}
use Rattle.session_erase.specs.Erase.{erase_number, erase_number_of, erase_plan, erase_landing, erase_taken, erase_call}
use Rattle.session_erase.proofs.Calls.{lands-le}

-- with nothing armed all of it lands
lands-whole : (a : Armed) (len block : ℕ) → a ≡ Nothing → erase_lands a len block ≡ len
lands-whole a len block e = rw e

module _ (t : Told) (c : Counters) (offset len : ℕ) where
  pub unarmed-erase : armed_on t.armed c.operations ≡ Nothing
      → ((erase_plan t c offset len).landed ≡ len) × ((erase_plan t c offset len).reply.answer ≡ 0) × ((erase_plan t c offset len).reply.counters.stop ≡ Running)
  unfolding erase_plan
  unarmed-erase e =
      let a = armed_on t.armed c.operations in
      let n = erase_lands a len t.geometry.erase_size in
      let w = unarmed-plan c a offset len n e in
      (lands-whole a len t.geometry.erase_size e, w.0, w.1)

  module _ (media copy : List ℕ) (l : Log) where
    pub erase-refuses : (erase_number_of t c offset len media copy l ≡ 0 → ⊥)
        → erase_call t c offset len media copy l ≡ written (record { answer = erase_number_of t c offset len media copy l; counters = c }) media copy l
    unfolding erase_call
    erase-refuses h = refuses c media copy l _ (erase_number_of t c offset len media copy l) h

    pub erase-takes : erase_number_of t c offset len media copy l ≡ 0
        → erase_call t c offset len media copy l ≡ erase_taken c offset len (erase_plan t c offset len) media copy l
    unfolding erase_call
    erase-takes e = takes c media copy l _ (erase_number_of t c offset len media copy l) e

    -- the tests of a taken erase
    passed : erase_number_of t c offset len media copy l ≡ 0 → (stop_number c.stop ≡ 0) × (operation_test c.operations ≡ 0)
    unfolding erase_number
    passed e =
        let span = erase_test t.geometry offset len in
        let full = operation_test c.operations in
        let stop = stop_number c.stop in
        let one = first_of-zero (size_test t.geometry (length media) (length copy)) (log_test l ∷ stop ∷ span ∷ full ∷ []) e in
        let two = first_of-zero (log_test l) (stop ∷ span ∷ full ∷ []) one.1 in
        let three = first_of-zero stop (span ∷ full ∷ []) two.1 in
        let four = first_of-zero span (full ∷ []) three.1 in
        (three.0, (first_of-zero full [] four.1).0)

    pub erase-stopped : (stop_number c.stop ≡ 0 → ⊥) → erase_number_of t c offset len media copy l ≡ 0 → ⊥
    erase-stopped h e = h (passed e).0

    pub erase-counts : erase_number_of t c offset len media copy l ≡ 0 → (erase_plan t c offset len).reply.counters.operations ≡ c.operations + 1
    unfolding erase_plan
    erase-counts e = plan-counts c _ offset len _ (passed e).1

    pub erase-outside : (o k : ℕ) → (o + k ≤ offset) ⊎ (offset + len ≤ o) → part (erase_call t c offset len media copy l).media o k ≡ part media o k
    unfolding erase_plan erase_landing erase_call
    erase-outside o k h =
        either c media copy l _ (erase_number_of t c offset len media copy l) (λ (w : Written). part w.media o k) (part media o k)
        (erased-outside media offset landed o k (wide h)) refl
      where
        landed : ℕ
        landed = erase_lands (armed_on t.armed c.operations) len t.geometry.erase_size

        wide : (o + k ≤ offset) ⊎ (offset + len ≤ o) → (o + k ≤ offset) ⊎ (offset + landed ≤ o)
        wide (inl p) = inl p
        wide (inr p) = inr (omega (arith, lands-le (armed_on t.armed c.operations) len t.geometry.erase_size))
