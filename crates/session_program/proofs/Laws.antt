-- What a program means, for whoever reasons about whole lists of calls.
--     program-refuses, program-takes    a refused program changes nothing; a taken one lands and is recorded at the count
--     program-stopped                 a stopped session takes no program, so that it stays stopped as it was
--     program-counts                  a taken one adds one to the count
--     unarmed-program                 with nothing armed it lands whole, answers 0, and the session runs on
--     program-outside                 the media outside its span are untouched, refused or taken, cut or not
-- Assumes nothing.
use mathlib.Core.Path.{◌≡◌, refl}
use mathlib.Core.Logic.{◌⊎◌, inl, inr}
use mathlib.Core.List.{List, [], ◌∷◌}
use Prim.Native.Nat.{ℕ, ◌+◌, ◌≤◌}
use native.Mathlib.Omega.{arith}
use lib.ListN.{length, take, length-take}
use Rattle.basics.specs.Parts.{part}
use Rattle.basics.proofs.Tests.{first_of-zero}
use Rattle.device.proofs.Programming.{programmed-outside}
use Rattle.landing.specs.declared.Stop.TheVariants.{Running}
use Rattle.landing.specs.Ending.{stop_number}
use Rattle.session.specs.declared.Told.{Told}
use Rattle.std.specs.Prelude.{None as Nothing}
use Rattle.session.specs.declared.Counters.{Counters}
use Rattle.session.specs.Log.{Log}
use Rattle.session.specs.Tests.{size_test, log_test, operation_test}
use Rattle.session.specs.Armed.{Armed, armed_on, program_lands}
use Rattle.session.specs.Written.{Written, written}
use Rattle.session.proofs.Writing.{unarmed-plan, plan-counts, refuses, takes, either}
use Rattle.session_program.specs.Program.{span_number, bit_test, program_number, program_number_of, program_plan, program_landing, program_taken, program_call}

-- with nothing armed all of it lands
lands-whole : (a : Armed) (len block : ℕ) → a ≡ Nothing → program_lands a len block ≡ len
lands-whole a len block e = rw e

module _ (t : Told) (c : Counters) (offset : ℕ) where
  pub unarmed-program : (len : ℕ) → armed_on t.armed c.operations ≡ Nothing
      → ((program_plan t c offset len).landed ≡ len) × ((program_plan t c offset len).reply.answer ≡ 0) × ((program_plan t c offset len).reply.counters.stop ≡ Running)
  unfolding program_plan
  unarmed-program len e =
      let a = armed_on t.armed c.operations in
      let n = program_lands a len t.geometry.program_size in
      let w = unarmed-plan c a offset len n e in
      (lands-whole a len t.geometry.program_size e, w.0, w.1)

  module _ (bytes media copy : List ℕ) (l : Log) where
    pub program-refuses : (program_number_of t c offset bytes media copy l ≡ 0 → ⊥)
        → program_call t c offset bytes media copy l ≡ written (record { answer = program_number_of t c offset bytes media copy l; counters = c }) media copy l
    unfolding program_call
    program-refuses h = refuses c media copy l _ (program_number_of t c offset bytes media copy l) h

    pub program-takes : program_number_of t c offset bytes media copy l ≡ 0
        → program_call t c offset bytes media copy l ≡ program_taken c offset bytes (program_plan t c offset (length bytes)) media copy l
    unfolding program_call
    program-takes e = takes c media copy l _ (program_number_of t c offset bytes media copy l) e

    -- the tests of a taken program
    passed : program_number_of t c offset bytes media copy l ≡ 0 → (stop_number c.stop ≡ 0) × (operation_test c.operations ≡ 0)
    unfolding program_number
    passed e =
        let span = span_number t offset (length bytes) in
        let bit = bit_test t.bits media offset bytes in
        let full = operation_test c.operations in
        let stop = stop_number c.stop in
        let one = first_of-zero (size_test t.geometry (length media) (length copy)) (log_test l ∷ stop ∷ span ∷ bit ∷ full ∷ []) e in
        let two = first_of-zero (log_test l) (stop ∷ span ∷ bit ∷ full ∷ []) one.1 in
        let three = first_of-zero stop (span ∷ bit ∷ full ∷ []) two.1 in
        let four = first_of-zero span (bit ∷ full ∷ []) three.1 in
        let five = first_of-zero bit (full ∷ []) four.1 in
        (three.0, (first_of-zero full [] five.1).0)

    pub program-stopped : (stop_number c.stop ≡ 0 → ⊥) → program_number_of t c offset bytes media copy l ≡ 0 → ⊥
    program-stopped h e = h (passed e).0

    pub program-counts : program_number_of t c offset bytes media copy l ≡ 0 → (program_plan t c offset (length bytes)).reply.counters.operations ≡ c.operations + 1
    unfolding program_plan
    program-counts e = plan-counts c _ offset (length bytes) _ (passed e).1

    pub program-outside : (o k : ℕ) → (o + k ≤ offset) ⊎ (offset + length bytes ≤ o) → part (program_call t c offset bytes media copy l).media o k ≡ part media o k
    unfolding program_plan program_landing program_call
    program-outside o k h =
        either c media copy l _ (program_number_of t c offset bytes media copy l) (λ (w : Written). part w.media o k) (part media o k)
        (programmed-outside media offset (take landed bytes) o k (wide h)) refl
      where
        landed : ℕ
        landed = program_lands (armed_on t.armed c.operations) (length bytes) t.geometry.program_size

        wide : (o + k ≤ offset) ⊎ (offset + length bytes ≤ o) → (o + k ≤ offset) ⊎ (offset + length (take landed bytes) ≤ o)
        wide (inl p) = inl p
        wide (inr p) = inr (rw length-take (omega arith))
