-- The two ways that an erase goes, refused or taken, as its definition has them; and what a taken one knows. Assumes nothing.
use mathlib.Core.Path.{◌≡◌, ap, ◌∙◌}
use mathlib.Core.Bool.{Bool}
use mathlib.Core.List.{List, [], ◌∷◌}
use Prim.Native.Nat.{ℕ, ◌+◌, ◌-◌, ◌≤◌}
use lib.ListN.{length}
use lib.Dec.{eqb}
use Rattle.basics.specs.Tests.{flag}
use Rattle.basics.proofs.Tests.{first_of-zero}
use Rattle.storage.specs.Span.{erase_test}
use Rattle.storage.proofs.Nesting.{Legal, legal}
use Rattle.device.specs.Media.{Applied, applied, erased, any_changed}
use Rattle.landing.specs.Ending.{stop_number}
use Rattle.session.specs.declared.Told.{Told}
use Rattle.session.specs.declared.Counters.{Counters}
use Rattle.session.specs.Replies.{Plan}
use Rattle.session.specs.Log.{Log, logged}
use Rattle.session.specs.Tests.{size_test, log_test, operation_test}
use Rattle.session.specs.Armed.{Armed, armed_on, erase_lands, lands}
use Rattle.session.specs.Written.{planned, Landing, written}
use Rattle.session.proofs.Writing.{lands-le as all-le, erase-lands, call-refused, call-taken, landed-so}
use Rattle.session_erase.specs.Erase.{erase_number, erase_plan, erase_landing, erase_entry, erase_call}

pub lands-le : (a : Armed) (len block : ℕ) → erase_lands a len block ≤ len
lands-le a len block = rw (← erase-lands a len block) (all-le len block block a)

-- what is armed, how much lands and the plan, as the code makes them
module _ (t : Told) (c : Counters) (offset len : ℕ) (a : Armed) (n : ℕ) (d : n ≡ lands len t.geometry.erase_size t.geometry.erase_size a) where
  -- no more lands than the length
  pub less : n ≤ len
  less = rw d (all-le len t.geometry.erase_size t.geometry.erase_size a)

  module _ (p : Plan) (f : a ≡ armed_on t.armed c.operations) (e : p ≡ planned c a offset len n) where
    pub plan-is : p ≡ erase_plan t c offset len
    unfolding erase_plan
    plan-is =
        e ∙ ap (planned c a offset len) (d ∙ erase-lands a len t.geometry.erase_size)
        ∙ ap (λ (x : Armed). planned c x offset len (erase_lands x len t.geometry.erase_size)) f

    pub plan-le : p.landed ≤ len
    plan-le = rw e less

-- a taken erase names a legal span
pub erase-legal : (t : Told) (c : Counters) (offset len media copy log : ℕ) → erase_number t c offset len media copy log ≡ 0
    → Legal t.geometry t.geometry.erase_size offset len
unfolding erase_number
erase-legal t c offset len media copy log e =
    let span = erase_test t.geometry offset len in
    let full = operation_test c.operations in
    let stop = stop_number c.stop in
    let one = first_of-zero (size_test t.geometry media copy) (log ∷ stop ∷ span ∷ full ∷ []) e in
    let two = first_of-zero log (stop ∷ span ∷ full ∷ []) one.1 in
    let three = first_of-zero stop (span ∷ full ∷ []) two.1 in
    let four = first_of-zero span (full ∷ []) three.1 in
    legal t.geometry t.geometry.erase_size offset len four.0

-- what the two fills leave
pub landing : (offset len landed : ℕ) (media copy media' copy' : List ℕ) (changed other : Bool)
    → ◌≡◌ {A = Applied} (record { media = media'; changed = changed }) (applied media (erased media offset landed))
    → ◌≡◌ {A = Applied} (record { media = copy'; changed = other }) (applied copy (erased copy (offset + landed) (len - landed)))
    → ◌≡◌ {A = Landing} (record { media = media'; copy = copy'; changed = changed }) (erase_landing offset len landed media copy)
unfolding erase_landing
landing offset len landed media copy media' copy' changed other e f =
    let m : media' ≡ erased media offset landed = ap (λ (x : Applied). x.media) e in
    let k : copy' ≡ erased copy (offset + landed) (len - landed) = ap (λ (x : Applied). x.media) f in
    let b : changed ≡ any_changed media (erased media offset landed) = ap (λ (x : Applied). x.changed) e in
    λ i. record { media = m i; copy = k i; changed = b i }

module _ (t : Told) (c : Counters) (offset len : ℕ) (media copy : List ℕ) (l : Log) (n : ℕ)
    (e : n ≡ erase_number t c offset len (length media) (length copy) (log_test l)) where
  pub erase-refused : (n ≡ 0 → ⊥) → written (record { answer = n; counters = c }) media copy l ≡ erase_call t c offset len media copy l
  unfolding erase_call
  erase-refused h = call-refused c media copy l _ _ n e h

  pub erase-taken : n ≡ 0 → (plan : Plan) (media' copy' : List ℕ) (changed : Bool) (f g : ℕ) (l' : Log)
      → plan ≡ erase_plan t c offset len
      → ◌≡◌ {A = Landing} (record { media = media'; copy = copy'; changed = changed }) (erase_landing offset len plan.landed media copy)
      → f ≡ flag changed → g ≡ flag (eqb plan.reply.answer 0)
      → l' ≡ logged l c.operations (record { kind = 1; offset = offset; len = len; digest = 0; changed = f; answered = g })
      → written plan.reply media' copy' l' ≡ erase_call t c offset len media copy l
  unfolding erase_call
  erase-taken z plan media' copy' changed f g l' a d b h q =
      call-taken c media copy l _ _ n e z _
      (landed-so c l l' (erase_entry offset len) (λ (k : ℕ). erase_landing offset len k media copy) plan (erase_plan t c offset len)
      (record { media = media'; copy = copy'; changed = changed }) _ a d (simp (b, h)) q)
