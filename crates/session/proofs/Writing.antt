-- What a program and an erase share: the plan, and the two ways that a call goes, refused or taken. Assumes nothing.
--     lands-le, program-lands, erase-lands    no more lands than the length; what the code lands is each one's
--     unarmed-plan         with nothing armed it answers 0, and the session runs on
--     plan-counts          a taken one adds one to the count
--     refuses, takes       which way a call goes is told by its number
--     call-refused, call-taken, landed-so    the same as a function's place holds them
use mathlib.Core.Path.{◌≡◌, refl, sym, ap, ◌∙◌}
use mathlib.Core.Bool.{Bool}
use mathlib.Core.List.{List}
use Prim.Native.Nat.{ℕ, zero, suc, ◌+◌, ◌≤◌}
use native.Mathlib.Nat.{suc-ne-zero, le_refl}
use lib.Dec.{eqb}
use borrow.Author.Tests.{eq-eqb, ne_eqb}
use Rattle.landing.specs.declared.Stop.TheVariants.{Running}
use Rattle.landing.specs.Ending.{Ending}
use Rattle.std.specs.Prelude.{None as Nothing, Some as At}
use Rattle.session.specs.declared.Counters.{Counters}
use Rattle.session.specs.declared.Entry.{Entry}
use Rattle.session.specs.Replies.{Plan}
use Rattle.session.specs.Log.{Log, logged}
use Rattle.session.specs.Tests.{operation_test}
use Rattle.landing.proofs.Bounds.{program-landed-by, erase-landed-by, landed-by-le}
use Rattle.session.specs.Armed.{Armed, program_lands, erase_lands, lands, write_reply}
use Rattle.session.specs.Written.{planned, Landing, Written, written, landed_so, written_by}
use Rattle.session.proofs.Refusals.{operation-room}
use Rattle.session.proofs.Laws.{next-count, unarmed-ends}

-- ---- what lands

pub lands-le : (len step unit : ℕ) (a : Armed) → lands len step unit a ≤ len
lands-le len step unit Nothing = le_refl len
lands-le len step unit (At j) = landed-by-le j len step unit

pub program-lands : (a : Armed) (len unit : ℕ) → lands len 1 unit a ≡ program_lands a len unit
program-lands Nothing len unit = refl
program-lands (At j) len unit = program-landed-by j len unit

pub erase-lands : (a : Armed) (len block : ℕ) → lands len block block a ≡ erase_lands a len block
erase-lands Nothing len block = refl
erase-lands (At j) len block = erase-landed-by j len block

-- ---- the plan

module _ (c : Counters) (a : Armed) (offset len landed : ℕ) where
  pub unarmed-plan : a ≡ Nothing
      → ((planned c a offset len landed).reply.answer ≡ 0) × ((planned c a offset len landed).reply.counters.stop ≡ Running)
  unfolding write_reply
  unarmed-plan e =
      let w = unarmed-ends a (eqb landed len) e in
      (ap (λ (x : Ending). x.answer) w, ap (λ (x : Ending). x.stop) w)

  pub plan-counts : operation_test c.operations ≡ 0 → (planned c a offset len landed).reply.counters.operations ≡ c.operations + 1
  unfolding write_reply
  plan-counts e = next-count c.operations (operation-room c.operations e)

-- ---- refused or taken

module _ (c : Counters) (media copy : List ℕ) (l : Log) (w : Written) (number : ℕ) where
  pub refuses : (number ≡ 0 → ⊥) → written_by number c media copy l w ≡ written (record { answer = number; counters = c }) media copy l
  refuses h = simp (ne_eqb number 0 h)

  pub takes : number ≡ 0 → written_by number c media copy l w ≡ w
  takes e = simp (eq-eqb number 0 e)

  -- what holds of both ways holds of the call
  pub either : (f : Written → List ℕ) (xs : List ℕ) → f w ≡ xs → f (written (record { answer = number; counters = c }) media copy l) ≡ xs
      → f (written_by number c media copy l w) ≡ xs
  either f xs p q = go number refl
    where
      go : (n : ℕ) → number ≡ n → f (written_by number c media copy l w) ≡ xs
      go zero e = ap f (takes e) ∙ p
      go (suc n) e = ap f (refuses (λ z. suc-ne-zero n (sym e ∙ z))) ∙ q

  module _ (n : ℕ) (e : n ≡ number) where
    pub call-refused : (n ≡ 0 → ⊥) → written (record { answer = n; counters = c }) media copy l ≡ written_by number c media copy l w
    call-refused h = simp (← e, ne_eqb n 0 h)

    pub call-taken : n ≡ 0 → (w' : Written) → w' ≡ w → w' ≡ written_by number c media copy l w
    call-taken z w' f = f ∙ sym (takes (sym e ∙ z))

-- a taken call as its place holds it: the plan, what landed, and the row stored
pub landed-so : (c : Counters) (l l' : Log) (entry : Bool → ℕ → Entry) (landing : ℕ → Landing) (p q : Plan) (d : Landing) (x : Entry)
    → p ≡ q → d ≡ landing p.landed → x ≡ entry d.changed p.reply.answer → l' ≡ logged l c.operations x
    → written p.reply d.media d.copy l' ≡ landed_so c entry q.reply (landing q.landed) l
landed-so c l l' entry landing p q d x a b f g = simp (g, f, b, a)
