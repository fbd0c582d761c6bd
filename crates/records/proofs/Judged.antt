-- One record judged: state and torn, from what the code has found.
--     entry-codes               the two codes are the rule's
--     entry-id, entry-same      the id is the mark's, and state and torn do not depend on it
-- Assumes nothing.
use mathlib.Core.Path.{◌≡◌, refl, sym, ap, ◌∙◌}
use mathlib.Core.Bool.{Bool, true, false, ◌&&◌}
use mathlib.Core.List.{List}
use Prim.Native.Nat.{ℕ, ◌-◌, min}
use lib.ListN.{length, take, drop}
use Rattle.basics.specs.Tests.{flag}
use Rattle.model.specs.Ledger.{code_of}
use Rattle.model.specs.declared.Durability.{Durability}
use Rattle.records.specs.declared.Facts.{Facts}
use Rattle.records.specs.declared.Codes.{Codes}
use Rattle.records.specs.Records.{any, judged}
use Rattle.records.specs.Columns.{last_place, is_one, is_write, higher, armed_in, followed_at, entry_in, entry_at, codes_of}

judged-id : (id : ℕ) (a b c : Bool) → (judged id a b c).id ≡ id
unfolding judged
judged-id id false b c = refl
judged-id id true true c = refl
judged-id id true false true = refl
judged-id id true false false = refl

-- state and torn do not depend on the id
judged-codes : (id : ℕ) (a b c : Bool) → codes_of (judged id a b c) ≡ codes_of (judged 0 a b c)
unfolding judged
judged-codes id false b c = refl
judged-codes id true true c = refl
judged-codes id true false true = refl
judged-codes id true false false = refl

judged-torn : (a b c : Bool) → (judged 0 a b c).mark ≡ (a && b)
unfolding judged
judged-torn false b c = refl
judged-torn true true c = refl
judged-torn true false true = refl
judged-torn true false false = refl

module _ (f : Facts) (ks cs : List ℕ) (from to : ℕ) where
  -- b: whether a cell of its own changed, written: one past its last program or erase
  pub entry-codes : (start stop : ℕ) → start ≡ min from (min (length ks) (length cs)) → stop ≡ higher start (min to (min (length ks) (length cs)))
      → (within : Bool) → within ≡ armed_in f.armed start stop
      → (b : Bool) → b ≡ any is_one (take (stop - start) (drop start cs)) → (written : ℕ) → written ≡ last_place is_write (take (stop - start) (drop start ks))
      → (state : Durability) → state ≡ (judged 0 b (f.outstanding && within) (followed_at start written f.barrier)).state
      → (code torn : ℕ) → code ≡ code_of state → torn ≡ flag (b && (f.outstanding && within))
      → ◌≡◌ {A = Codes} (record { state = code; torn = torn }) (codes_of (entry_at f ks cs 0 from to))
  unfolding entry_in
  entry-codes start stop e g within w b o written l state q code torn x y =
      let j = judged 0 b (f.outstanding && within) (followed_at start written f.barrier) in
      let one : code ≡ code_of j.state = x ∙ ap code_of q in
      let two : torn ≡ flag j.mark = y ∙ ap flag (sym (judged-torn b (f.outstanding && within) (followed_at start written f.barrier))) in
      (λ i. record { state = one i; torn = two i })
      ∙ (λ i. codes_of (judged 0 (o i) (f.outstanding && w i) (followed_at start (l i) f.barrier)))
      ∙ ap (λ (k : ℕ). codes_of (entry_in f ks cs 0 start k)) g
      ∙ ap (λ (k : ℕ). codes_of (entry_in f ks cs 0 k (higher k (min to (min (length ks) (length cs)))))) e

  pub entry-id : (id : ℕ) → (entry_at f ks cs id from to).id ≡ id
  unfolding entry_in
  entry-id id = judged-id id _ _ _

  pub entry-same : (id : ℕ) → codes_of (entry_at f ks cs id from to) ≡ codes_of (entry_at f ks cs 0 from to)
  unfolding entry_in
  entry-same id = judged-codes id _ _ _
