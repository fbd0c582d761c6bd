-- What holds of every list of entries.
--     attempted-not-torn       torn is never true of an attempted entry
--     state-decoded            the number of a state stands for that state
--     committed-sublist        the committed ids are a sublist of the ledger's
--     acknowledged-sublist     the acknowledged ids are a sublist of the committed
-- Assumes nothing.
use mathlib.Core.Path.{◌≡◌, refl, sym, ap}
use mathlib.Core.Bool.{Bool, true, false, cond, not, true≢false}
use mathlib.Core.List.{List, [], ◌∷◌, Sublistᴰ}
use Prim.Native.Nat.{ℕ}
use lib.Dec.{eqb}
use Rattle.model.specs.Ledger.{code_of, Entry, is_attempted, is_committed, is_acknowledged, is_torn, ids, picked, committed, acknowledged}
use Rattle.model.specs.Columns.{state_of}
use Rattle.model.specs.declared.Durability.{Durability}
use Rattle.model.specs.declared.Durability.TheVariants.{Attempted, PossiblyDurable, Acknowledged}

-- "Torn is dropped where the state is attempted."
pub attempted-not-torn : (e : Entry) → is_attempted e ≡ true → is_torn e ≡ false
attempted-not-torn e a = simp a

pub state-decoded : (s : Durability) → state_of (code_of s) ≡ s
state-decoded Attempted = refl
state-decoded PossiblyDurable = refl
state-decoded Acknowledged = refl

-- the ids that pass one test are a sublist of those that pass a weaker one
picked-sublist : (p q : Entry → Bool) → ((e : Entry) → p e ≡ true → q e ≡ true) → (l : List Entry) → Sublistᴰ (ids (picked p l)) (ids (picked q l))
unfolding ids picked
picked-sublist p q g [] = Sublistᴰ.slnil
picked-sublist p q g (e ∷ es) = step (picked-sublist p q g es) (p e) (q e) (g e)
  where
    step : Sublistᴰ (ids (picked p es)) (ids (picked q es)) → (a b : Bool) → (a ≡ true → b ≡ true)
        → Sublistᴰ (ids (cond a (e ∷ picked p es) (picked p es))) (ids (cond b (e ∷ picked q es) (picked q es)))
    step r true true g = Sublistᴰ.cons-cons refl r
    step r true false g = absurd (true≢false (sym (g refl)))
    step r false true g = Sublistᴰ.cons r
    step r false false g = r

picked_all : (l : List Entry) → ids (picked (λ (e : Entry). true) l) ≡ ids l
unfolding ids picked
picked_all [] = refl
picked_all (e ∷ es) = ap (λ (l : List ℕ). e.id ∷ l) (picked_all es)

pub committed-sublist : (l : List Entry) → Sublistᴰ (committed l) (ids l)
unfolding committed
committed-sublist l = rw picked_all at (picked-sublist is_committed (λ (e : Entry). true) (λ e t. refl) l)

acknowledged-committed : (s : Durability) → eqb (code_of s) 2 ≡ true → not (eqb (code_of s) 0) ≡ true
acknowledged-committed Attempted e = absurd (true≢false (sym e))
acknowledged-committed PossiblyDurable e = refl
acknowledged-committed Acknowledged e = refl

pub acknowledged-sublist : (l : List Entry) → Sublistᴰ (acknowledged l) (committed l)
unfolding committed acknowledged
acknowledged-sublist l = picked-sublist is_acknowledged is_committed (λ e t. acknowledged-committed e.state t) l
