-- A field where it stands in a text: by the byte at its place, and how it splits the text.
--     field_out, field_step    past the text's end there is no field; at a byte, the field is by that byte
--     field-splits             a field, the byte that ends it, and what follows, are the text
-- Assumes nothing.
use mathlib.Core.Path.{◌≡◌, refl, ap, ◌∙◌}
use mathlib.Core.Bool.{Bool, true, false, cond}
use mathlib.Core.List.{List, [], ◌∷◌, ◌++◌}
use Prim.Native.Nat.{ℕ, suc, ◌+◌, ◌≤◌, ◌<◌}
use native.Mathlib.Numerals.{add-one}
use native.Mathlib.Omega.{arith}
use lib.ListN.{length, get_or, drop, drop_of_length-le}
use lib.Dec.{eqb}
use borrow.Author.Tests.{eq-eqb, ne_eqb, eqb-true}
use Rattle.basics.proofs.Scans.{at-step}
use Rattle.text.specs.Fields.{Field, field, missing, onto, field_to}

-- ---- the field at a place

module _ (s : List ℕ) (from end : ℕ) where
  pub field_out : length s ≤ from → field_to end (drop from s) ≡ missing
  unfolding field_to
  field_out h = rw (drop_of_length-le s {i = from} h)

  module _ (h : from < length s) where
    pub field-here : get_or s from 0 ≡ end → field_to end (drop from s) ≡ field []
    unfolding field_to
    field-here q = at-step (field_to end) s from 0 h ∙ simp (eq-eqb _ _ q)

    pub field_step : (get_or s from 0 ≡ end → ⊥) → field_to end (drop from s) ≡ onto (get_or s from 0) (field_to end (drop (from + 1) s))
    unfolding field_to
    field_step q = at-step (field_to end) s from 0 h ∙ simp (ne_eqb _ _ q)

-- ---- a field splits the text

onto-field : (x : ℕ) (F : Field) (f : List ℕ) → onto x F ≡ field f → (g : List ℕ) → F ≡ field g → f ≡ x ∷ g
onto-field x F f e g q = let z : field (x ∷ g) ≡ field f = rw q at e in cc

splits-step : (t : Bool) (x end : ℕ) (xs f : List ℕ) (F : Field) → eqb x end ≡ t → cond t (field []) (onto x F) ≡ field f
    → ((g : List ℕ) → F ≡ field g → xs ≡ g ++ (end ∷ drop (suc (length g)) xs)) → x ∷ xs ≡ f ++ (end ∷ drop (suc (length f)) (x ∷ xs))
splits-step true x end xs f F t e k =
    let n : [] ≡ f = cc in
    let q : x ≡ end = eqb-true x end t in
    rw (← n, q)
splits-step false x end xs f missing t e k = absurd (let z : ◌≡◌ {A = ℕ} 0 1 = cc in omega arith)
splits-step false x end xs f (field g) t e k =
    let n : x ∷ g ≡ f = cc in
    rw (← n) (ap (λ (l : List ℕ). x ∷ l) (k g refl))

field-splits-suc : (end : ℕ) (xs f : List ℕ) → field_to end xs ≡ field f → xs ≡ f ++ (end ∷ drop (suc (length f)) xs)
unfolding field_to
field-splits-suc end [] f e = absurd (let z : ◌≡◌ {A = ℕ} 0 1 = cc in omega arith)
field-splits-suc end (x ∷ xs) f e = splits-step (eqb x end) x end xs f (field_to end xs) refl e (λ g q. field-splits-suc end xs g q)

pub field-splits : (end : ℕ) (xs f : List ℕ) → field_to end xs ≡ field f → xs ≡ f ++ (end ∷ drop (length f + 1) xs)
field-splits end xs f e = rw add-one (field-splits-suc end xs f e)
