-- The iterator over a ledger's committed ids: what a call of `next` takes from the two columns that it goes over.
--     committed-next    the first of the ids that were left, where any was
-- Assumes nothing.
use mathlib.Core.Path.{◌≡◌, refl, ap, ap₂, subst, sym, ◌∙◌}
use mathlib.Core.Bool.{Bool, true, false, not}
use mathlib.Core.List.{List, [], ◌∷◌}
use mathlib.Core.Logic.{◌⊎◌, inl, inr, ⊎_elim}
use Prim.Native.Nat.{ℕ, zero, suc}
use native.Mathlib.Omega.{arith}
use lib.Dec.{eqb, leb}
use lib.ListN.{length}
use borrow.Author.Tests.{ne_eqb, le-leb}
use Rattle.std.specs.Prelude.{Option, None, Some}
use Rattle.std.specs.Option.{MatchOption}
use Rattle.std.specs.Fn.{Called, CalledAt}
use Rattle.std.specs.Iterator.{Yields}
use Rattle.std.specs.Iterator.Adapters.{zip_first, zip_second, filter_source, filter_callee, filter_steps, map_source}
use Rattle.std.specs.List.{FoldsTo}
use Rattle.std.specs.Slice.Iter.{iter_rest}
use Rattle.std.specs.declared.iter.Zip.{Zip}
use Rattle.std.specs.declared.iter.Filter.{Filter}
use Rattle.std.specs.declared.iter.Map.{Map}
use Rattle.std.proofs.Common.{Iter, Bor}
use Rattle.std.proofs.iter.Yields.{fronts}
use Rattle.std.proofs.lemmas.Iterator.{zips, maps}
use denote.Param.Members.{Mut}
use Rattle.model.specs.Scans.{ids_from}

abbrev pub Rows : Type 0
Rows = Zip (Iter ℕ) (Iter ℕ)

-- the committed ids that are left
abbrev pub left_in : Rows → List ℕ
left_in s = ids_from 1 (iter_rest (zip_first s)) (iter_rest (zip_second s))

uncommitted : (s : ℕ) → not (eqb s 0) ≡ leb 1 s
uncommitted zero = refl
uncommitted (suc n) = simp (ne_eqb (suc n) 0 (λ e. omega arith), le-leb 1 (suc n) (omega arith))

-- a row whose state's code is below, and one whose code is not
module _ (least : ℕ) (is ss : List ℕ) (i s : ℕ) where
  pub kept : leb least s ≡ false → ids_from least (i ∷ is) (s ∷ ss) ≡ ids_from least is ss
  unfolding ids_from
  kept e = simp e

  pub came : leb least s ≡ true → ids_from least (i ∷ is) (s ∷ ss) ≡ i ∷ ids_from least is ss
  unfolding ids_from
  came e = simp e

pub none-from : (least : ℕ) (is ss : List ℕ) → (length is ≡ 0) ⊎ (length ss ≡ 0) → ids_from least is ss ≡ []
unfolding ids_from
none-from least [] ss e = refl
none-from least (i ∷ is) [] e = refl
none-from least (i ∷ is) (s ∷ ss) (inl e) = absurd (omega arith)
none-from least (i ∷ is) (s ∷ ss) (inr e) = absurd (omega arith)

-- the filter's closure g, at the state f that it keeps, is the test of a row's state
module _ {F : Type 0} (g : Mut F (Bor (Bor ℕ × Bor ℕ) × Unit {0}) Bool) (f : F)
    (k : (x : Bor ℕ × Bor ℕ) (b : Bool) (q : F) → CalledAt g f x b q → (q ≡ f) × (b ≡ not (eqb x.1.now 0))) where
  skipped : (xs : List (Bor ℕ × Bor ℕ)) (s t : Rows) (w q : F) → w ≡ f → Yields (zips fronts fronts) s xs t → FoldsTo (λ p x q. CalledAt g p x false q) w xs q → (q ≡ f) × (left_in s ≡ left_in t)
  skipped [] s t w q e y c = (sym c ∙ e, ap left_in y)
  skipped (x ∷ xs) s t w q e y c =
      let m = k x false c.0 (subst (λ z. CalledAt g z x false c.0) e c.1) in
      let r = skipped xs y.0 t c.0 q m.0 y.2 c.2 in
      (r.0, ap₂ (ids_from 1) y.1.0 y.1.1 ∙ kept 1 _ _ x.0.now x.1.now (sym (m.1 ∙ uncommitted x.1.now)) ∙ r.1)

  module _ {H : Type 0} (h : Mut H ((Bor ℕ × Bor ℕ) × Unit {0}) ℕ) (a : (w : H) (x : Bor ℕ × Bor ℕ) (y : ℕ) (q : H) → Called h w (x, tt) y q → y ≡ x.0.now)
      (s t : Map (Filter Rows F) H) (r : Option ℕ) (e : filter_callee (map_source s) ≡ f) (p : maps (filter_steps (zips fronts fronts) g) h s r t) where
    -- r is what came
    pub committed-next : MatchOption r (left_in (filter_source (map_source s)) ≡ []) (λ y. left_in (filter_source (map_source s)) ≡ y ∷ left_in (filter_source (map_source t)))
    committed-next = step r p
      where
        step : (r : Option ℕ) → maps (filter_steps (zips fronts fronts) g) h s r t
            → MatchOption r (left_in (filter_source (map_source s)) ≡ []) (λ y. left_in (filter_source (map_source s)) ≡ y ∷ left_in (filter_source (map_source t)))
        step None p =
            let z = p.0 in
            let m = skipped z.0 (filter_source (map_source s)) z.2.0 (filter_callee (map_source s)) z.1 e z.2.1 z.3 in
            m.1 ∙ none-from 1 _ _ (⊎_elim (λ w. inl w.1.0) (λ w. inr w.1.0) z.2.2)
        step (Some y) p =
            let z = p.1 in
            let m = skipped z.0 (filter_source (map_source s)) z.2.0 (filter_callee (map_source s)) z.1 e z.2.1 z.3 in
            let n = k p.0 true (filter_callee (map_source t)) (subst (λ w. CalledAt g w p.0 true (filter_callee (map_source t))) m.0 z.4) in
            m.1 ∙ ap₂ (ids_from 1) z.2.2.0 z.2.2.1 ∙ came 1 _ _ p.0.0.now p.0.1.now (sym (n.1 ∙ uncommitted p.0.1.now)) ∙ ap (λ (w : ℕ). w ∷ left_in (filter_source (map_source t))) (sym (a _ p.0 y _ p.2))
