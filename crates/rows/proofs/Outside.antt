-- Bytes outside the pool, a row at a time.
--     outside-next, outside-all     the loop over the rows
-- Assumes nothing.
use mathlib.Core.Logic.{⊎_elim}
use mathlib.Core.Path.{◌≡◌, refl, sym, ap, ◌∙◌}
use mathlib.Core.Bool.{Bool, true, false, ◌&&◌, ◌||◌}
use mathlib.Core.List.{List, [], ◌∷◌}
use Prim.Native.Nat.{ℕ, ◌+◌, ◌≤◌, ◌<◌, min}
use native.Mathlib.Omega.{arith}
use lib.ListN.{length, get_or, drop}
use lib.Dec.{eqb, ltb}
use Rattle.basics.proofs.Scans.{at-step, at-end}
use Rattle.basics.proofs.Tests.{le-or-gt}
use Rattle.rows.specs.Rows.{any_outside}

or-joined : (a b c : Bool) → (a || (b || c)) ≡ (a || b || c)
or-joined true b c = refl
or-joined false b c = refl

or-none : (a : Bool) → (a || false) ≡ a
or-none true = refl
or-none false = refl

module _ (pool : ℕ) where
  -- a list that has ended has no row
  no-lens : (ks ss : List ℕ) → any_outside pool ks [] ss ≡ false
  unfolding any_outside
  no-lens [] ss = refl
  no-lens (k ∷ ks) ss = refl

  no-starts : (ks ls : List ℕ) → any_outside pool ks ls [] ≡ false
  unfolding any_outside
  no-starts [] ls = refl
  no-starts (k ∷ ks) [] = refl
  no-starts (k ∷ ks) (l ∷ ls) = refl

  module _ (ks ls ss : List ℕ) (both rows : ℕ) (m : both ≡ min (length ks) (length ls)) (n : rows ≡ min both (length ss)) (i : ℕ) where
    abbrev here : Bool
    here = eqb (get_or ks i 0) 0 && ltb pool (get_or ss i 0 + get_or ls i 0)

    left-row : i < rows → any_outside pool (drop i ks) (drop i ls) (drop i ss) ≡ (here || any_outside pool (drop (i + 1) ks) (drop (i + 1) ls) (drop (i + 1) ss))
    unfolding any_outside
    left-row h =
        at-step (λ (k : List ℕ). any_outside pool k (drop i ls) (drop i ss)) ks i 0 (omega arith)
        ∙ at-step (λ (l : List ℕ). any_outside pool (get_or ks i 0 ∷ drop (i + 1) ks) l (drop i ss)) ls i 0 (omega arith)
        ∙ at-step (λ (s : List ℕ). any_outside pool (get_or ks i 0 ∷ drop (i + 1) ks) (get_or ls i 0 ∷ drop (i + 1) ls) s) ss i 0 (omega arith)

    past-kinds : length ks ≤ i → any_outside pool (drop i ks) (drop i ls) (drop i ss) ≡ false
    unfolding any_outside
    past-kinds h = at-end (λ (k : List ℕ). any_outside pool k (drop i ls) (drop i ss)) ks i h

    past-lens : length ls ≤ i → any_outside pool (drop i ks) (drop i ls) (drop i ss) ≡ false
    past-lens h = at-end (λ (l : List ℕ). any_outside pool (drop i ks) l (drop i ss)) ls i h ∙ no-lens (drop i ks) (drop i ss)

    past-starts : length ss ≤ i → any_outside pool (drop i ks) (drop i ls) (drop i ss) ≡ false
    past-starts h = at-end (λ (s : List ℕ). any_outside pool (drop i ks) (drop i ls) s) ss i h ∙ no-starts (drop i ks) (drop i ls)

    left-none : rows ≤ i → any_outside pool (drop i ks) (drop i ls) (drop i ss) ≡ false
    left-none h = ⊎_elim past-kinds (λ k. ⊎_elim past-lens (λ l. past-starts (omega arith)) (le-or-gt (length ls) i)) (le-or-gt (length ks) i)

    module _ (found : Bool) (e : any_outside pool ks ls ss ≡ (found || any_outside pool (drop i ks) (drop i ls) (drop i ss))) where
      pub outside-next : i < rows → (b : Bool) → b ≡ here
          → any_outside pool ks ls ss ≡ (found || b || any_outside pool (drop (i + 1) ks) (drop (i + 1) ls) (drop (i + 1) ss))
      outside-next h b q =
          e ∙ ap (λ (t : Bool). found || t) (left-row h ∙ ap (λ (t : Bool). t || any_outside pool (drop (i + 1) ks) (drop (i + 1) ls) (drop (i + 1) ss)) (sym q))
          ∙ or-joined found b (any_outside pool (drop (i + 1) ks) (drop (i + 1) ls) (drop (i + 1) ss))

      pub outside-all : rows ≤ i → found ≡ any_outside pool ks ls ss
      outside-all h = sym (e ∙ ap (λ (t : Bool). found || t) (left-none h) ∙ or-none found)
