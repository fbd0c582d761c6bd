-- A list written over a column: n of its elements are written.
--     Turn, fill-turn     a turn of the loop that writes the next
--     fill_end            its end
-- Assumes nothing.
use mathlib.Core.Path.{◌≡◌, sym, ap, ◌∙◌}
use mathlib.Core.List.{List, [], ◌∷◌, ◌++◌}
use Prim.Native.Nat.{ℕ, zero, suc, ◌+◌, ◌-◌, ◌≤◌, ◌<◌}
use native.Mathlib.Numerals.{add-one}
use native.Mathlib.Omega.{arith}
use lib.ListN.{length, get_or, take, drop, set, length-drop}
use lib.Seq.{take_all}
use Rattle.basics.proofs.Overwrites.{over-more}

next-suc : (new : List ℕ) (n x : ℕ) (rest : List ℕ) → drop n new ≡ x ∷ rest → (n < length new) × (x ≡ get_or new n 0) × (drop (suc n) new ≡ rest)
next-suc [] n x rest e = absurd (none n e)
  where
    none : (n : ℕ) → drop {A = ℕ} n [] ≡ x ∷ rest → ⊥
    none zero e = let z : ◌≡◌ {A = ℕ} 0 1 = cc in omega arith
    none (suc n) e = let z : ◌≡◌ {A = ℕ} 0 1 = cc in omega arith
next-suc (y ∷ ys) zero x rest e = (omega arith, cc, cc)
next-suc (y ∷ ys) (suc n) x rest e =
    let r : (n < length ys) × (x ≡ get_or ys n 0) × (drop (suc n) ys ≡ rest) = next-suc ys n x rest e in
    (omega arith, r.1, r.2)

pub record Turn (new old now : List ℕ) (n x : ℕ) (rest : List ℕ) : Type 0 where
  pub below : n < length new
  pub stored : set now n x ≡ take (n + 1) new ++ drop (n + 1) old
  pub after : drop (n + 1) new ≡ rest

module _ (new old now : List ℕ) (n : ℕ) (room : length new ≤ length old) (so : now ≡ take n new ++ drop n old) where
  pub fill-turn : (x : ℕ) (rest : List ℕ) → drop n new ≡ x ∷ rest → Turn new old now n x rest
  fill-turn x rest e =
      let r : (n < length new) × (x ≡ get_or new n 0) × (drop (suc n) new ≡ rest) = next-suc new n x rest e in
      record {
        below = r.0;
        stored = over-more new old now n x 0 r.0 (omega (arith, r.0)) so r.1;
        after = ap (λ (k : ℕ). drop k new) (add-one n) ∙ r.2;
      }

  pub fill_end : drop n new ≡ [] → n ≤ length new → now ≡ new ++ drop (length new) old
  fill_end e b =
      let z : length new - n ≡ 0 = sym (length-drop n new) ∙ ap length e in
      let k : n ≡ length new = omega arith in
      so ∙ ap (λ (l : List ℕ). l ++ drop n old) (take_all n new (omega arith)) ∙ ap (λ (m : ℕ). new ++ drop m old) k
