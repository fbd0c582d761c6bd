-- The operations from a mark to the next, cut to those that there are.
--     min-lt, min-le, higher-lt, higher-le, higher-max
--     clipped     the same elements, and the same behind them
-- Assumes nothing.
use mathlib.Core.Path.{◌≡◌, refl, sym, ap, ◌∙◌}
use mathlib.Core.Logic.{⊎_elim}
use mathlib.Core.List.{List, []}
use Prim.Native.Nat.{ℕ, ◌-◌, ◌≤◌, ◌<◌, min, max}
use native.Mathlib.Nat.{le_refl}
use native.Mathlib.Omega.{arith}
use lib.ListN.{length, take, drop, length-drop, drop_of_length-le}
use lib.Seq.{take_all, take-nil, drop-nil}
use borrow.Author.Tests.{lt-ltb, le-ltb}
use Rattle.basics.proofs.Tests.{le-or-gt}
use Rattle.records.specs.Columns.{higher}

module _ (a b : ℕ) where
  pub min-lt : a < b → min a b ≡ a
  min-lt h = omega arith

  pub min-le : b ≤ a → min a b ≡ b
  min-le h = omega arith

  pub higher-lt : a < b → higher a b ≡ b
  unfolding higher
  higher-lt h = rw (lt-ltb a b h)

  pub higher-le : b ≤ a → higher a b ≡ a
  unfolding higher
  higher-le h = rw (le-ltb a b h)

  -- as the library has it
  pub higher-max : max b a ≡ higher a b
  higher-max = ⊎_elim (λ (h : b ≤ a). let z : max b a ≡ a = omega arith in z ∙ sym (higher-le h)) (λ (h : a < b). let z : max b a ≡ b = omega arith in z ∙ sym (higher-lt h)) (le-or-gt b a)

-- a record's operations counted from its mark, and cut to those that there are
pub record Clipped {A : Type 0} (l : List A) (from to start stop : ℕ) : Type 0 where
  pub own : take (to - from) (drop from l) ≡ take (stop - start) (drop start l)
  pub later : drop (to - from) (drop from l) ≡ drop (stop - start) (drop start l)
  pub order : start ≤ stop
  pub fits : stop ≤ length l

module _ {A : Type 0} (l : List A) (from to : ℕ) where
  -- the mark stands past the operations
  past : length l ≤ from → Clipped l from to (length l) (length l)
  past h =
      let d : drop from l ≡ [] = drop_of_length-le l h in
      let z : drop (length l) l ≡ [] = drop_of_length-le l (le_refl (length l)) in
      record {
        own = rw (d, z) (take-nil (to - from) ∙ sym (take-nil (length l - length l)));
        later = rw (d, z) (drop-nil (to - from) ∙ sym (drop-nil (length l - length l)));
        order = le_refl (length l);
        fits = le_refl (length l);
      }

  -- the next one stands past them
  long : from < length l → length l ≤ to → Clipped l from to from (length l)
  long h k =
      let n : length (drop from l) ≤ to - from = rw length-drop (omega arith) in
      let m : length (drop from l) ≤ length l - from = rw length-drop (omega arith) in
      record {
        own = take_all (to - from) (drop from l) n ∙ sym (take_all (length l - from) (drop from l) m);
        later = drop_of_length-le (drop from l) n ∙ sym (drop_of_length-le (drop from l) m);
        order = omega arith;
        fits = le_refl (length l);
      }

  plain : from < length l → to < length l → from < to → Clipped l from to from to
  plain h k g = record { own = refl; later = refl; order = omega arith; fits = omega arith }

  -- the next one stands earlier
  early : from < length l → to ≤ from → Clipped l from to from from
  early h g =
      let z : to - from ≡ from - from = omega arith in
      record {
        own = ap (λ (k : ℕ). take k (drop from l)) z;
        later = ap (λ (k : ℕ). drop k (drop from l)) z;
        order = le_refl from;
        fits = omega arith;
      }

  -- in the words of the definition
  pub clipped : (n : ℕ) → length l ≡ n → Clipped l from to (min from n) (higher (min from n) (min to n))
  clipped n e =
      ⊎_elim
      (λ h. rw (← e, min-le from (length l) (omega arith), higher-le (length l) (min to (length l)) (under h)) (past (omega arith)))
      (λ h.
      ⊎_elim
      (λ k. rw (← e, min-lt from (length l) (omega arith), min-le to (length l) (omega arith), higher-lt from (length l) (omega arith)) (long (omega arith) (omega arith)))
      (λ k.
      ⊎_elim
      (λ g. rw (← e, min-lt from (length l) (omega arith), min-lt to (length l) (omega arith), higher-le from to g) (early (omega arith) g))
      (λ g. rw (← e, min-lt from (length l) (omega arith), min-lt to (length l) (omega arith), higher-lt from to g) (plain (omega arith) (omega arith) g))
      (le-or-gt to from))
      (le-or-gt n to))
      (le-or-gt n from)
    where
      under : n ≤ from → min to (length l) ≤ length l
      under h =
          ⊎_elim (λ (k : length l ≤ to). rw (min-le to (length l) k) (le_refl (length l))) (λ (k : to < length l). rw (min-lt to (length l) k) (omega arith))
          (le-or-gt (length l) to)
