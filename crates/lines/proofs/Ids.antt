-- A loop's turn over ids, each a field.
--     ids-put, ids-put-end      the loop that writes them, and its end
--     ids-size, ids-size-end    what an id adds to the length of what is left
-- Assumes nothing.
use mathlib.Core.Path.{◌≡◌, sym, ap, ◌∙◌}
use mathlib.Core.List.{List, [], ◌∷◌, map, flatten}
use Prim.Native.Nat.{ℕ, ◌+◌, ◌≤◌, ◌<◌}
use native.Mathlib.Omega.{arith}
use lib.ListN.{length, get_or, drop, length-append}
use Rattle.basics.proofs.Scans.{at-step, at-end}
use Rattle.text.specs.Numbers.{decimal_of}
use Rattle.text.specs.Printing.{Places}
use Rattle.pieces.specs.Pieces.{letter, Cursor, after_all, tabbed}

module _ (s : List ℕ) (i : ℕ) where
  module _ (whole : Cursor) (a : Cursor) where
    pub ids-put : (b : Cursor) → whole ≡ after_all (tabbed (map decimal_of (drop i s))) a → i < length s → b ≡ after_all (letter 9 ∷ decimal_of (get_or s i 0) ∷ []) a
        → whole ≡ after_all (tabbed (map decimal_of (drop (i + 1) s))) b
    unfolding tabbed after_all
    ids-put b e h g = e ∙ at-step (λ (l : List ℕ). after_all (tabbed (map decimal_of l)) a) s i 0 h ∙ ap (after_all (tabbed (map decimal_of (drop (i + 1) s)))) (sym g)

    pub ids-put-end : whole ≡ after_all (tabbed (map decimal_of (drop i s))) a → length s ≤ i → a ≡ whole
    unfolding tabbed after_all
    ids-put-end e h = sym (e ∙ at-end (λ (l : List ℕ). after_all (tabbed (map decimal_of l)) a) s i h)

  pub ids-size : (n : ℕ) → Places (get_or s i 0) n → i < length s
      → length (flatten (tabbed (map decimal_of (drop i s)))) ≡ 1 + n + length (flatten (tabbed (map decimal_of (drop (i + 1) s))))
  unfolding tabbed flatten
  ids-size n w h =
      at-step (λ (l : List ℕ). length (flatten (tabbed (map decimal_of l)))) s i 0 h ∙ simp length-append (omega (arith, w.is))

  pub ids-size-end : length s ≤ i → length (flatten (tabbed (map decimal_of (drop i s)))) ≡ 0
  unfolding tabbed flatten
  ids-size-end h = at-end (λ (l : List ℕ). length (flatten (tabbed (map decimal_of l)))) s i h
