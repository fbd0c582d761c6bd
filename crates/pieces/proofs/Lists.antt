-- Lists of pieces: flatten-append and tabbed-append, two lists of them put together.
-- Assumes nothing.
use mathlib.Core.Path.{◌≡◌, refl, sym, ap, ◌∙◌}
use mathlib.Core.List.{List, [], ◌∷◌, ◌++◌, append_assoc, flatten}
use Prim.Native.Nat.{ℕ}
use Rattle.pieces.specs.Pieces.{letter, tabbed}

pub flatten-append : (ps qs : List (List ℕ)) → flatten (ps ++ qs) ≡ flatten ps ++ flatten qs
unfolding flatten
flatten-append [] qs = refl
flatten-append (p ∷ ps) qs = ap (λ (l : List ℕ). p ++ l) (flatten-append ps qs) ∙ sym (append_assoc p (flatten ps) (flatten qs))

pub tabbed-append : (fs gs : List (List ℕ)) → tabbed (fs ++ gs) ≡ tabbed fs ++ tabbed gs
unfolding tabbed
tabbed-append [] gs = refl
tabbed-append (f ∷ fs) gs = ap (λ (l : List (List ℕ)). letter 9 ∷ f ∷ l) (tabbed-append fs gs)
