-- The ids that a loop over two of the columns picks. Only private contracts of `oracle` cite it. Assumes nothing.
use Rattle.std.specs.Prelude.{cond, List, [], ◌∷◌, ℕ, leb}

-- the ids whose state's code is at least so much: 1 for the committed ones, 2 for the acknowledged ones
unfoldable pub ids_from : (least : ℕ) → (ids states : List ℕ) → List ℕ
ids_from least [] ss = []
ids_from least (i ∷ is) [] = []
ids_from least (i ∷ is) (s ∷ ss) = cond (leb least s) (i ∷ ids_from least is ss) (ids_from least is ss)
