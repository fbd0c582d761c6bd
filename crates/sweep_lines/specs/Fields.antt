-- Entries as the pieces that are written one after the other, for private contracts. No public contract cites these.
-- Definitions only; assumes nothing.
use Rattle.std.specs.Prelude.{cond, List, [], ◌∷◌, ◌++◌, ℕ}
use Rattle.model.specs.Ledger.{Entry, is_torn}
use Rattle.text.specs.Numbers.{decimal_of}
use Rattle.pieces.specs.Pieces.{letter}
use Rattle.lines.specs.Lines.{state_letter}

-- an entry's field behind a tab: its id, its state's letter, and `t` if it is torn
unfoldable pub entry_pieces : Entry → List (List ℕ)
entry_pieces e = letter 9 ∷ decimal_of e.id ∷ letter (state_letter e.state) ∷ cond (is_torn e) (letter 116 ∷ []) []

unfoldable pub ledger_pieces : List Entry → List (List ℕ)
ledger_pieces [] = []
ledger_pieces (e ∷ es) = entry_pieces e ++ ledger_pieces es
