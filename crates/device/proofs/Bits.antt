-- "a byte with a 1 where its cell has 0", and what rule `Rejected` keeps from happening.
--     sets-bits      `sets_a_bit` means what the sentence says, bit by bit
--     programmed-bits    programming sets no bit, wherever it lands
--     rejected-part  where the rule lets a call pass, the part holds the bytes themselves
-- Assumes nothing.
use mathlib.Core.Path.{◌≡◌, refl, sym, ap, ap₂, ◌∙◌}
use mathlib.Core.Logic.{◌↔◌}
use mathlib.Core.Bool.{false, not}
use mathlib.Core.List.{List, [], ◌∷◌, zip_with}
use Prim.Native.Nat.{ℕ, ◌+◌, ◌≤◌, ◌<◌}
use native.Mathlib.Nat.{suc-ne-zero, suc_inj}
use lib.ListN.{length, get_or}
use lib.Dec.{eqb}
use lib.Bits.{bit_and, and_comm}
use borrow.Author.Tests.{le-leb, eqb-true, eq-eqb, not-false}
use Rattle.basics.specs.Parts.{part}
use Rattle.basics.proofs.Parts.{length_part}
use Rattle.device.specs.Media.{anded, any_pair, programmed, sets_a_bit, would_set_a_bit}
use Rattle.device.proofs.Ands.{bit, and-bits}
use Rattle.device.proofs.Cells.{get_or-anded}
use Rattle.device.proofs.Pairs.{false_left, false_right}
use Rattle.device.proofs.Programming.{length-programmed, programmed-part, programmed-clears}

-- false exactly if the byte has at no place a 1 where its cell has 0
pub sets-bits : (cell byte : ℕ) → (sets_a_bit cell byte ≡ false) ↔ ((k : ℕ) → bit k byte ≤ bit k cell)
sets-bits cell byte = (
  λ e. (and-bits byte cell).0 (eqb-true (bit_and byte cell) byte (not-false (eqb (bit_and byte cell) byte) e)),
  λ h. ap not (eq-eqb (bit_and byte cell) byte ((and-bits byte cell).1 h)),
)

-- no byte of src has one: programming would leave src itself there
none-sets : (cells src : List ℕ) → length cells ≡ length src → any_pair sets_a_bit cells src ≡ false → anded cells src ≡ src
unfolding any_pair anded zip_with
none-sets [] [] l e = refl
none-sets [] (y ∷ ys) l e = absurd (suc-ne-zero (length ys) (sym l))
none-sets (x ∷ xs) [] l e = absurd (suc-ne-zero (length xs) l)
none-sets (x ∷ xs) (y ∷ ys) l e =
    ap₂ (λ (z : ℕ) (zs : List ℕ). z ∷ zs)
    (and_comm x y ∙ eqb-true (bit_and y x) y (not-false (eqb (bit_and y x) y) (false_left (sets_a_bit x y) (any_pair sets_a_bit xs ys) e)))
    (none-sets xs ys (suc_inj l) (false_right (sets_a_bit x y) (any_pair sets_a_bit xs ys) e))

pub rejected-part : (media : List ℕ) (offset : ℕ) (src : List ℕ) → offset + length src ≤ length media → would_set_a_bit media offset src ≡ false
    → part (programmed media offset src) offset (length src) ≡ src
unfolding would_set_a_bit
rejected-part media offset src h e =
    programmed-part media offset src h
    ∙ none-sets (part media offset (length src)) src (length_part media offset (length src) h) (rw (le-leb _ _ h) at e)

-- "programming can only clear bits": at every place of every cell
pub programmed-bits : (media : List ℕ) (offset : ℕ) (src : List ℕ) (i k : ℕ) → i < length media
    → bit k (get_or (programmed media offset src) i 0) ≤ bit k (get_or media i 0)
programmed-bits media offset src i k h =
    let after = programmed media offset src in
    let l : i < length after = rw (length-programmed media offset src) h in
    let e : bit_and (get_or after i 0) (get_or media i 0) ≡ get_or after i 0 = sym (get_or-anded after media i l h) ∙ ap (λ (m : List ℕ). get_or m i 0) (programmed-clears media offset src) in
    (and-bits (get_or after i 0) (get_or media i 0)).0 e k
