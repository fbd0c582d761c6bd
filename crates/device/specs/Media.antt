-- Document 01, "device.rs (342)": the media, a list of cells of a byte each, and what may be asked of them.
-- Definitions only; assumes nothing.
use Rattle.std.specs.Prelude.{Bool, not, ◌&&◌, ◌||◌, cond, false, ℕ, length, replicate, eqb}
use mathlib.Core.List.{List, [], ◌∷◌, zip_with}
use Rattle.std.specs.Int.Bits.{bit_and}
use Rattle.basics.specs.Parts.{part, within, on_part}

-- what an erased cell holds
abbrev pub ff : ℕ
ff = 0xff

-- "A new device holds 0xFF everywhere."
abbrev pub new_media : (capacity : ℕ) → List ℕ
new_media capacity = replicate capacity ff

-- ---- programming and erasing

-- "each cell becomes cell AND byte"
unfoldable pub anded : (cells src : List ℕ) → List ℕ
unfolding zip_with
anded cells src = zip_with bit_and cells src

-- "Programming works on the part of the media from offset to offset plus length: each cell becomes cell AND byte."
-- Where that part is not all there, nothing changes.
unfoldable pub programmed : (media : List ℕ) (offset : ℕ) (src : List ℕ) → List ℕ
programmed media offset src = on_part media offset (length src) (λ cells. anded cells src)

-- "Erasing fills with 0xFF." Where the part is not all there, nothing changes.
unfoldable pub erased : (media : List ℕ) (offset n : ℕ) → List ℕ
erased media offset n = on_part media offset n (λ cells. replicate n ff)

-- ---- "Both tell whether a cell changed."

-- some cell of the first list stands as f says to the one at its place in the second
unfoldable pub any_pair : (ℕ → ℕ → Bool) → List ℕ → List ℕ → Bool
any_pair f [] ys = false
any_pair f (x ∷ xs) [] = false
any_pair f (x ∷ xs) (y ∷ ys) = f x y || any_pair f xs ys

abbrev pub unequal : ℕ → ℕ → Bool
unequal x y = not (eqb x y)

-- "A cell changed if it differs before and after."
abbrev pub any_changed : (before after : List ℕ) → Bool
any_changed before after = any_pair unequal before after

-- the media that programming or erasing leaves, and whether a cell changed
pub record Applied : Type 0 where
  pub media : List ℕ
  pub changed : Bool

abbrev pub applied : (before after : List ℕ) → Applied
applied before after = record { media = after; changed = any_changed before after }

-- ---- what may be asked of the media

-- "a byte with a 1 where its cell has 0": the AND with its cell takes a bit from it
-- (`sets-bits` in proofs/Bits.antt: exactly if at some place the byte has a 1 and its cell a 0)
abbrev pub sets_a_bit : (cell byte : ℕ) → Bool
sets_a_bit cell byte = unequal (bit_and byte cell) byte

-- a byte of src has a 1 where its cell has 0; none does where the part is not all there
unfoldable pub would_set_a_bit : (media : List ℕ) (offset : ℕ) (src : List ℕ) → Bool
would_set_a_bit media offset src = within media offset (length src) && any_pair sets_a_bit (part media offset (length src)) src

-- "what the write would have left", cell by cell; no cells where the part is not all there
unfoldable pub postimage : (media : List ℕ) (offset : ℕ) (src : List ℕ) → List ℕ
postimage media offset src = cond (within media offset (length src)) (anded (part media offset (length src)) src) []

-- "the media differ there from what the write would have left"; where the part is not all there, they differ from all but nothing
unfoldable pub differs_from : (media : List ℕ) (offset : ℕ) (expected : List ℕ) → Bool
differs_from media offset expected =
    cond (within media offset (length expected)) (any_pair unequal (part media offset (length expected)) expected)
    (not (eqb (length expected) 0))

-- erasing the part would change a cell: "not all 0xFF"; it would not where the part is not all there
unfoldable pub erase_would_change : (media : List ℕ) (offset n : ℕ) → Bool
erase_would_change media offset n = within media offset n && any_pair unequal (part media offset n) (replicate n ff)
