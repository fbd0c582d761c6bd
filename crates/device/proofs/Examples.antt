-- The definitions at small media, computed. Assumes nothing.
use mathlib.Core.Path.{◌≡◌, refl}
use mathlib.Core.Bool.{true, false}
use mathlib.Core.List.{[], ◌∷◌, zip_with}
use Rattle.basics.specs.Parts.{part, overlaid, on_part}
use Rattle.device.specs.Media.{anded, any_pair, any_changed, programmed, erased, would_set_a_bit, postimage, differs_from, erase_would_change}

-- 0xf0 over 0x3c leaves 0x30; past the end nothing lands
pub programs :
    (programmed (255 ∷ 0x3c ∷ 255 ∷ 0 ∷ []) 1 (0xf0 ∷ 255 ∷ []) ≡ 255 ∷ 0x30 ∷ 255 ∷ 0 ∷ [])
    × (programmed (255 ∷ 0x30 ∷ []) 1 (0 ∷ 0 ∷ []) ≡ 255 ∷ 0x30 ∷ [])
    × (any_changed (255 ∷ 0x30 ∷ []) (programmed (255 ∷ 0x30 ∷ []) 1 (0xf0 ∷ [])) ≡ false)
    × (erased (0 ∷ 0x30 ∷ []) 1 1 ≡ 0 ∷ 255 ∷ [])
    × (any_changed (0 ∷ 255 ∷ []) (erased (0 ∷ 255 ∷ []) 1 1) ≡ false)
unfolding programmed erased on_part overlaid part anded zip_with any_pair
programs = (refl, refl, refl, refl, refl)

pub questions :
    (would_set_a_bit (0x30 ∷ []) 0 (0x40 ∷ []) ≡ true)
    × (postimage (0x3c ∷ []) 0 (0xf0 ∷ []) ≡ 0x30 ∷ [])
    × (differs_from (0 ∷ []) 0 (0xf0 ∷ []) ≡ true)
    × (differs_from (0 ∷ []) 1 (0xf0 ∷ []) ≡ true)
    × (erase_would_change (255 ∷ 255 ∷ []) 0 2 ≡ false)
unfolding would_set_a_bit postimage differs_from erase_would_change on_part part anded zip_with any_pair
questions = (refl, refl, refl, refl, refl)
