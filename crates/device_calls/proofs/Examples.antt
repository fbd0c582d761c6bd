-- The definitions at small media, computed. Assumes nothing.
use mathlib.Core.Path.{◌≡◌, refl}
use mathlib.Core.List.{[], ◌∷◌}
use lib.Count.{ones}
use Rattle.basics.specs.Tests.{unless, refuse_if, first_of}
use Rattle.basics.specs.Parts.{part}
use Rattle.storage.specs.Geometry.{geometry_of, geometry_test}
use Rattle.storage.specs.Span.{span_test}
use Rattle.device.specs.declared.OneWayBits.TheVariants.{Absorbed, Rejected}
use Rattle.device.specs.Media.{any_pair, would_set_a_bit}
use Rattle.device_calls.specs.Calls.{write_refusal, erase_refusal, program_refusal}

-- two cells, units of one: the span, then the media's length, and the bit rule last
pub refusals :
    (program_refusal (geometry_of 2 2 1 1) Rejected (0 ∷ []) 2 (1 ∷ []) ≡ 6)
    × (program_refusal (geometry_of 2 2 1 1) Rejected (0 ∷ []) 0 (1 ∷ []) ≡ 7)
    × (program_refusal (geometry_of 2 2 1 1) Rejected (0 ∷ 0 ∷ []) 2 (1 ∷ []) ≡ 6)
    × (program_refusal (geometry_of 2 2 1 1) Rejected (0 ∷ 0 ∷ []) 0 (1 ∷ []) ≡ 20)
    × (program_refusal (geometry_of 2 2 1 1) Absorbed (0 ∷ 0 ∷ []) 0 (1 ∷ []) ≡ 0)
    × (erase_refusal (geometry_of 2 2 1 1) 2 1 1 ≡ 4)
unfolding program_refusal write_refusal erase_refusal geometry_test span_test first_of unless refuse_if would_set_a_bit part any_pair ones
refusals = (refl, refl, refl, refl, refl, refl)
