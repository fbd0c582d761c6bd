-- What `media.get(offset..offset + n)` answered, said of the part.
--     got-outside     None: the part is not all there
--     got-part        Some: it is the part
-- Assumes nothing.
use mathlib.Core.Path.{◌≡◌, ◌∙◌}
use mathlib.Core.Logic.{◌⊎◌, ⊎_elim}
use mathlib.Core.List.{List}
use Prim.Native.Nat.{ℕ, ◌+◌, ◌≤◌, ◌<◌}
use native.Mathlib.Omega.{arith}
use lib.ListN.{length}
use Rattle.std.specs.List.{slice_range}
use Rattle.basics.specs.Parts.{part}
use Rattle.basics.proofs.Parts.{part-lent}

pub got-outside : (media : List ℕ) (offset n : ℕ) → (offset + n < offset) ⊎ (length media < offset + n) → length media < offset + n
got-outside media offset n = ⊎_elim (λ h. absurd (omega arith)) (λ h. h)

pub got-part : (media cells : List ℕ) (offset n : ℕ) → offset + n ≤ length media → cells ≡ slice_range media offset (offset + n) → cells ≡ part media offset n
got-part media cells offset n fits e = e ∙ part-lent media offset n fits
