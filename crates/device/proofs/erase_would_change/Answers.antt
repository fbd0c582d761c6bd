-- `device::erase_would_change` meets its contract: erasing the part would change a cell exactly if not all of it is erased. Assumes nothing.
use mathlib.Core.Path.{◌≡◌, ap, ap₂, ◌∙◌}
use mathlib.Core.Bool.{not, not-not}
use mathlib.Core.List.{List}
use Prim.Native.Nat.{ℕ, ◌+◌, ◌≤◌}
use lib.ListN.{length, replicate}
use borrow.Author.Tests.{lt-leb, le-leb}
use Rattle.basics.specs.Parts.{part}
use Rattle.basics.proofs.Parts.{length_part}
use Rattle.device.specs.Media.{ff, any_pair, unequal, erase_would_change}
use Rattle.device.proofs.Lent.{got-outside, got-part}
use Rattle.device.proofs.erase_would_change.Goals as goal

pub returns-in_default : goal.returns-in_default
unfolding erase_would_change
returns-in_default c = simp (lt-leb _ _ (got-outside c.args.media.now c.args.offset c.args.len c.in_default.ensures.lookup.0))

pub returns : goal.returns
unfolding erase_would_change
returns c =
    let media = c.args.media.now in
    let offset = c.args.offset in
    let len = c.args.len in
    let cells = c.in-Some.cells.now in
    let got = c.in-Some.ensures.lookup.0 in
    let fits : offset + len ≤ length media = got.1 in
    let p : cells ≡ part media offset len = got-part media cells offset len fits got.2 in
    let n : length cells ≡ len = ap length p ∙ length_part media offset len fits in
    rw (le-leb _ _ fits) (ap not c.slice_is_erased.ensures ∙ not-not _ ∙ ap₂ (λ (l : List ℕ) (k : ℕ). any_pair unequal l (replicate k ff)) p n)
