-- `device::apply_erase` meets its contract: what the fill left of the part and told of it, said of the media. Assumes nothing.
use mathlib.Core.Path.{◌≡◌, ap, ◌∙◌}
use Prim.Native.Nat.{◌+◌, ◌-◌, ◌≤◌}
use lib.ListN.{length, take, drop, replicate, length-replicate}
use borrow.Author.Tests.{lt-leb, le-leb}
use Rattle.basics.specs.Parts.{on_part}
use Rattle.basics.proofs.Parts.{part-lent, length_part}
use Rattle.device.specs.Media.{ff, erased}
use Rattle.device.proofs.Pairs.{any_same}
use Rattle.device.proofs.Applied.{applied-part}
use Rattle.device.proofs.apply_erase.Goals as goal

pub returns-then-erase_end-media : goal.returns-then-erase_end-media
unfolding erased on_part
returns-then-erase_end-media c = simp (lt-leb _ _ c.if-erase_end-media.true, any_same)

pub returns : goal.returns
unfolding erased on_part
returns c =
    let media = c.args.media.now in
    let offset = c.args.offset in
    let len = c.args.len in
    let fits : offset + len ≤ length media = c.if-erase_end-media.false in
    let n : length (take (offset + len - offset) (drop offset media)) ≡ len = ap length (part-lent media offset len fits) ∙ length_part media offset len fits in
    rw (le-leb _ _ fits) (applied-part media offset len fits c.erase_cells.new.cells (replicate len ff) c.erase_cells.result (length-replicate len ff)
    (rw n at c.erase_cells.ensures))
