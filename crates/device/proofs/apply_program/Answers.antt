-- `device::apply_program` meets its contract: what the AND loop left of the part and told of it, said of the media. Assumes nothing.
use borrow.Author.Tests.{lt-leb, le-leb}
use mathlib.Core.Path.{◌≡◌, ◌∙◌}
use Prim.Native.Nat.{◌+◌, ◌≤◌}
use lib.ListN.{length}
use Rattle.basics.specs.Parts.{part, on_part}
use Rattle.basics.proofs.Parts.{part-lent, length_part}
use Rattle.device.specs.Media.{anded, programmed}
use Rattle.device.proofs.Pairs.{any_same}
use Rattle.device.proofs.Cells.{length-anded}
use Rattle.device.proofs.Applied.{applied-part}
use Rattle.device.proofs.apply_program.Goals as goal

pub returns-then-program_end-media : goal.returns-then-program_end-media
unfolding programmed on_part
returns-then-program_end-media c = simp (lt-leb _ _ c.if-program_end-media.true, any_same)

pub returns : goal.returns
unfolding programmed on_part
returns c =
    let media = c.args.media.now in
    let src = c.args.src.now in
    let offset = c.args.offset in
    let fits : offset + length src ≤ length media = c.if-program_end-media.false in
    let new = anded (part media offset (length src)) src in
    let l : length new ≡ length src = length-anded (part media offset (length src)) src (length_part media offset (length src) fits) ∙ length_part media offset (length src) fits in
    rw (le-leb _ _ fits) (applied-part media offset (length src) fits c.and_cells.new.cells new c.and_cells.result l
    (rw (← part-lent media offset (length src) fits) c.and_cells.ensures))
