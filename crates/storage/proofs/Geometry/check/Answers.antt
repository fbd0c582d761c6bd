-- `storage::Geometry::check` meets its contract: each way out is one row of the definition's tests. Assumes nothing.
use mathlib.Core.Path.{sym}
use Rattle.storage.proofs.Checks.{refused-zero, refused-power, refused-nesting, accepted}
use Rattle.storage.proofs.Geometry.check.Goals as goal

pub returns-then-capacity-erase : goal.returns-then-capacity-erase
returns-then-capacity-erase c = sym (refused-zero c.args.self c.if-capacity-erase.true)

pub returns-then-erase_ones-program_ones : goal.returns-then-erase_ones-program_ones
returns-then-erase_ones-program_ones c = sym (refused-power c.args.self c.if-capacity-erase.false c.if-erase_ones-program_ones.true)

pub returns-then-whole_blocks-erase : goal.returns-then-whole_blocks-erase
returns-then-whole_blocks-erase c =
    sym (refused-nesting c.args.self c.if-capacity-erase.false c.if-erase_ones-program_ones.false
    (rw c.is_multiple-whole_blocks.ensures at c.if-whole_blocks-erase.true))

pub returns : goal.returns
returns c =
    sym (accepted c.args.self c.if-capacity-erase.false c.if-erase_ones-program_ones.false
    (rw c.is_multiple-whole_blocks.ensures at c.if-whole_blocks-erase.false))
