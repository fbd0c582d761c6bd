-- `sweep_lines::entry_size` meets its contract. Assumes nothing.
use Rattle.sweep_lines.proofs.Entries.{size-torn, size-whole}
use Rattle.sweep_lines.proofs.entry_size.Goals as goal

pub returns-then-is_torn : goal.returns-then-is_torn
returns-then-is_torn c = size-torn c.args.id c.args.state c.args.torn _ c.places-digits.ensures _ c.is_torn.ensures c.if-is_torn.true

pub returns-else-is_torn : goal.returns-else-is_torn
returns-else-is_torn c = size-whole c.args.id c.args.state c.args.torn _ c.places-digits.ensures _ c.is_torn.ensures c.if-is_torn.false
