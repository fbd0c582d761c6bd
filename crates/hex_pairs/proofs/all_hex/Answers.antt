-- `hex_pairs::all_hex` meets its contract. The loop has the flag of the bytes passed. Assumes nothing.
use Rattle.hex_pairs.proofs.Runs.{hexs}
use borrow.Author.Rules.{rules}
use Rattle.hex_pairs.proofs.all_hex.Goals as goal

pub loop-byte-init : goal.loop-byte-init
loop-byte-init c = search (rules, hexs)

pub loop-byte-preserved : goal.loop-byte-preserved
loop-byte-preserved c = search (rules, hexs)
