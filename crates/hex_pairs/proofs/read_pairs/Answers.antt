-- `hex_pairs::read_pairs` meets its contract: the field is the run of digits up to the LF, or it is no pairs. Assumes nothing.
use Rattle.hex_pairs.proofs.Runs.{hexs, pairs-other}
use borrow.Author.Rules.{rules}
use Rattle.hex_pairs.proofs.read_pairs.Goals as goal

pub returns-then-text-from : goal.returns-then-text-from
returns-then-text-from c = search (rules, hexs)

pub returns-in_err-get : goal.returns-in_err-get
returns-in_err-get c = search (rules, hexs)

pub returns-then-branch-ne-LF : goal.returns-then-branch-ne-LF
returns-then-branch-ne-LF c = let a = c.args in pairs-other a.text.now a.from _ c.hex_end-stop.ensures (search rules) (search rules)

pub returns-then-size-ne0 : goal.returns-then-size-ne0
returns-then-size-ne0 c = search (rules, hexs)

pub returns : goal.returns
returns c = search (rules, hexs)
