-- `hex_pairs::is_letter` meets its contract: its two tests are those of the definition. Assumes nothing.
use Rattle.std.proofs.Common.{arith}
use Rattle.std.proofs.lemmas.Grind.{common_steps}
use Rattle.text.specs.Pairs.{is_letter}
use Rattle.hex_pairs.proofs.is_letter.Goals as goal

pub returns-in-97-to-102 : goal.returns-in-97-to-102
unfolding is_letter
returns-in-97-to-102 c = grind (arith, common_steps)

pub returns-in_default : goal.returns-in_default
unfolding is_letter
returns-in_default c = grind (arith, common_steps)

pub returns-in_default-2 : goal.returns-in_default-2
unfolding is_letter
returns-in_default-2 c = grind (arith, common_steps)
