-- `session_numbers::told_of` meets its contract: each field is that of its number. Assumes nothing.
use Rattle.session_numbers.specs.Numbers.{told_of}
use Rattle.session_numbers.proofs.told_of.Goals as goal

pub returns : goal.returns
unfolding told_of
returns c = cc
