-- `session_numbers::counters_of` meets its contract: each field is that of its number. Assumes nothing.
use Rattle.session_numbers.specs.Numbers.{counters_of}
use Rattle.session_numbers.proofs.counters_of.Goals as goal

pub returns : goal.returns
unfolding counters_of
returns c = cc
