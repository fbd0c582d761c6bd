-- `session_numbers::keep` meets its contract: each of the six calls stores one of the counters. Assumes nothing.
use mathlib.Core.Path.{refl}
use Rattle.session.proofs.Answers.{byte-flag}
use Rattle.session_numbers.specs.Numbers.{counters_in}
use Rattle.session_numbers.proofs.keep.Goals as goal

pub returns : goal.returns
unfolding counters_in
returns c = let f = byte-flag c.args.counters.fired _ refl in cc
