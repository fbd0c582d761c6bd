-- `held::Recorded::short` meets its contract. Assumes nothing.
use Rattle.held.specs.Scans.{short_in}
use Rattle.held.proofs.Recorded.short.Goals as goal

pub returns : goal.returns
unfolding short_in
returns c = c.counts_short.ensures
