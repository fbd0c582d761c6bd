-- `held::Recorded::malformed` meets its contract: lengths, and the codes that are counted. Assumes nothing.
use mathlib.Core.Path.{refl}
use Rattle.held.specs.Scans.{malformed}
use Rattle.held.proofs.Recorded.malformed.Goals as goal

pub returns : goal.returns
unfolding malformed
returns c = rw (c.uneven.ensures, c.known-kinds_known.ensures, c.known-codes_known.ensures) refl
