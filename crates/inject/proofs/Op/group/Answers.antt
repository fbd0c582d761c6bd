-- `inject::Op::group` meets its contract: each arm's numbers stand for the interruption's none, byte and whole points. Assumes nothing.
use mathlib.Core.Path.{refl}
use Rattle.inject.proofs.Groups.{made-lost, made-reset, made-failed}
use Rattle.inject.proofs.Op.group.Goals.{in-PowerLoss, in-Watchdog, in-Failure}
use Rattle.inject.proofs.Op.group.Goals as goal

pub returns : goal.returns
returns c = elim c.match-cause.branch [
  | in-PowerLoss w ↦ made-lost _ _ _ c.match-cause.nones _ _ c.len.ensures refl refl c.inner_count.ensures.0 c.wholes.ensures.0 _ w.in-PowerLoss.is w.tear_unit.ensures w.nones-is
  | in-Watchdog w ↦ made-reset _ _ _ c.match-cause.nones _ _ c.len.ensures refl refl c.inner_count.ensures.0 c.wholes.ensures.0 _ w.in-Watchdog.is w.reset_unit.ensures w.nones-is
  | in-Failure w ↦ made-failed _ _ _ c.match-cause.nones _ _ c.len.ensures refl refl c.inner_count.ensures.0 c.wholes.ensures.0 _ w.in-Failure.is w.tear_unit-in-Failure.ensures w.nones-is
]
