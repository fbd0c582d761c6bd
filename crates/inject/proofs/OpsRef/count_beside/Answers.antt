-- `inject::OpsRef::count_beside` meets its contract: what is not refused is sound. Assumes nothing.
use mathlib.Core.Path.{sym}
use Rattle.inject.proofs.Refusals.{passes}
use Rattle.inject.proofs.OpsRef.count_beside.Goals as goal

pub invariant_of-sequence : goal.invariant_of-sequence
invariant_of-sequence c =
    let s = (passes _ _ _ _ _ (sym c.in_ok-refuse.ensures)).sound in
    record { sound = (s.offsets-equal, s.lens-equal, s.few) }
