-- `printing::hand_over` meets its contract: each write goes on where the one before ended. Assumes nothing.
use Rattle.std.proofs.Common.{rules}
use Rattle.std.proofs.KnownBytes.{Appends-nil}
use Rattle.printing.proofs.Sent.{sent_more}
use Rattle.printing.proofs.hand_over.Goals as goal

pub loop-done-init : goal.loop-done-init
loop-done-init g c = (search rules, Appends-nil _)

pub loop-done-preserved : goal.loop-done-preserved
loop-done-preserved g c = (search rules, sent_more _ _ _ _ _ _ c.loop-done.invariant.1 c.in-Ok.ensures.bytes)
