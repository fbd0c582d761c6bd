-- `printing::read_full` meets its contract: each read goes behind those before it. Assumes nothing.
use Rattle.std.proofs.Common.{rules}
use Rattle.std.proofs.KnownBytes.{Consumes-nil}
use Rattle.printing.proofs.Taken.{taken_more, taken_kept, kept_of}
use Rattle.printing.proofs.read_full.Goals as goal

pub loop-taken-init : goal.loop-taken-init
loop-taken-init g c = (search rules, Consumes-nil _)

pub loop-taken-preserved : goal.loop-taken-preserved
loop-taken-preserved g c =
    (search rules, taken_more _ _ _ c.loop-taken.taken c.in-Ok.got _ _ c.loop-taken.invariant.0 c.in-Ok.ensures.within c.loop-taken.invariant.1 c.in-Ok.ensures.bytes.0)

pub returns-after-loop-taken-clause-within : goal.returns-after-loop-taken-clause-within
returns-after-loop-taken-clause-within g c = c.loop-taken.invariant.0

pub returns-after-loop-taken-clause-bytes : goal.returns-after-loop-taken-clause-bytes
returns-after-loop-taken-clause-bytes g c = c.loop-taken.invariant.1

pub returns-in-Ok-eq0-clause-bytes : goal.returns-in-Ok-eq0-clause-bytes
returns-in-Ok-eq0-clause-bytes g c =
    taken_kept _ _ _ c.loop-taken.taken _ _ c.loop-taken.invariant.0 c.loop-taken.invariant.1
    (kept_of _ _ _ _ c.in-Ok-eq0.field-0-test c.in-Ok-eq0.ensures.bytes.0)

pub returns-in-Err-clause-bytes : goal.returns-in-Err-clause-bytes
returns-in-Err-clause-bytes g c = taken_kept _ _ _ c.loop-taken.taken _ _ c.loop-taken.invariant.0 c.loop-taken.invariant.1 c.in-Err.ensures.bytes
