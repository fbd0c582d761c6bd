-- `inject::inner_count` meets its contract: the inner multiples are the first `(len - 1) / unit`. Assumes nothing.
use native.Mathlib.Omega.{arith}
use Rattle.std.proofs.Common.{rules}
use Rattle.inject.specs.Steps.{steps}
use Rattle.inject.proofs.Spans.{steps-inner, no_inner, steps-fit}
use Rattle.inject.proofs.inner_count.Goals as goal

pub returns-then-len-unit : goal.returns-then-len-unit
unfolding steps
returns-then-len-unit c = (no_inner _ _ c.if-len-unit.true, omega arith)

pub returns : goal.returns
returns c = (
  steps-inner _ _ (search rules) (search rules),
  steps-fit c.args.unit c.args.len (search rules),
)
