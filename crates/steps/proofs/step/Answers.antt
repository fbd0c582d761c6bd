-- `steps::step` meets its contract: each kind by its function. Assumes nothing.
use native.Mathlib.Omega.{arith}
use Rattle.steps.proofs.One.{one-program, one-erase, one-barrier, one-begin, one_end, one-range, one-refused}
use Rattle.steps.proofs.step.Goals as goal

pub returns-in-0-clause-left : goal.returns-in-0-clause-left
returns-in-0-clause-left c = one-program _ _ _ _ _ _ _ _ _ _ _ c.in-0.is c.args.row.start c.args.pool.now _ _ c.min-from.ensures c.min-to.ensures _ _ _ c.program.ensures.left

pub returns-in-1-clause-left : goal.returns-in-1-clause-left
returns-in-1-clause-left c = one-erase _ _ _ _ _ _ _ _ _ _ _ _ _ c.in-1.is _ _ _ c.erase.ensures.left

pub returns-in-2-clause-left : goal.returns-in-2-clause-left
returns-in-2-clause-left c = one-barrier _ _ _ _ _ _ _ _ _ _ _ _ _ c.in-2.is _ c.barrier.ensures.left

pub returns-in-3-clause-left : goal.returns-in-3-clause-left
returns-in-3-clause-left c = one-begin _ _ _ _ _ _ _ _ _ _ _ _ _ _ c.in-3.is c.begin_record.ensures.left

pub returns-in-4-clause-left : goal.returns-in-4-clause-left
returns-in-4-clause-left c = one_end _ _ _ _ _ _ _ _ _ _ _ _ _ _ c.in-4.is c.end_record.ensures.left

pub returns-in-5-clause-left : goal.returns-in-5-clause-left
returns-in-5-clause-left c = one-range _ _ _ _ _ _ _ _ _ _ _ _ _ _ c.in-5.is c.mark_operations.ensures.left

pub returns-in_default-clause-left : goal.returns-in_default-clause-left
returns-in_default-clause-left c = one-refused _ _ _ _ _ _ _ _ _ _ _ _ (λ e. omega (arith, e)) (λ e. omega (arith, e)) (λ e. omega (arith, e)) (λ e. omega (arith, e)) (λ e. omega (arith, e)) (λ e. omega (arith, e))
