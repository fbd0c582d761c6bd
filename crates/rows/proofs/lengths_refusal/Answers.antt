-- `rows::lengths_refusal` meets its contract: the first test that refuses. Assumes nothing.
use borrow.Author.Rules.{rules}
use Rattle.storage.specs.Nonzero.{error-nonzero}
use Rattle.refusals.specs.Nonzero.{refusal-nonzero}
use Rattle.rows.proofs.Lengths.{length-units, length-sizes, length-uneven, length-even}
use Rattle.rows.proofs.lengths_refusal.Goals as goal

pub returns-in_err-check : goal.returns-in_err-check
returns-in_err-check c = let t = length-units c.args.geometry c.args.media c.args.copy c.args.uneven _ (error-nonzero _) c.in_err-check.ensures in search rules

pub returns-in_err-size_refusal : goal.returns-in_err-size_refusal
returns-in_err-size_refusal c = let t = length-sizes c.args.geometry c.args.media c.args.copy c.args.uneven c.in_ok-check.ensures _ (refusal-nonzero _) c.in_err-size_refusal.ensures in search rules

pub returns-then-uneven : goal.returns-then-uneven
returns-then-uneven c = length-uneven _ _ _ _ c.in_ok-check.ensures c.in_ok-size_refusal.ensures c.if-uneven.true

pub returns : goal.returns
returns c = length-even _ _ _ _ c.in_ok-check.ensures c.in_ok-size_refusal.ensures c.if-uneven.false
