-- `oracle::first_difference` meets its contract: up to `position` the history is the committed ids that have come. Assumes nothing.
use Rattle.std.proofs.Common.{rules}
use Rattle.model.specs.Scans.{ids_from}
use Rattle.oracle.proofs.Committed.{committed-next}
use Rattle.oracle.proofs.Pass.{differ-start, differ-end, differ-here, differ-on}
use Rattle.oracle.proofs.first_difference.Goals as goal

pub loop-position-init : goal.loop-position-init
loop-position-init c = let s = differ-start (ids_from 1 c.args.ledger.now.ids.now c.args.ledger.now.states.now) c.args.history.now in search (rules, s)

pub returns-then-ne : goal.returns-then-ne
returns-then-ne c =
    let n = committed-next _ _ (λ x b q k. search rules) _ (λ w x y q k. search rules) c.loop-position.committed c.next-expected.new.self c.next-expected.result (search rules) c.next-expected.ensures.steps in
    differ-here _ _ _ _ c.loop-position.invariant c.loop-position-test.true _ c.next-expected.result n c.ne.result c.ne.ensures c.if-ne.true

pub loop-position-preserved : goal.loop-position-preserved
loop-position-preserved c =
    let n = committed-next _ _ (λ x b q k. search rules) _ (λ w x y q k. search rules) c.loop-position.committed c.next-expected.new.self c.next-expected.result (search rules) c.next-expected.ensures.steps in
    differ-on _ _ _ _ c.loop-position.invariant c.loop-position-test.true _ c.next-expected.result n c.ne.result c.ne.ensures c.if-ne.false

pub returns : goal.returns
returns c = differ-end _ _ _ _ c.loop-position.invariant c.loop-position-test.false
