-- `oracle::first_lost` meets its contract: no acknowledged id of the rows passed is lost. Assumes nothing.
use Rattle.std.proofs.Common.{length, rules}
use Rattle.std.proofs.lemmas.List.{length_push}
use Rattle.std.proofs.lemmas.Slice.Zip.{zip_turn, zip_end}
use Rattle.oracle.proofs.Pass.{lost-start, lost-skip, lost-next, lost-here, lost-end}
use Rattle.oracle.proofs.first_lost.Goals as goal
use Rattle.oracle.proofs.first_lost.Goals.{else-state-via-then-state+else-not-contains, else-state-via-else-state}

pub loop-id-init : goal.loop-id-init
loop-id-init c = search lost-start

pub returns-then-not-contains : goal.returns-then-not-contains
returns-then-not-contains c =
    let t = zip_turn c.args.ledger.now.ids.now c.args.ledger.now.states.now c.loop-id.yielded _ _ c.next.new.self _ (search rules) (search rules) c.loop-id.yielded_by _ c.in-Some.is c.next.ensures.steps in
    lost-here c.args.ledger.now.ids.now c.args.ledger.now.states.now c.args.history.now (length c.loop-id.yielded) c.loop-id.invariant c.in-Some.id.now c.in-Some.state.now t c.if-state.true c.contains.result c.contains.ensures c.if-not-contains.true

pub loop-id-preserved : goal.loop-id-preserved
loop-id-preserved c =
    let t = zip_turn c.args.ledger.now.ids.now c.args.ledger.now.states.now c.loop-id.yielded _ _ c.next.new.self _ (search rules) (search rules) c.loop-id.yielded_by _ c.in-Some.is c.next.ensures.steps in
    rw (length_push c.loop-id.yielded (c.in-Some.id, c.in-Some.state))
    (elim c.else-state.branch [
      | else-state-via-then-state+else-not-contains w ↦ lost-next c.args.ledger.now.ids.now c.args.ledger.now.states.now c.args.history.now (length c.loop-id.yielded) c.loop-id.invariant c.in-Some.id.now c.in-Some.state.now t w.if-state.true w.contains.result w.contains.ensures w.if-not-contains.false
      | else-state-via-else-state w ↦ lost-skip c.args.ledger.now.ids.now c.args.ledger.now.states.now c.args.history.now (length c.loop-id.yielded) c.loop-id.invariant c.in-Some.id.now c.in-Some.state.now t w.if-state.false
    ])

pub returns : goal.returns
returns c =
    let t = zip_end c.args.ledger.now.ids.now c.args.ledger.now.states.now c.loop-id.yielded _ _ c.next.new.self _ (search rules) (search rules) c.loop-id.yielded_by c.in-None.is c.next.ensures.steps in
    lost-end c.args.ledger.now.ids.now c.args.ledger.now.states.now c.args.history.now (length c.loop-id.yielded) c.loop-id.invariant t
