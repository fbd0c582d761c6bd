-- `harness::range_behind` meets its contract: the rows not yet looked at tell what all tell. Assumes nothing.
use Rattle.std.proofs.Common.{rules}
use Rattle.script.specs.Lent.{columns_seen}
use Rattle.harness.proofs.Behind.{behind-first, few-first, behind-found, behind-next, behind-none, row-counted}
use Rattle.harness.proofs.range_behind.Goals as goal

pub loop-kind-init : goal.loop-kind-init
loop-kind-init c =
    let t = behind-first c.args.rows (columns_seen c.args.calls.now) c.requires in
    let u = few-first c.args.rows c.args.calls.now.kinds.now in
    (search rules, search rules)

pub returns-then-is_behind : goal.returns-then-is_behind
returns-then-is_behind c =
    behind-found _ c.loop-kind.operations c.loop-kind.kind-iterator c.next.new.self c.loop-kind.invariant.0 c.in-Some.kind c.in-Some.from c.in-Some.to c.in-Some.ensures.steps _ c.is_behind.ensures c.if-is_behind.true

pub loop-kind-preserved : goal.loop-kind-preserved
loop-kind-preserved c =
    let l = c.loop-kind in (
      behind-next _ l.operations l.kind-iterator c.next.new.self l.invariant.0 c.in-Some.kind c.in-Some.from c.in-Some.to c.in-Some.ensures.steps _ c.is_behind.ensures c.if-is_behind.false _ c.from-operations.ensures,
      row-counted _ l.operations l.kind-iterator c.next.new.self l.invariant.0 c.in-Some.kind c.in-Some.from c.in-Some.to c.in-Some.ensures.steps _ c.is_behind.ensures c.args.rows _ c.from-operations.ensures l.invariant.1,
    )

pub returns : goal.returns
returns c = behind-none _ c.loop-kind.operations c.loop-kind.kind-iterator c.next.new.self c.loop-kind.invariant.0 c.in-None.ensures.steps
