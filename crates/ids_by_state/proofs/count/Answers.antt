-- `ids_by_state::count` meets its contract: what is counted and what is still to be counted make up the whole. Assumes nothing.
use mathlib.Core.Path.{◌≡◌, ap}
use native.Mathlib.Omega.{arith}
use lib.ListN.{length}
use Rattle.ids_by_state.proofs.Rows.{ids_left, row-counted, rows-end}
use Rattle.ids_by_state.proofs.count.Goals as goal

pub loop-i-preserved : goal.loop-i-preserved
loop-i-preserved g c =
    let l = c.args.ledger.now in
    let e = row-counted g.T.Pick.picks l.ids.now l.states.now l.torn.now c.loop-i.i c.requires.0 c.requires.1 c.loop-i-test.true c.picks.result c.picks.ensures c.from-n.result c.from-n.ensures in
    (omega (arith, e.0), omega (arith, e.1))

pub returns : goal.returns
returns g c =
    let l = c.args.ledger.now in
    let e : length (ids_left g.T.Pick.picks l.ids.now l.states.now l.torn.now c.loop-i.i) ≡ 0 = ap length (rows-end g.T.Pick.picks l.ids.now l.states.now l.torn.now c.loop-i.i c.requires.0 c.requires.1 c.loop-i-test.false) in
    omega arith
