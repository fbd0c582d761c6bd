-- `ids_by_state::fill` meets its contract: n ids are written over the column's front, and the rows from i on have the others.
-- Assumes nothing.
use mathlib.Core.Path.{◌≡◌, ◌∙◌}
use mathlib.Core.Bool.{Bool, true}
use native.Mathlib.Omega.{arith}
use Prim.Native.Nat.{◌+◌}
use lib.ListN.{get_or, length-set}
use Rattle.model.specs.Columns.{entry_of, ledger_of}
use Rattle.ids_by_state.specs.Answers.{picked_ids}
use Rattle.ids_by_state.proofs.Rows.{ids_left, row-picked, row-left, rows-end}
use Rattle.ids_by_state.proofs.Fills.{Turn, fill-turn, fill_end}
use Rattle.ids_by_state.proofs.fill.Given.{Over}
use Rattle.ids_by_state.proofs.fill.Goals as goal
use Rattle.ids_by_state.proofs.fill.Goals.{In-loop-i, then-picks, else-picks}

-- a turn in which an id is written, where b is what the test says of its row
turn : (g : Over) (c : In-loop-i g) (b : Bool) → b ≡ g.T.Pick.picks (entry_of (get_or c.args.ledger.now.ids.now c.loop-i.i 0) (get_or c.args.ledger.now.states.now c.loop-i.i 0) (get_or c.args.ledger.now.torn.now c.loop-i.i 0)) → b ≡ true
    → Turn (picked_ids g.T.Pick.picks (ledger_of c.args.ledger.now.ids.now c.args.ledger.now.states.now c.args.ledger.now.torn.now)) c.args.column.now c.loop-i.column c.loop-i.n (get_or c.args.ledger.now.ids.now c.loop-i.i 0)
    (ids_left g.T.Pick.picks c.args.ledger.now.ids.now c.args.ledger.now.states.now c.args.ledger.now.torn.now (c.loop-i.i + 1))
turn g c b told taken =
    let l = c.args.ledger.now in
    fill-turn _ c.args.column.now c.loop-i.column c.loop-i.n c.requires.1 c.loop-i.invariant.2 _ _
    (c.loop-i.invariant.3
    ∙ row-picked g.T.Pick.picks l.ids.now l.states.now l.torn.now c.loop-i.i c.requires.0.0 c.requires.0.1 c.loop-i-test.true b told taken)

pub bounds-column-n : goal.bounds-column-n
bounds-column-n g c = omega (arith, (turn g (goal.at.bounds-column-n g c).In-loop-i c.picks.result c.picks.ensures c.if-picks.true).below)

pub loop-i-preserved : goal.loop-i-preserved
loop-i-preserved g c =
    let l = c.args.ledger.now in
    elim c.if-picks.branch [
      | then-picks w ↦
          let u = turn g (goal.at.loop-i-preserved g c).In-loop-i c.picks.result c.picks.ensures w.if-picks.true in
          rw (w.column-is, w.n-is) (omega (arith, u.below), simp length-set c.loop-i.invariant.1, u.stored, u.after)
      | else-picks w ↦
          let e = row-left g.T.Pick.picks l.ids.now l.states.now l.torn.now c.loop-i.i c.requires.0.0 c.requires.0.1 c.loop-i-test.true c.picks.result c.picks.ensures w.if-picks.false in
          rw (w.column-is, w.n-is) (c.loop-i.invariant.0, c.loop-i.invariant.1, c.loop-i.invariant.2, c.loop-i.invariant.3 ∙ e)
    ]

pub returns : goal.returns
returns g c =
    let l = c.args.ledger.now in
    fill_end _ c.args.column.now c.loop-i.column c.loop-i.n c.requires.1 c.loop-i.invariant.2
    (c.loop-i.invariant.3 ∙ rows-end g.T.Pick.picks l.ids.now l.states.now l.torn.now c.loop-i.i c.requires.0.0 c.requires.0.1 c.loop-i-test.false) c.loop-i.invariant.0
