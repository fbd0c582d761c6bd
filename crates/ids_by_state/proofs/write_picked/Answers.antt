-- `ids_by_state::write_picked` meets its contract: it refuses before it writes, and writes as many ids as it has counted. Assumes nothing.
use Rattle.std.proofs.Common.{rules}
use Rattle.ids_by_state.proofs.Asked.{one_length, write-refused, write-short, write-room, write-is}
use Rattle.ids_by_state.proofs.write_picked.Goals as goal

pub returns-in_err-refusal : goal.returns-in_err-refusal
returns-in_err-refusal g c =
    let l = c.args.ledger.now in
    let t = write-refused g.T.Pick.picks l.ids.now l.states.now l.torn.now c.args.column.now _ c.in_err-refusal.ensures in search rules

pub count-n-requires : goal.count-n-requires
count-n-requires g c = let l = c.args.ledger.now in one_length l.ids.now l.states.now l.torn.now c.in_ok-refusal.ensures

pub returns-then-column-n : goal.returns-then-column-n
returns-then-column-n g c =
    let l = c.args.ledger.now in
    write-short g.T.Pick.picks l.ids.now l.states.now l.torn.now c.args.column.now c.in_ok-refusal.ensures _ c.count-n.ensures c.if-column-n.true

pub fill-requires : goal.fill-requires
fill-requires g c =
    let l = c.args.ledger.now in (
      one_length l.ids.now l.states.now l.torn.now c.in_ok-refusal.ensures,
      write-room g.T.Pick.picks l.ids.now l.states.now l.torn.now c.args.column.now c.in_ok-refusal.ensures _ c.count-n.ensures c.if-column-n.false,
    )

pub returns : goal.returns
returns g c =
    let l = c.args.ledger.now in
    write-is g.T.Pick.picks l.ids.now l.states.now l.torn.now c.args.column.now c.in_ok-refusal.ensures _ c.count-n.ensures c.if-column-n.false _ c.fill.ensures
