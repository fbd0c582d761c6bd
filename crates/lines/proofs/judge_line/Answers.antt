-- `lines::judge_line` meets its contract. Assumes nothing.
use Rattle.lines.proofs.Ways.{judge-short, judge-done}
use Rattle.lines.proofs.judge_line.Goals as goal

pub returns-then-not-ids_fit-clause-put : goal.returns-then-not-ids_fit-clause-put
returns-then-not-ids_fit-clause-put c =
    let a = c.args in
    judge-short a.place a.verdict a.history.now a.to.now.at a.to.now.out.now _ _ c.places.ensures c.places-2.ensures _
    c.ids_fit.ensures c.if-not-ids_fit.true

pub returns-clause-put : goal.returns-clause-put
returns-clause-put c =
    let a = c.args in
    judge-done a.place a.verdict a.history.now a.to.now.at a.to.now.out.now _ _ c.places.ensures c.places-2.ensures _
    c.ids_fit.ensures c.if-not-ids_fit.false _ _ _ _ _ c.put_number.ensures.put c.put_field.ensures.put c.put_ids.ensures.put c.put_byte.ensures.put
