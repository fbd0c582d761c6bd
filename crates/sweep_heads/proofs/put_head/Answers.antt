-- `sweep_heads::put_head` meets its contract. Assumes nothing.
use Rattle.sweep_heads.proofs.Heads.{head-put}
use Rattle.sweep_heads.proofs.put_head.Goals as goal

pub returns-clause-put : goal.returns-clause-put
returns-clause-put c =
    let a = c.args in
    head-put a.place a.armed a.stop a.operations _ c.stop_letter.ensures _ _ _ _ _ c.put_number.ensures.put
    c.put_point.ensures.put c.put_letter.ensures.put c.put_field.ensures.put
