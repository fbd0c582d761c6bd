-- `rows::contents_refusal` meets its contract: the first test that refuses. Assumes nothing.
use mathlib.Core.Path.{◌∙◌}
use Rattle.script.specs.Lent.{columns_seen}
use Rattle.rows.proofs.Scanned.{contents-are}
use Rattle.rows.proofs.contents_refusal.Goals as goal

pub returns : goal.returns
returns c =
    let a = c.args in
    c.columns_refusal.ensures
    ∙ contents-are a.asked.most a.rows (columns_seen a.calls.now) a.asked.short _ c.min-n.ensures _ c.all_up_to-known.ensures c.requires.0 c.requires.1 _ c.any_outside-outside.ensures
