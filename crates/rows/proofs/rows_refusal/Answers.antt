-- `rows::rows_refusal` meets its contract: refused by a length, or what the rows hold tells. Assumes nothing.
use borrow.Author.Rules.{rules}
use Rattle.refusals.specs.Nonzero.{refusal-nonzero}
use Rattle.script.specs.Lent.{columns_seen}
use Rattle.rows.proofs.Numbers.{lengths-refuse, lengths-pass, contents-tell}
use Rattle.rows.proofs.rows_refusal.Goals as goal

pub returns-in_err-lengths_refusal : goal.returns-in_err-lengths_refusal
returns-in_err-lengths_refusal c =
    let a = c.args in
    let t = lengths-refuse a.geometry a.media a.copy a.asked.uneven a.asked.short a.asked.most a.rows (columns_seen a.calls.now) _ c.uneven-listed.ensures _ (refusal-nonzero _) c.in_err-lengths_refusal.ensures in
    search rules

pub contents_refusal-requires : goal.contents_refusal-requires
contents_refusal-requires c =
    let a = c.args in
    let e = (lengths-pass a.geometry a.media a.copy a.asked.uneven a.asked.short a.asked.most a.rows (columns_seen a.calls.now) _ c.uneven-listed.ensures c.in_ok-lengths_refusal.ensures).columns-even in
    (e.1, e.3)

pub returns : goal.returns
returns c =
    let a = c.args in
    contents-tell a.geometry a.media a.copy a.asked.uneven a.asked.short a.asked.most a.rows (columns_seen a.calls.now) _ c.uneven-listed.ensures c.in_ok-lengths_refusal.ensures _ c.contents_refusal.ensures
