-- `model::LedgerRef::len` meets its contract: columns that hold a ledger have a row for each id. Assumes nothing.
use Rattle.std.proofs.Common.{rules}
use Rattle.model.proofs.Rows.{len-refused, len_is}
use Rattle.model.proofs.LedgerRef.len.Goals as goal

pub returns-in_err-refusal : goal.returns-in_err-refusal
returns-in_err-refusal c =
    let l = c.args.self.now in
    let t = len-refused l.ids.now l.states.now l.torn.now _ c.in_err-refusal.ensures in search rules

pub returns : goal.returns
returns c =
    let l = c.args.self.now in
    len_is l.ids.now l.states.now l.torn.now c.in_ok-refusal.ensures
