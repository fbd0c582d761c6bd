-- `first_entries::torn` meets its contract: as `state`, and a mark beside the state attempted counts for nothing. Assumes nothing.
use Rattle.std.proofs.Common.{rules}
use Rattle.first_entries.proofs.Asked.{asked, torn-refused}
use Rattle.first_entries.proofs.torn.Goals as goal

pub returns-in_err-refusal : goal.returns-in_err-refusal
returns-in_err-refusal c =
    let l = c.args.ledger.now in
    let t = torn-refused l.ids.now l.states.now l.torn.now c.args.id _ c.in_err-refusal.ensures in search rules

pub returns-in_default : goal.returns-in_default
returns-in_default c = search (rules, asked)

pub bounds-ledger-at : goal.bounds-ledger-at
bounds-ledger-at c = search (rules, asked)

pub bounds-ledger-at-2 : goal.bounds-ledger-at-2
bounds-ledger-at-2 c = search (rules, asked)

pub returns : goal.returns
returns c = search (rules, asked)
