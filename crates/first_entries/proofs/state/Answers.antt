-- `first_entries::state` meets its contract: an id's first entry stands where the id first stands in the first column. Assumes nothing.
use Rattle.std.proofs.Common.{rules}
use Rattle.first_entries.proofs.Asked.{asked, state-refused}
use Rattle.first_entries.proofs.state.Goals as goal

pub returns-in_err-refusal : goal.returns-in_err-refusal
returns-in_err-refusal c =
    let l = c.args.ledger.now in
    let t = state-refused l.ids.now l.states.now l.torn.now c.args.id _ c.in_err-refusal.ensures in search rules

pub returns-in-None : goal.returns-in-None
returns-in-None c = search (rules, asked)

pub bounds-ledger-at : goal.bounds-ledger-at
bounds-ledger-at c = search (rules, asked)

pub returns-in-Some : goal.returns-in-Some
returns-in-Some c = search (rules, asked)
