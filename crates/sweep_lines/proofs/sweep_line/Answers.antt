-- `sweep_lines::sweep_line` meets its contract. Assumes nothing.
use borrow.Author.Rules.{rules}
use Rattle.refusals.specs.Nonzero.{refusal-nonzero}
use Rattle.sweep_lines.proofs.Ways.{sweep-not, sweep-short, sweep-done, zero_is}
use Rattle.sweep_lines.proofs.sweep_line.Goals as goal

pub returns-in_err-refusal-clause-put : goal.returns-in_err-refusal-clause-put
returns-in_err-refusal-clause-put c =
    let a = c.args in
    let l = a.ledger.now in
    let t = sweep-not a.place a.armed a.stop a.operations l.ids.now l.states.now l.torn.now a.to.now.at a.to.now.out.now _
    c.in_err-refusal.ensures (refusal-nonzero _) in search rules

pub returns-then-not-entries_fit-clause-put : goal.returns-then-not-entries_fit-clause-put
returns-then-not-entries_fit-clause-put c =
    let a = c.args in
    let l = a.ledger.now in
    sweep-short a.place a.armed a.stop a.operations l.ids.now l.states.now l.torn.now a.to.now.at a.to.now.out.now 0
    c.in_ok-refusal.ensures zero_is _ c.head_size-size.ensures _ c.entries_fit.ensures c.if-not-entries_fit.true

pub returns-clause-put : goal.returns-clause-put
returns-clause-put c =
    let a = c.args in
    let l = a.ledger.now in
    sweep-done a.place a.armed a.stop a.operations l.ids.now l.states.now l.torn.now a.to.now.at a.to.now.out.now 0
    c.in_ok-refusal.ensures zero_is _ c.head_size-size.ensures _ c.entries_fit.ensures c.if-not-entries_fit.false
    _ _ _ _ c.put_head.ensures.put c.put_entries.ensures.put c.put_byte.ensures.put
