-- `sweep_lines::entries_fit` meets its contract: the fields of the rows not yet read are to fit into what is left. Assumes nothing.
use mathlib.Core.Logic.{inl, inr, ⊎_elim}
use mathlib.Core.List.{flatten}
use borrow.Author.Rules.{rules}
use lib.ListN.{length}
use Rattle.model.specs.Columns.{ledger_of}
use Rattle.pieces.proofs.Rooms.{fit-start, fit-more, fit-out, fit-end}
use Rattle.sweep_lines.specs.Fields.{ledger_pieces}
use Rattle.sweep_lines.proofs.Entries.{rows-size, rows-size-end}
use Rattle.sweep_lines.proofs.entries_fit.Goals as goal

pub loop-id-init : goal.loop-id-init
loop-id-init c =
    let a = c.args in
    let l = a.ledger.now in
    let t = fit-start a.size a.at a.room _ c.fits.ensures (length (flatten (ledger_pieces (ledger_of l.ids.now l.states.now l.torn.now)))) c.if-not-fits.false in search rules

pub returns-then-left-more : goal.returns-then-left-more
returns-then-left-more c =
    let s = c.in-Some.ensures.steps in
    fit-out _ _ _ c.loop-id.invariant.2 _ _ (rows-size _ _ _ _ _ _ _ _ _ s.0.0 s.0.1 s.1 _ c.entry_size-more.ensures) c.if-left-more.true

pub loop-id-preserved : goal.loop-id-preserved
loop-id-preserved c =
    let s = c.in-Some.ensures.steps in (
      c.loop-id.invariant.0,
      tt,
      fit-more _ _ _ c.loop-id.invariant.2 _ _ (rows-size _ _ _ _ _ _ _ _ _ s.0.0 s.0.1 s.1 _ c.entry_size-more.ensures) c.if-left-more.false,
    )

pub returns : goal.returns
returns c =
    fit-end _ _ _ c.loop-id.invariant.2 (rows-size-end _ _ _ (⊎_elim (λ w. inl (⊎_elim (λ v. inl v.1.0) (λ v. inr v.1.0) w.1)) (λ w. inr w.1.0) c.in-None.ensures.steps))
