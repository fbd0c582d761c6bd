-- `model::LedgerRef::refusal` meets its contract: the four tests are one. Assumes nothing.
use mathlib.Core.Path.{refl}
use Rattle.model.specs.Columns.{all_up_to}
use Rattle.model.proofs.Codes.{a-ledger, no-ledger}
use Rattle.model.proofs.LedgerRef.refusal.Goals as goal

pub returns-then-uneven : goal.returns-then-uneven
returns-then-uneven c =
    let l = c.args.self.now in
    no-ledger l.ids.now l.states.now l.torn.now _ (all_up_to 2 l.states.now) (all_up_to 1 l.torn.now) c.uneven.ensures refl refl (simp c.if-uneven.true)

pub returns-then-not-all_up_to : goal.returns-then-not-all_up_to
returns-then-not-all_up_to c =
    let l = c.args.self.now in
    no-ledger l.ids.now l.states.now l.torn.now _ _ (all_up_to 1 l.torn.now) c.uneven.ensures c.all_up_to.ensures refl
    (simp (c.if-uneven.false, c.if-not-all_up_to.true))

pub returns-then-not-all_up_to-2 : goal.returns-then-not-all_up_to-2
returns-then-not-all_up_to-2 c =
    let l = c.args.self.now in
    no-ledger l.ids.now l.states.now l.torn.now _ _ _ c.uneven.ensures c.all_up_to.ensures c.all_up_to-2.ensures
    (simp (c.if-uneven.false, c.if-not-all_up_to.false, c.if-not-all_up_to-2.true))

pub returns : goal.returns
returns c =
    let l = c.args.self.now in
    a-ledger l.ids.now l.states.now l.torn.now _ _ _ c.uneven.ensures c.all_up_to.ensures c.all_up_to-2.ensures
    (simp (c.if-uneven.false, c.if-not-all_up_to.false, c.if-not-all_up_to-2.false))
