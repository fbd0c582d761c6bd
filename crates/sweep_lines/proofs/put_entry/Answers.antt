-- `sweep_lines::put_entry` meets its contract, for an entry that is torn and for one that is not. Assumes nothing.
use mathlib.Core.Path.{ap, ◌∙◌}
use Rattle.lines.specs.Lines.{state_letter}
use Rattle.sweep_lines.proofs.Entries.{entry-torn, entry_whole}
use Rattle.sweep_lines.proofs.put_entry.Goals as goal

pub returns-then-is_torn-clause-put : goal.returns-then-is_torn-clause-put
returns-then-is_torn-clause-put c =
    let a = c.args in
    entry-torn a.id a.state a.torn _ (c.state_letter.ensures ∙ ap state_letter c.from.ensures) _ c.is_torn.ensures _ _ _
    c.put_field.ensures.put c.put_byte.ensures.put c.if-is_torn.true _ c.put_byte-then-is_torn.ensures.put

pub returns-else-is_torn-clause-put : goal.returns-else-is_torn-clause-put
returns-else-is_torn-clause-put c =
    let a = c.args in
    entry_whole a.id a.state a.torn _ (c.state_letter.ensures ∙ ap state_letter c.from.ensures) _ c.is_torn.ensures _ _ _
    c.put_field.ensures.put c.put_byte.ensures.put c.if-is_torn.false
