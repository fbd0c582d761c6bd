-- `text_parts::part_of` meets its contract: a script that is refused, or its sweep, and both are document 01's lines. Assumes nothing.
use mathlib.Core.Path.{◌∙◌}
use Rattle.text_parts.proofs.Steps.{read-refused, read-swept}
use Rattle.text_parts.proofs.Whole.{part-is}
use Rattle.text_parts.proofs.part_of.Goals as goal

pub returns-in-Err : goal.returns-in-Err
returns-in-Err g c =
    read-refused g.P.Program.judged c.args.text.now c.args.from c.args.out.now _ _ c.read_script.ensures.left _ c.in-Err.is _ c.refused_part.ensures
    ∙ part-is g.P.Program.judged c.args.text.now c.args.from c.args.out.now

pub returns-in-Ok : goal.returns-in-Ok
returns-in-Ok g c =
    read-swept g.P.Program.judged c.args.text.now c.args.from c.args.out.now _ _ c.read_script.ensures.left _ c.in-Ok.is _ c.seen.ensures _ c.swept_part.ensures
    ∙ part-is g.P.Program.judged c.args.text.now c.args.from c.args.out.now
