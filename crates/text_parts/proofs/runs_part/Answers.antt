-- `text_parts::runs_part` meets its contract: past the end, from the count on, or from a run on. Assumes nothing.
use Rattle.std.proofs.Common.{rules}
use Rattle.text_parts.specs.Inner.{line_of}
use Rattle.text_parts.proofs.Steps.{past_all, from_first, from-run}
use Rattle.text_parts.proofs.runs_part.Goals as goal

pub returns-then-runs-from : goal.returns-then-runs-from
returns-then-runs-from g c =
    past_all (line_of g.P.Program.judged c.args.opened.now) c.args.runs c.args.out.now c.args.from c.if-runs-from.true _ c.reply_of.ensures

pub returns-then-from-eq0 : goal.returns-then-from-eq0
returns-then-from-eq0 g c =
    from_first (line_of g.P.Program.judged c.args.opened.now) c.args.runs c.args.out.now c.args.from c.if-runs-from.false c.if-from-eq0.true _ _ c.first_part.ensures

pub returns : goal.returns
returns g c =
    let t = from-run (line_of g.P.Program.judged c.args.opened.now) c.args.runs c.args.out.now c.args.from c.if-runs-from.false c.if-from-eq0.false _ _ _ c.fill-place.ensures.filled _ c.reply_of-2.ensures in
    search rules
