-- `text_parts::first_part` meets its contract: the count of runs, and the runs after it. Assumes nothing.
use Rattle.std.proofs.Common.{rules}
use Rattle.text_parts.specs.Inner.{line_of}
use Rattle.text_parts.proofs.Steps.{first-is, first_some}
use Rattle.text_parts.proofs.first_part.Goals as goal

pub returns-in_err-runs_line : goal.returns-in_err-runs_line
returns-in_err-runs_line g c =
    let t = first-is (line_of g.P.Program.judged c.args.opened.now) c.args.runs c.args.out.now _ c.in_err-runs_line.ensures.put in
    search rules

pub returns : goal.returns
returns g c =
    let t = first_some (line_of g.P.Program.judged c.args.opened.now) c.args.runs c.args.out.now _ _ c.in_ok-runs_line.ensures.put _ _ _ c.fill-place.ensures.filled _ c.reply_of.ensures in
    search rules
