-- `text_parts::refused_part` meets its contract: past its line, or the line. Assumes nothing.
use Rattle.std.proofs.Common.{rules}
use Rattle.refusals.specs.Numbers.{number_of}
use Rattle.text_parts.proofs.Steps.{refused-past, refused-is, refused-some}
use Rattle.text_parts.proofs.refused_part.Goals as goal

pub returns-then-from-ne0 : goal.returns-then-from-ne0
returns-then-from-ne0 c =
    let e = c.args.error in
    refused-past (number_of e.refusal) e.line c.args.from c.args.out.now c.if-from-ne0.true _ c.reply_of.ensures

pub returns-in_err-refused_line : goal.returns-in_err-refused_line
returns-in_err-refused_line c =
    let e = c.args.error in
    let t = refused-is (number_of e.refusal) e.line c.args.from c.args.out.now c.if-from-ne0.false _ _ c.number.ensures c.in_err-refused_line.ensures.put in
    search rules

pub returns : goal.returns
returns c =
    let e = c.args.error in
    let t = refused-some (number_of e.refusal) e.line c.args.from c.args.out.now c.if-from-ne0.false _ c.number.ensures _ _ c.in_ok-refused_line.ensures.put _ c.reply_of-2.ensures in
    search rules
