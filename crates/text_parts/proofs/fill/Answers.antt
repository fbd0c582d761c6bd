-- `text_parts::fill` meets its contract: what is left to put, with what was put, is all of it. Assumes nothing.
use mathlib.Core.Path.{sym, ◌∙◌}
use native.Mathlib.Omega.{arith}
use Rattle.text_parts.specs.Inner.{line_of}
use Rattle.text_parts.proofs.Fills.{turn, stop, done}
use Rattle.text_parts.proofs.fill.Goals as goal

pub loop-place-preserved : goal.loop-place-preserved
loop-place-preserved g c =
    let h = c.loop-place.invariant in
    (c.run_line-put.ensures.same ∙ h.0, turn (line_of g.P.Program.judged c.args.opened.now) _ c.args.runs _ _ _ h.1 c.loop-place-test.true _ _ c.run_line-put.ensures.put (sym c.is_err.ensures.value ∙ c.if-is_err.false), omega (arith, h.2), omega (arith, c.loop-place-test.true))

pub returns-then-is_err-clause-filled : goal.returns-then-is_err-clause-filled
returns-then-is_err-clause-filled g c =
    let h = c.loop-place.invariant in
    stop (line_of g.P.Program.judged c.args.opened.now) _ c.args.runs _ _ _ h.1 c.loop-place-test.true _ _ c.run_line-put.ensures.put (sym c.is_err.ensures.value ∙ c.if-is_err.true) c.run_line-put.ensures.stays

pub returns-clause-filled : goal.returns-clause-filled
returns-clause-filled g c =
    let h = c.loop-place.invariant in
    done (line_of g.P.Program.judged c.args.opened.now) _ c.args.runs _ _ _ h.1 c.loop-place-test.false h.3
