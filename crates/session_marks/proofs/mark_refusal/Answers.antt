-- `session_marks::mark_refusal` meets its contract: the lengths before 28. Assumes nothing.
use Prim.Native.Nat.{◌+◌, ◌≤◌, ◌<◌}
use native.Mathlib.Omega.{arith}
use Rattle.std.proofs.Common.{rules}
use borrow.Author.Tests.{le-leb, lt-leb, ne_eqb}
use Rattle.basics.specs.Tests.{unless, first_of}
use Rattle.refusals.specs.Nonzero.{refusal-nonzero}
use Rattle.session.specs.Tests.{mark_test, marks_number}
use Rattle.session_marks.proofs.mark_refusal.Goals as goal

pub returns-in_err-refusal : goal.returns-in_err-refusal
unfolding marks_number first_of
returns-in_err-refusal c = let h = ne_eqb _ 0 (refusal-nonzero c.in_err-refusal.field-0.0) in search rules

pub returns-then-counters-more : goal.returns-then-counters-more
unfolding marks_number mark_test unless first_of
returns-then-counters-more c =
    let h : 512 < c.args.counters.marks + c.args.more = omega (arith, c.requires) in
    simp (← c.in_ok-refusal.ensures, lt-leb _ 512 h)

pub returns : goal.returns
unfolding marks_number mark_test unless first_of
returns c =
    let h : c.args.counters.marks + c.args.more ≤ 512 = omega (arith, c.requires) in
    simp (← c.in_ok-refusal.ensures, le-leb _ 512 h)
