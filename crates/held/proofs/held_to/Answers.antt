-- `held::held_to` meets its contract: each answer from what its parts found. Assumes nothing.
use mathlib.Core.Path.{◌≡◌}
use Rattle.std.proofs.Common.{rules}
use Rattle.held.specs.Held.{recorded_in, held_test}
use Rattle.held.proofs.Numbers.{number-is}
use Rattle.held.proofs.Whole.{refused-call, fits, terminal-call, never-call, kept-call, differ-call}
use Rattle.held.proofs.held_to.Goals as goal
use Rattle.held.proofs.held_to.Goals.{In_ok-columns_refusal}

-- nothing refuses the columns
passed : (c : In_ok-columns_refusal) → 0 ≡ held_test (recorded_in c.args.free.now) (recorded_in c.args.run.now)
passed c =
    number-is (recorded_in c.args.free.now) (recorded_in c.args.run.now) _ _ _ _ c.malformed.ensures c.malformed-2.ensures c.short.ensures c.short-2.ensures _ c.in_ok-columns_refusal.ensures

pub returns-in_err-columns_refusal : goal.returns-in_err-columns_refusal
returns-in_err-columns_refusal c =
    let f = recorded_in c.args.free.now in
    let r = recorded_in c.args.run.now in
    let n = number-is f r _ _ _ _ c.malformed.ensures c.malformed-2.ensures c.short.ensures c.short-2.ensures _ c.in_err-columns_refusal.ensures in
    let t = refused-call c.args.injection f r _ n in search rules

pub returns-then-is_terminal : goal.returns-then-is_terminal
returns-then-is_terminal c =
    terminal-call c.args.injection (recorded_in c.args.free.now) (recorded_in c.args.run.now) (passed (goal.at.returns-then-is_terminal c).In_ok-columns_refusal) _ c.is_terminal.ensures c.if-is_terminal.true

pub returns-then-run-is_opening : goal.returns-then-run-is_opening
returns-then-run-is_opening c =
    never-call c.args.injection (recorded_in c.args.free.now) (recorded_in c.args.run.now) (passed (goal.at.returns-then-run-is_opening c).In_ok-columns_refusal) _ c.is_terminal.ensures c.if-is_terminal.false
    _ c.is_opening.ensures c.if-run-is_opening.true

pub invariant_of-free : goal.invariant_of-free
invariant_of-free c =
    record { fits = (fits c.args.injection (recorded_in c.args.free.now) (recorded_in c.args.run.now) (passed (goal.at.invariant_of-free c).In_ok-columns_refusal)).0 }

pub invariant_of-run : goal.invariant_of-run
invariant_of-run c =
    record { fits = (fits c.args.injection (recorded_in c.args.free.now) (recorded_in c.args.run.now) (passed (goal.at.invariant_of-run c).In_ok-columns_refusal)).1 }

pub returns-then-not-same_through : goal.returns-then-not-same_through
returns-then-not-same_through c =
    differ-call c.args.injection (recorded_in c.args.free.now) (recorded_in c.args.run.now) (passed (goal.at.returns-then-not-same_through c).In_ok-columns_refusal) _ c.is_terminal.ensures c.if-is_terminal.false
    _ c.is_opening.ensures c.if-run-is_opening.false _ c.same_through.ensures c.if-not-same_through.true

pub returns : goal.returns
returns c =
    kept-call c.args.injection (recorded_in c.args.free.now) (recorded_in c.args.run.now) (passed (goal.at.returns c).In_ok-columns_refusal) _ c.is_terminal.ensures c.if-is_terminal.false
    _ c.is_opening.ensures c.if-run-is_opening.false _ c.same_through.ensures c.if-not-same_through.false
