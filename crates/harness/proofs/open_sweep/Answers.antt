-- `harness::open_sweep` meets its contract: the fault-free run refused, failed, or its crash points. Assumes nothing.
use mathlib.Core.Path.{ap}
use native.Mathlib.Omega.{arith}
use Rattle.std.proofs.Common.{rules}
use Rattle.script.specs.Lent.{columns_seen}
use Rattle.harness_runs.specs.Running.{ran_as}
use Rattle.harness_runs.proofs.Parts.{zeros-are}
use Rattle.harness.proofs.Parts.{open-refused, open-failed, open-runs, open-ready}
use Rattle.harness.proofs.open_sweep.Goals as goal

pub returns-in_err-run : goal.returns-in_err-run
returns-in_err-run c =
    let t = open-refused c.args.writer.now.head c.args.writer.now.rows (columns_seen c.args.writer.now.calls) c.args.media.now c.args.copy.now c.args.recorded.now.kinds c.args.recorded.now.offsets c.args.recorded.now.lens _ (zeros-are 512) _ _ _ _ _ _ _ c.run_one.ensures _ (ap ran_as c.in_err-run.was) in
    search rules

pub returns-then-run : goal.returns-then-run
returns-then-run c =
    open-failed c.args.writer.now.head c.args.writer.now.rows (columns_seen c.args.writer.now.calls) c.args.media.now c.args.copy.now c.args.recorded.now.kinds c.args.recorded.now.offsets c.args.recorded.now.lens _ (zeros-are 512) _ _ _ _ _ _ _ c.run_one.ensures _ _ _ _ (ap ran_as c.in_ok-run.was) c.if-run.true

pub open_points-requires : goal.open_points-requires
open_points-requires c =
    (open-ready c.args.writer.now.head c.args.writer.now.rows (columns_seen c.args.writer.now.calls) c.args.media.now c.args.copy.now c.args.recorded.now.kinds c.args.recorded.now.offsets c.args.recorded.now.lens _ (zeros-are 512) _ _ _ _ _ _ _ c.run_one.ensures _ _ _ _ (ap ran_as c.in_ok-run.was), omega arith, omega arith)

pub returns : goal.returns
returns c =
    open-runs c.args.writer.now.head c.args.writer.now.rows (columns_seen c.args.writer.now.calls) c.args.media.now c.args.copy.now c.args.recorded.now.kinds c.args.recorded.now.offsets c.args.recorded.now.lens _ (zeros-are 512) _ _ _ _ _ _ _ c.run_one.ensures _ _ _ _ (ap ran_as c.in_ok-run.was) c.if-run.false _ c.open_points.ensures
