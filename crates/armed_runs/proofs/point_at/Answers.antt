-- `armed_runs::point_at` meets its contract: nothing in run 0, then the crash point before its place. Assumes nothing.
use Rattle.std.proofs.Common.{rules}
use Rattle.armed_runs.proofs.Places.{place-first, place_found}
use Rattle.armed_runs.proofs.point_at.Goals as goal

pub returns-in_err-injection_count : goal.returns-in_err-injection_count
returns-in_err-injection_count c =
    let t = place-first c.args.place c.args.geometry c.args.ops.now.kinds.now c.args.ops.now.offsets.now c.args.ops.now.lens.now c.if-place-eq0.true _ c.in_err-injection_count.ensures in search rules

pub returns-then-place-eq0 : goal.returns-then-place-eq0
returns-then-place-eq0 c =
    place-first c.args.place c.args.geometry c.args.ops.now.kinds.now c.args.ops.now.offsets.now c.args.ops.now.lens.now c.if-place-eq0.true _ c.in_ok-injection_count.ensures

pub returns-in_err-injection : goal.returns-in_err-injection
returns-in_err-injection c =
    let t = place_found c.args.place c.args.geometry c.args.ops.now.kinds.now c.args.ops.now.offsets.now c.args.ops.now.lens.now c.if-place-eq0.false _ c.in_err-injection.ensures in search rules

pub returns : goal.returns
returns c =
    place_found c.args.place c.args.geometry c.args.ops.now.kinds.now c.args.ops.now.offsets.now c.args.ops.now.lens.now c.if-place-eq0.false _ c.in_ok-injection.ensures
