-- `harness::open_points` meets its contract: 26, the crash points' count, or what refuses it. Assumes nothing.
use mathlib.Core.Path.{refl}
use Rattle.std.proofs.Common.{rules}
use Rattle.script.specs.Lent.{columns_seen}
use Rattle.script.specs.Held.{calls_in}
use Rattle.harness.proofs.Parts.{points-26, points-counted, points-refused}
use Rattle.harness.proofs.open_points.Goals as goal

pub returns-then-head-range_behind : goal.returns-then-head-range_behind
returns-then-head-range_behind c =
    points-26 c.args.writer.now.head c.args.operations (calls_in c.args.writer.now.rows (columns_seen c.args.writer.now.calls)) c.args.ops.now.kinds.now c.args.ops.now.offsets.now c.args.ops.now.lens.now _ c.range_behind.ensures c.if-head-range_behind.true

pub returns-in_err-points : goal.returns-in_err-points
returns-in_err-points c =
    let t = points-refused c.args.writer.now.head c.args.operations (calls_in c.args.writer.now.rows (columns_seen c.args.writer.now.calls)) c.args.ops.now.kinds.now c.args.ops.now.offsets.now c.args.ops.now.lens.now _ c.range_behind.ensures c.if-head-range_behind.false _ c.lower-n.ensures.0 c.requires.1 c.requires.2 _ c.in_err-points.ensures _ refl in
    search rules

pub returns : goal.returns
returns c =
    points-counted c.args.writer.now.head c.args.operations (calls_in c.args.writer.now.rows (columns_seen c.args.writer.now.calls)) c.args.ops.now.kinds.now c.args.ops.now.offsets.now c.args.ops.now.lens.now _ c.range_behind.ensures c.if-head-range_behind.false _ c.lower-n.ensures.0 c.requires.1 c.requires.2 _ c.in_ok-points.ensures _ refl
