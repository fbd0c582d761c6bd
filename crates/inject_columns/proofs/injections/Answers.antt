-- `inject_columns::injections` meets its contract: the number that refuses, too few rows, or every point written from the first row on.
-- Assumes nothing.
use Rattle.std.proofs.Common.{rules}
use Rattle.inject_columns.specs.Answers.{points_in}
use Rattle.inject_columns.proofs.Listings.{write-refused, write-sound, write-short, write-room, write_done}
use Rattle.inject_columns.proofs.injections.Goals as goal

pub returns-in_err-count-clause-listed : goal.returns-in_err-count-clause-listed
returns-in_err-count-clause-listed c =
    let o = c.args.ops.now in
    let t = write-refused c.args.geometry o.kinds.now o.offsets.now o.lens.now (points_in c.args.points.now) _ c.are_equal.ensures _ c.in_err-count.ensures in search rules

pub returns-then-points-count-clause-listed : goal.returns-then-points-count-clause-listed
returns-then-points-count-clause-listed c =
    let o = c.args.ops.now in
    write-short c.args.geometry o.kinds.now o.offsets.now o.lens.now _ _ c.are_equal.ensures _ c.in_ok-count.ensures c.if-points-count.true

pub invariant_of-sequence : goal.invariant_of-sequence
invariant_of-sequence c =
    let s = write-sound _ _ _ _ (points_in c.args.points.now) _ c.are_equal.ensures _ c.in_ok-count.ensures in record { sound = (s.offsets-equal, s.lens-equal, s.few) }

pub write_all-requires : goal.write_all-requires
write_all-requires c = write-room _ _ _ _ _ _ c.are_equal.ensures _ c.in_ok-count.ensures c.if-points-count.false

pub returns-clause-listed : goal.returns-clause-listed
returns-clause-listed c = write_done _ _ _ _ _ _ c.are_equal.ensures _ c.in_ok-count.ensures c.if-points-count.false _ _ c.write_all.ensures.written
