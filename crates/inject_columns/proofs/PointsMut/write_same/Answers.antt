-- `inject_columns::PointsMut::write_same` meets its contract. The invariant: `done` rows of the point are stored. Assumes nothing.
use Rattle.std.proofs.Common.{rules}
use Rattle.inject_columns.proofs.Rows.{none_yet, row-room, same_rows}
use Rattle.inject_columns.proofs.PointsMut.write_same.Goals as goal

pub loop-done-init : goal.loop-done-init
loop-done-init c = (search rules, none_yet _ _)

pub write_point-requires : goal.write_point-requires
write_point-requires c = (c.requires.0, row-room c.args.at c.loop-done.done c.args.times _ _ _ c.loop-done.invariant.1 c.loop-done-test.true c.requires.1)

pub loop-done-preserved : goal.loop-done-preserved
loop-done-preserved c = (search rules, same_rows _ _ _ _ _ _ c.loop-done.invariant.1 c.write_point.ensures.written)
