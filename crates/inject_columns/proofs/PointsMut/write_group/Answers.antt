-- `inject_columns::PointsMut::write_group` meets its contract: none points, byte points and whole points, one part after the other. Assumes nothing.
use Rattle.inject_columns.proofs.Rows.{nones-room, bytes-room, wholes-room, group-rows}
use Rattle.inject_columns.proofs.PointsMut.write_group.Goals as goal

pub write_same-first-requires : goal.write_same-first-requires
write_same-first-requires c = (c.requires.0, nones-room c.args.group c.args.op c.args.cause c.args.at _ c.requires.1)

pub write_bytes-last-requires : goal.write_bytes-last-requires
write_bytes-last-requires c =
    (c.requires.0, bytes-room c.args.group c.args.op c.args.cause c.args.at _ c.requires.1 _ _ c.write_same-first.ensures.written)

pub write_same-requires : goal.write_same-requires
write_same-requires c =
    (c.requires.0, wholes-room c.args.group c.args.op c.args.cause c.args.at _ c.requires.1 _ _ c.write_same-first.ensures.written _ _ c.write_bytes-last.ensures.written)

pub returns-clause-written : goal.returns-clause-written
returns-clause-written c =
    group-rows c.args.group c.args.op c.args.cause c.args.at _ c.requires.1 _ _ c.write_same-first.ensures.written _ _ c.write_bytes-last.ensures.written _ _
    c.write_same.ensures.written
