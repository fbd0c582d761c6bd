-- `inject_columns::PointsMut::write_all` meets its contract: the list's five parts, one after the other. Assumes nothing.
use native.Mathlib.Omega.{arith}
use Rattle.inject_columns.proofs.Listings.{first-fits, lost-fit, alone-fits, reset-fit, failed-fit, all-rows}
use Rattle.inject_columns.proofs.PointsMut.write_all.Goals as goal

pub write_same-first-requires : goal.write_same-first-requires
write_same-first-requires c = (omega arith, first-fits c.args.sequence.now _ c.requires)

pub write_groups-lost-requires : goal.write_groups-lost-requires
write_groups-lost-requires c = lost-fit c.args.sequence.now _ c.requires _ _ c.write_same-first.ensures.written

pub write_same-alone-requires : goal.write_same-alone-requires
write_same-alone-requires c = (
  omega arith,
  alone-fits c.args.sequence.now _ c.requires _ _ c.write_same-first.ensures.written _ _ c.write_groups-lost.ensures.written _ c.lone_count.ensures.0,
)

pub write_groups-reset-requires : goal.write_groups-reset-requires
write_groups-reset-requires c =
    reset-fit c.args.sequence.now _ c.requires _ _ c.write_same-first.ensures.written _ _ c.write_groups-lost.ensures.written _ c.lone_count.ensures.0
    _ _ c.write_same-alone.ensures.written

pub write_groups-requires : goal.write_groups-requires
write_groups-requires c =
    failed-fit c.args.sequence.now _ c.requires _ _ c.write_same-first.ensures.written _ _ c.write_groups-lost.ensures.written _ c.lone_count.ensures.0
    _ _ c.write_same-alone.ensures.written _ _ c.write_groups-reset.ensures.written

pub returns-clause-written : goal.returns-clause-written
returns-clause-written c =
    all-rows c.args.sequence.now _ c.requires _ _ c.write_same-first.ensures.written _ _ c.write_groups-lost.ensures.written _ c.lone_count.ensures.0
    _ _ c.write_same-alone.ensures.written _ _ c.write_groups-reset.ensures.written _ _ c.write_groups.ensures.written
