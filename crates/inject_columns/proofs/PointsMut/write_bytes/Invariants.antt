-- `inject_columns::PointsMut::write_bytes` meets its contract. The invariant: the first `done` byte points are stored. Assumes nothing.
use mathlib.Core.Path.{◌≡◌}
use Prim.Native.Nat.{◌+◌}
use Rattle.inject_columns.specs.Answers.{points_in, SamePoints}
use Rattle.inject_columns.specs.Steps.{laid_from, bytes_at, rows}
use Rattle.inject_columns.proofs.PointsMut.write_bytes.Given as goal

abbrev pub invariant-loop-done : goal.invariant-loop-done
invariant-loop-done l = SamePoints l.initial.self l.self
    × (rows (l.at + l.done) (points_in l.self) ≡ laid_from l.at (bytes_at l.op l.cause l.group.unit l.done) (points_in l.initial.self))
