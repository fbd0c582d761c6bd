-- `inject_columns::PointsMut::write_same` meets its contract. The invariant: `done` rows of the point are stored. Assumes nothing.
use mathlib.Core.Path.{◌≡◌}
use Prim.Native.Nat.{◌+◌}
use lib.ListN.{replicate}
use Rattle.inject_columns.specs.Answers.{points_in, SamePoints}
use Rattle.inject_columns.specs.Steps.{laid_from, rows}
use Rattle.inject_columns.proofs.PointsMut.write_same.Given as goal

abbrev pub invariant-loop-done : goal.invariant-loop-done
invariant-loop-done l = SamePoints l.initial.self l.self
    × (rows (l.at + l.done) (points_in l.self) ≡ laid_from l.at (replicate l.done l.injection) (points_in l.initial.self))
