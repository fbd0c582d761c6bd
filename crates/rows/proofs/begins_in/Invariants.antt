-- `rows::begins_in` meets its contract: those found and those in the codes not yet read are all. Assumes nothing.
use mathlib.Core.Path.{◌≡◌}
use Prim.Native.Nat.{◌+◌, ◌≤◌}
use lib.ListN.{drop}
use Rattle.rows.specs.Rows.{begins_from}
use Rattle.rows.proofs.begins_in.Given as goal

abbrev pub invariant-loop-kind : goal.invariant-loop-kind
invariant-loop-kind l = (l.begins ≤ l.kind-index) × (l.marks ≤ l.kind-index) × (begins_from 0 l.kinds ≡ l.begins + begins_from l.marks (drop l.kind-index l.kinds))
