-- A walk over the rows that stores each row's points: what is left to store. Assumes nothing.
use mathlib.Core.Path.{◌≡◌, sym, ap, ◌∙◌}
use mathlib.Core.List.{List, map}
use Prim.Native.Nat.{ℕ, ◌+◌, ◌≤◌, ◌<◌}
use native.Mathlib.Omega.{arith}
use lib.ListN.{length}
use Rattle.storage.specs.declared.Geometry.{Geometry}
use Rattle.inject.specs.declared.Interruption.{Interruption}
use Rattle.inject.specs.declared.Injection.{Injection}
use Rattle.inject.specs.declared.group.Group.{Group}
use Rattle.inject.specs.Ops.{ops_of}
use Rattle.inject.specs.Points.{point, under}
use Rattle.inject_columns.specs.Answers.{PointColumns}
use Rattle.inject.specs.Steps.{Sound, op_at, grouped, GroupOf}
use Rattle.inject_columns.specs.Steps.{laid_from, Room, Rows, rows}
use Rattle.inject.proofs.Rests.{rest, rest-step, rest-length, rest_end}
use Rattle.inject_columns.proofs.Rows.{Kept, kept-room, rest-rows, no_rows}

module _ (g : Geometry) (w : Interruption) (ks os ls : List ℕ) (s : Sound g ks os ls)
    (i : ℕ) (h : i < length ks) (r : Group) (q : GroupOf g w (op_at ks os ls i) r) where
  -- there is room for row i's points
  pub walk-room : (at : ℕ) (c : PointColumns) → Room (at + length (under g w 0 (ops_of ks os ls))) c → (next : ℕ) (d : PointColumns) → Kept c d
      → laid_from next (rest g w i ks os ls) d ≡ laid_from at (under g w 0 (ops_of ks os ls)) c → Room (next + length (grouped r)) d
  walk-room at c room next d k e =
      let n : next + length (rest g w i ks os ls) ≡ at + length (under g w 0 (ops_of ks os ls)) = ap (λ (t : Rows). t.next) e in
      kept-room (at + length (under g w 0 (ops_of ks os ls))) (next + length (grouped r)) c d k
      (omega (arith, rest-length g w ks os ls s i h r q)) room

  -- row i's points are stored: what is left is the rest
  pub walk_more : (next m : ℕ) (c d : PointColumns) → rows m d ≡ laid_from next (map (point i w) (grouped r)) c
      → laid_from m (rest g w (i + 1) ks os ls) d ≡ laid_from next (rest g w i ks os ls) c
  walk_more next m c d e =
      rest-rows next m (map (point i w) (grouped r)) (rest g w (i + 1) ks os ls) c d e
      ∙ ap (λ (xs : List Injection). laid_from next xs c) (sym (rest-step g w ks os ls s i h r q))

-- nothing is left
pub walk_end : (g : Geometry) (w : Interruption) (i : ℕ) (ks os ls : List ℕ) → length ks ≤ i → (next : ℕ) (c : PointColumns)
    → rows next c ≡ laid_from next (rest g w i ks os ls) c
walk_end g w i ks os ls h next c = no_rows next c ∙ ap (λ (xs : List Injection). laid_from next xs c) (sym (rest_end g w i ks os ls h))
