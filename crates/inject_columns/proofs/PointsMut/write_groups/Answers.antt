-- `inject_columns::PointsMut::write_groups` meets its contract. The invariant: the points from row `i` on, laid from `next` on what the columns
-- hold, are the whole laid on what they held. Assumes nothing.
use mathlib.Core.Path.{◌∙◌}
use native.Mathlib.Omega.{arith}
use Rattle.std.proofs.Common.{rules}
use Rattle.inject.proofs.Rests.{sound}
use Rattle.inject_columns.proofs.Walks.{walk-room, walk_more, walk_end}
use Rattle.inject_columns.proofs.Rows.{kept, kept_trans}
use Rattle.inject_columns.proofs.PointsMut.write_groups.Goals as goal

pub write_group-next-requires : goal.write_group-next-requires
write_group-next-requires c =
    let l = c.loop-i in let s = c.args.sequence.now in (
      omega (arith, (sound s).few),
      walk-room s.geometry c.args.cause _ _ _ (sound s) l.i c.loop-i-test.true
          c.group_of-group.result c.group_of-group.ensures _ _ c.requires _ _ l.invariant.1 l.invariant.2,
    )

pub loop-i-preserved : goal.loop-i-preserved
loop-i-preserved c =
    let l = c.loop-i in let s = c.args.sequence.now in (
      search rules,
      kept_trans _ _ _ l.invariant.1 (kept _ _ _ _ _ c.write_group-next.ensures.written),
      walk_more s.geometry c.args.cause _ _ _ (sound s) l.i c.loop-i-test.true
          c.group_of-group.result c.group_of-group.ensures _ _ _ _ c.write_group-next.ensures.written
          ∙ l.invariant.2,
    )

pub returns-clause-written : goal.returns-clause-written
returns-clause-written c =
    let l = c.loop-i in let s = c.args.sequence.now in
    walk_end s.geometry c.args.cause l.i s.ops.kinds.now s.ops.offsets.now s.ops.lens.now c.loop-i-test.false _ _
    ∙ l.invariant.2
