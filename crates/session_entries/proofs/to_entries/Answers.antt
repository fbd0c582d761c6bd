-- `session_entries::to_entries` meets its contract: refused, or every row goes over. Assumes nothing.
use mathlib.Core.Path.{◌≡◌, sym, ap, ◌∙◌}
use Prim.Native.Nat.{◌≤◌}
use native.Mathlib.Omega.{arith}
use lib.ListN.{length}
use Rattle.std.proofs.Common.{rules}
use Rattle.refusals.specs.Nonzero.{refusal-nonzero}
use Rattle.session.specs.Lent.{log_seen}
use Rattle.session_entries.specs.Entries.{with_rows}
use Rattle.session_entries.proofs.Refused.{moved-fits}
use Rattle.session_entries.proofs.Returned.{refused-entries, entries-all}
use Rattle.session_entries.proofs.to_entries.Goals as goal
use Rattle.session_entries.proofs.to_entries.Goals.{In_ok-moved_number}

-- where nothing refuses there is room
room : (c : goal.In_ok-moved_number) → length c.args.from.now.kinds.now ≤ length c.args.log.now
room c = (moved-fits (log_seen c.args.from.now) (length c.args.from.now.kinds.now) (length c.args.log.now) (sym c.in_ok-moved_number.ensures)).1

pub returns-in_err-moved_number : goal.returns-in_err-moved_number
returns-in_err-moved_number c =
    let e = c.in_err-moved_number.ensures in
    (search rules, sym (refused-entries (log_seen c.args.from.now) c.args.log.now (λ z. refusal-nonzero _ (e ∙ z))))

pub offset_bounds-log-index : goal.offset_bounds-log-index
offset_bounds-log-index c = let h = room (goal.at.offset_bounds-log-index c).In_ok-moved_number in omega (arith, h, c.loop-index-test.true, c.loop-index.auto.log)

pub bounds-log-index : goal.bounds-log-index
bounds-log-index c = let h = room (goal.at.bounds-log-index c).In_ok-moved_number in omega (arith, h, c.loop-index-test.true, c.loop-index.auto.log)

pub returns : goal.returns
returns c =
    let l = log_seen c.args.from.now in
    let n : c.loop-index.index ≡ length l.kinds = omega (arith, c.loop-index-test.false, c.loop-index.auto) in (
      c.in_ok-moved_number.ensures,
      c.loop-index.invariant ∙ ap (with_rows l c.args.log.now) n ∙ sym (entries-all l c.args.log.now (sym c.in_ok-moved_number.ensures)),
    )
