-- `ledger::ledger` meets its contract: refused, or derived from the operations and marks that count. Assumes nothing.
use mathlib.Core.Path.{◌≡◌, refl, sym}
use mathlib.Core.List.{List}
use Prim.Native.Nat.{ℕ, ◌≤◌}
use native.Mathlib.Omega.{arith}
use lib.ListN.{length, take, length-take}
use lib.Seq.{length-take-le}
use Rattle.std.proofs.Common.{rules}
use Rattle.session.specs.Lent.{log_seen, marks_seen}
use Rattle.ledger.specs.Ledger.{entered_in}
use Rattle.ledger.proofs.Whole.{Sound, refused-call, sound, derived-call}
use Rattle.ledger.proofs.ledger.Goals as goal
use Rattle.ledger.proofs.ledger.Goals.{In_ok-refusal}

-- what is known of what was lent where nothing refuses
held : (c : goal.In_ok-refusal) → Sound c.args.counters (length c.args.media.now) (length c.args.copy.now) (log_seen c.args.log.now) (marks_seen c.args.marks.now) (entered_in c.args.entries.now)
held c =
    let a = c.args in
    sound a.told a.counters a.media.now a.copy.now (log_seen a.log.now) (marks_seen a.marks.now) (entered_in a.entries.now) _ c.uneven-uneven.ensures c.in_ok-refusal.ensures

-- so many rows are there of a column that is as long as another
part : (xs : List ℕ) (n m : ℕ) → length xs ≡ m → n ≤ m → n ≡ length (take n xs)
part xs n m e h = sym (length-take-le n xs (omega (arith, e, h)))

pub returns-in_err-refusal-clause-left : goal.returns-in_err-refusal-clause-left
returns-in_err-refusal-clause-left c =
    let a = c.args in
    let t = refused-call a.told a.counters a.media.now a.copy.now (log_seen a.log.now) (marks_seen a.marks.now) (entered_in a.entries.now) _ c.uneven-uneven.ensures _ c.in_err-refusal.ensures in
    search rules

pub returns-clause-left : goal.returns-clause-left
returns-clause-left c =
    let a = c.args in
    derived-call a.told a.counters a.media.now a.copy.now (log_seen a.log.now) (marks_seen a.marks.now) (entered_in a.entries.now) _ c.uneven-uneven.ensures c.in_ok-refusal.ensures
    _ c.outstanding.ensures _ c.last_barrier.ensures _ c.derive.ensures.left

pub outstanding-requires : goal.outstanding-requires
outstanding-requires c = (held (goal.at.outstanding-requires c).In_ok-refusal).sizes

pub slice_bounds-kinds-end : goal.slice_bounds-kinds-end
slice_bounds-kinds-end c = let h = (held (goal.at.slice_bounds-kinds-end c).In_ok-refusal) in part _ _ _ refl h.operations

pub slice_bounds-last_barrier-end : goal.slice_bounds-last_barrier-end
slice_bounds-last_barrier-end c = let h = (held (goal.at.slice_bounds-last_barrier-end c).In_ok-refusal) in part _ _ _ h.answers h.operations

pub slice_bounds-counted-end : goal.slice_bounds-counted-end
slice_bounds-counted-end c = let h = (held (goal.at.slice_bounds-counted-end c).In_ok-refusal) in part _ _ _ h.changes h.operations

pub slice_bounds-counted-end-2 : goal.slice_bounds-counted-end-2
slice_bounds-counted-end-2 c = let h = (held (goal.at.slice_bounds-counted-end-2 c).In_ok-refusal) in part _ _ _ refl h.marks

pub slice_bounds-counted-end-3 : goal.slice_bounds-counted-end-3
slice_bounds-counted-end-3 c = let h = (held (goal.at.slice_bounds-counted-end-3 c).In_ok-refusal) in part _ _ _ h.names h.marks

pub slice_bounds-counted-end-4 : goal.slice_bounds-counted-end-4
slice_bounds-counted-end-4 c = let h = (held (goal.at.slice_bounds-counted-end-4 c).In_ok-refusal) in part _ _ _ h.stands h.marks

pub invariant_of-counted : goal.invariant_of-counted
invariant_of-counted c = let h = (held (goal.at.invariant_of-counted c).In_ok-refusal) in record { even = (simp (length-take, h.names), simp (length-take, h.stands)) }

pub derive-requires : goal.derive-requires
derive-requires c = (held (goal.at.derive-requires c).In_ok-refusal).entries
