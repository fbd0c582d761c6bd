-- `replay::replay` meets its contract: refused, or the rows run and the ledger derived. Assumes nothing.
use mathlib.Core.Path.{refl, ◌∙◌}
use Rattle.std.proofs.Common.{rules}
use Rattle.refusals.specs.Nonzero.{refusal-nonzero}
use Rattle.session.specs.Log.{log_of, marks_of}
use Rattle.ledger.specs.Ledger.{entered_in}
use Rattle.script.specs.Lent.{columns_seen}
use Rattle.replay.specs.Replay.{Lent, lent}
use Rattle.replay.specs.Sized.{Sized}
use Rattle.replay.proofs.Whole.{asked-number, replay-refuses, never-refused, replay-runs}
use Rattle.replay.proofs.replay.Goals as goal
use Rattle.replay.proofs.replay.Goals.{Start}

-- what was lent
abbrev all : goal.Start → Lent
all c = lent c.args.answers.now c.args.media.now c.args.copy.now
    (log_of c.args.ops.now c.args.spans.now c.args.sizes.now c.args.digests.now c.args.changed.now c.args.answered.now)
    (marks_of c.args.marks.now c.args.named.now c.args.places.now) (entered_in c.args.entries.now)

-- arrays of a session's limits
sized : (c : goal.Start) → Sized (all c).log (all c).marks
sized c = record {
  kinds-are = search rules;
  offsets_are = search rules;
  lens-are = search rules;
  digests-are = search rules;
  changed-are = search rules;
  answered-are = search rules;
  codes-are = search rules;
  ids-are = search rules;
  places-are = search rules;
}

pub returns-in_err-rows_refusal-clause-left : goal.returns-in_err-rows_refusal-clause-left
returns-in_err-rows_refusal-clause-left c =
    let before = all (goal.at.returns-in_err-rows_refusal-clause-left c).Start in
    let t = replay-refuses c.args.told c.args.rows (columns_seen c.args.calls.now) before _ _ c.begins_taken.ensures (c.in_err-rows_refusal.ensures ∙ asked-number c.args.told c.args.rows (columns_seen c.args.calls.now) before _ _ c.uneven.ensures) (refusal-nonzero _) in
    search rules

pub returns-in_err-fresh-clause-left : goal.returns-in_err-fresh-clause-left
returns-in_err-fresh-clause-left c =
    let at = (goal.at.returns-in_err-fresh-clause-left c).Start in
    absurd (never-refused c.args.told c.args.rows (columns_seen c.args.calls.now) (all at) _ _ c.begins_taken.ensures (c.in_ok-rows_refusal.ensures ∙ asked-number c.args.told c.args.rows (columns_seen c.args.calls.now) (all at) _ _ c.uneven.ensures) refl (sized at) _ _ c.in_err-fresh.ensures)

pub returns-clause-left : goal.returns-clause-left
returns-clause-left c =
    let at = (goal.at.returns-clause-left c).Start in
    replay-runs c.args.told c.args.rows (columns_seen c.args.calls.now) (all at) _ _ c.begins_taken.ensures (c.in_ok-rows_refusal.ensures ∙ asked-number c.args.told c.args.rows (columns_seen c.args.calls.now) (all at) _ _ c.uneven.ensures) refl (sized at) _ _ c.in_ok-fresh.ensures _ _ _ _ _ _ c.run_ledgered-derived.ensures.left _ _ c.run_ledgered-derived.ensures.derived
