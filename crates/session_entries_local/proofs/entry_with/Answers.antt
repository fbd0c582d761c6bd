-- `session_entries_local::entry_with` meets its contract: each test in turn, then the entry read from the log in the local, in which the
-- other one was stored. Assumes nothing.
use mathlib.Core.Path.{ap, ◌∙◌}
use mathlib.Core.List.{List}
use lib.ListN.{length, set}
use Rattle.std.proofs.Common.{rules}
use Rattle.refusals.specs.Nonzero.{refusal-nonzero}
use Rattle.session.specs.declared.Entry.{Entry}
use Rattle.session.specs.Log.{log_of}
use Rattle.session_entries.specs.Entries.{place_test, entry_at}
use Rattle.session_entries_local.specs.Local.{blank_log}
use Rattle.session_entries_local.proofs.Laws.{stopped-at, stopped-index, stopped-number, stored, answered-so}
use Rattle.session_entries_local.proofs.entry_with.Goals as goal

pub returns-in_err-inside : goal.returns-in_err-inside
returns-in_err-inside c =
    let l = log_of c.args.kinds.now c.args.offsets.now c.args.lens.now c.args.digests.now c.args.changed.now c.args.answered.now in
    let t = stopped-at l c.args.at c.args.entry c.args.index _ (refusal-nonzero _) c.in_err-inside.ensures in
    search rules

pub returns-in_err-inside-2 : goal.returns-in_err-inside-2
returns-in_err-inside-2 c =
    let l = log_of c.args.kinds.now c.args.offsets.now c.args.lens.now c.args.digests.now c.args.changed.now c.args.answered.now in
    let t = stopped-index l c.args.at c.args.entry c.args.index _ (refusal-nonzero _) c.in_ok-inside.ensures c.in_err-inside-2.ensures in
    search rules

pub returns-in_err-to_entries : goal.returns-in_err-to_entries
unfolding blank_log
returns-in_err-to_entries c =
    let l = log_of c.args.kinds.now c.args.offsets.now c.args.lens.now c.args.digests.now c.args.changed.now c.args.answered.now in
    let e = c.in_err-to_entries.ensures in
    let t = stopped-number l c.args.at c.args.entry c.args.index _ (refusal-nonzero _) c.in_ok-inside.ensures c.in_ok-inside-2.ensures e.0 in
    search rules

-- the entry is stored
pub returns-in_err-store_entry : goal.returns-in_err-store_entry
unfolding blank_log
returns-in_err-store_entry c =
    let l = log_of c.args.kinds.now c.args.offsets.now c.args.lens.now c.args.digests.now c.args.changed.now c.args.answered.now in
    let handed = c.in_ok-to_entries.ensures in
    let e = c.in_err-store_entry.ensures in
    absurd
    (refusal-nonzero _
    (e.0 ∙ ap (λ (xs : List Entry). place_test c.args.at (length xs)) handed.1
    ∙ stored l c.args.at c.args.entry c.args.index c.in_ok-inside.ensures handed.0))

pub returns : goal.returns
unfolding blank_log
returns c =
    let l = log_of c.args.kinds.now c.args.offsets.now c.args.lens.now c.args.digests.now c.args.changed.now c.args.answered.now in
    let handed = c.in_ok-to_entries.ensures in
    let kept = c.in_ok-store_entry.ensures in
    c.read_entry.ensures
    ∙ ap (λ (xs : List Entry). entry_at xs c.args.index) (kept.1 ∙ ap (λ (xs : List Entry). set xs c.args.at c.args.entry) handed.1)
    ∙ answered-so l c.args.at c.args.entry c.args.index c.in_ok-inside.ensures handed.0 c.in_ok-inside-2.ensures
