-- `records::entry_at` meets its contract: what the record's own operations say, and what is found once. Assumes nothing.
use mathlib.Core.Path.{sym, ap, ◌∙◌}
use Prim.Native.Nat.{min}
use Rattle.std.proofs.Common.{rules}
use Rattle.records.specs.Columns.{is_one, is_write, higher}
use Rattle.records.proofs.Clips.{higher-max}
use Rattle.records.proofs.Scanning.{any-list, last-found}
use Rattle.records.proofs.Judged.{entry-codes}
use Rattle.records.proofs.entry_at.Goals as goal

pub returns : goal.returns
returns c =
    let start = c.min-start.ensures ∙ ap (min c.args.from) c.min-rows.ensures in
    let stop = c.max-stop.ensures ∙ higher-max _ _ ∙ ap (higher c.min-start.result) (c.min.ensures ∙ ap (min c.args.to) c.min-rows.ensures) in
    let own = c.contains-own_changed.ensures.value ∙ sym (any-list is_one _) in
    let w = c.past_last_write-written.ensures in
    let written = last-found is_write _ _ w.0 w.1 in
    entry-codes c.args.facts c.args.kinds.now c.args.changed.now c.args.from c.args.to _ _ start stop _ c.armed_in.ensures _ own _ written _ c.durability_of-state.ensures _ _ (search rules) (search rules)
