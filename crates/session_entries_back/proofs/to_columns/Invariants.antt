-- In the loop of `session_entries_back::to_columns` the columns have the log's first entries recorded in them. Assumes nothing.
use mathlib.Core.Path.{◌≡◌}
use Rattle.session.specs.Lent.{log_in, SameLog}
use Rattle.session_entries.specs.Entries.{with_entries}
use Rattle.session_entries_back.proofs.to_columns.Given as goal

abbrev pub invariant-loop-index : goal.invariant-loop-index
invariant-loop-index l = record {
  same : SameLog l.initial.to l.to;
  rows : log_in l.to ≡ with_entries l.log (log_in l.initial.to) l.index;
}
