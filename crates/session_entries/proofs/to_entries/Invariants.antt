-- In the loop of `session_entries::to_entries` the log has the columns' first `index` rows in it. Assumes nothing.
use mathlib.Core.Path.{◌≡◌}
use Rattle.session.specs.Lent.{log_seen}
use Rattle.session_entries.specs.Entries.{with_rows}
use Rattle.session_entries.proofs.to_entries.Given as goal

abbrev pub invariant-loop-index : goal.invariant-loop-index
invariant-loop-index l = l.log ≡ with_rows (log_seen l.from) l.initial.log l.index
