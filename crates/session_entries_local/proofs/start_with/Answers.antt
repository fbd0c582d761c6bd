-- `session_entries_local::start_with` meets its contract: the log in the local is the blank log with the entry stored. Assumes nothing.
use Rattle.std.proofs.Common.{rules}
use Rattle.session_entries_local.specs.Local.{blank_log}
use Rattle.session_entries_local.proofs.start_with.Goals as goal

pub returns : goal.returns
unfolding blank_log
returns c = let t = c.to_columns.ensures.left in search rules
