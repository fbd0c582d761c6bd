-- `session_entries::moved_lengths` meets its contract: 12 before 13. Assumes nothing.
use Rattle.session_entries.specs.Entries.{moved_test}
use Rattle.session_entries.proofs.moved_lengths.Goals as goal

pub returns : goal.returns
unfolding moved_test
returns c = c.columns_refusal.ensures
