-- `oracle::first_difference` meets its contract: up to `position` the history is the committed ids that have come. Assumes nothing.
use Rattle.std.specs.Iterator.Adapters.{filter_source, map_source}
use Rattle.model.specs.Scans.{ids_from}
use Rattle.oracle.proofs.Committed.{left_in}
use Rattle.oracle.proofs.Pass.{DifferFrom}
use Rattle.oracle.proofs.first_difference.Given as goal

abbrev pub invariant-loop-position : goal.invariant-loop-position
invariant-loop-position l = DifferFrom (ids_from 1 l.ledger.ids.now l.ledger.states.now) l.history l.position (left_in (filter_source (map_source l.committed)))
