-- `session_entries_local::inside` meets its contract. Assumes nothing.
use Rattle.session_entries.proofs.Refused.{place_inside, place-outside}
use Rattle.session_entries_local.proofs.inside.Goals as goal

pub returns-then-index-rows : goal.returns-then-index-rows
returns-then-index-rows c = place_inside _ _ c.if-index-rows.true

pub returns-else-index-rows : goal.returns-else-index-rows
returns-else-index-rows c = place-outside _ _ c.if-index-rows.false
