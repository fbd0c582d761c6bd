-- `session_erase::land_erase` meets its contract: one erase on the media, one on the copy. Assumes nothing.
use Rattle.session_erase.proofs.Calls.{landing}
use Rattle.session_erase.proofs.land_erase.Goals as goal

pub returns : goal.returns
returns c = landing _ _ _ _ _ _ _ _ _ c.apply_erase-changed.ensures c.apply_erase.ensures
