-- `session_program::land_program` meets its contract: the copy's end and the media's part come back as the definition has them. Assumes nothing.
use Rattle.session_program.proofs.Landings.{landing}
use Rattle.session_program.proofs.land_program.Goals as goal

pub returns : goal.returns
returns c =
    landing _ _ _ _ _ c.requires.0 c.requires.1 c.requires.2 _ _ _ _
    c.postimage_of.ensures
    c.apply_program.ensures
