-- `device_calls::check_media` meets its contract: the test of the lengths is the definition's. Assumes nothing.
use mathlib.Core.Path.{sym}
use borrow.Author.Tests.{eq-eqb, ne_eqb}
use Rattle.basics.proofs.Tests.{unless_holds, unless-fails}
use Rattle.device_calls.proofs.check_media.Goals as goal

pub returns-then-media-geometry : goal.returns-then-media-geometry
returns-then-media-geometry c = sym (unless-fails _ 7 (ne_eqb _ _ c.if-media-geometry.true))

pub returns : goal.returns
returns c = sym (unless_holds _ 7 (eq-eqb _ _ c.if-media-geometry.false))
