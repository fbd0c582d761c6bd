-- `script::CallsRef::room_refusal` meets its contract: the two tests are the definition's. Assumes nothing.
use mathlib.Core.Path.{refl, sym, ◌∙◌}
use Rattle.script.proofs.Rooms.{room-is}
use Rattle.script.proofs.CallsRef.room_refusal.Goals as goal

pub returns : goal.returns
returns c = c.columns_refusal.ensures ∙ room-is _ _ _ _ _ _ _ _ _ _ (sym c.uneven.ensures) refl
