-- `sweep_heads::progress_size` meets its contract, by the kind of progress. Assumes nothing.
use mathlib.Core.Logic.{⊎_elim}
use Rattle.sweep_heads.proofs.Sizes.{letter-few, count-few}
use Rattle.sweep_heads.proofs.progress_size.Goals as goal

pub returns-in-None : goal.returns-in-None
returns-in-None c = ⊎_elim (λ e. rw e (letter-few 110)) (λ e. rw e (letter-few 97)) c.in-None.is

pub returns-in-Bytes : goal.returns-in-Bytes
returns-in-Bytes c = rw c.in-Bytes.is (count-few _ _ c.places.ensures)
