-- `text::spell` meets its contract. The loop has written the digits from `i` on, and those before are the digits of `rest`. Assumes nothing.
use mathlib.Core.Path.{◌≡◌}
use lib.ListN.{length}
use Rattle.text.proofs.Decimals.{Spelling}
use Rattle.text.proofs.spell.Given as goal

abbrev pub invariant-loop-i : goal.invariant-loop-i
invariant-loop-i l = (length l.digits ≡ length l.initial.digits) × Spelling l.n l.digits l.rest l.i
