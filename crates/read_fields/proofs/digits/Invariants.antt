-- `read_fields::digits` meets its contract. The loop has not changed what is to be answered: it is what the digits from `i` on
-- give, after digits of value `value`. Assumes nothing.
use mathlib.Core.Path.{◌≡◌}
use Prim.Native.Nat.{◌-◌, ◌≤◌}
use lib.ListN.{length, drop}
use Rattle.read_fields.specs.Inner.{digits_at}
use Rattle.read_fields.proofs.digits.Given as goal

abbrev pub invariant-loop-i : goal.invariant-loop-i
invariant-loop-i l = (l.value ≤ 4294967295) × (digits_at l.from l.end 0 (drop l.from l.text) ≡ digits_at l.i l.end l.value (drop l.i l.text))

abbrev pub decreases-loop-i : goal.decreases-loop-i
decreases-loop-i l = length l.text - l.i
