-- `digest::wrapping_mul` meets its contract. The sum so far, and the product of what is left, are modulo 2^64 the whole product.
-- Assumes nothing.
use Rattle.std.proofs.Common.{◌≡◌, ◌+◌, ◌*◌, ◌%◌, ◌^◌, ◌<◌}
use Rattle.digest.proofs.wrapping_mul.Given as goal

abbrev pub invariant-loop-bits : goal.invariant-loop-bits
invariant-loop-bits l = (l.product < 2 ^ 64) × ((l.product + l.shifted * l.bits) % 2 ^ 64 ≡ l.a * l.b % 2 ^ 64)

abbrev pub decreases-loop-bits : goal.decreases-loop-bits
decreases-loop-bits l = l.bits
