-- `digest::wrapping_mul` meets its contract. The sum so far, and the product of what is left, are modulo 2^64 the whole product.
-- Assumes nothing.
use Rattle.std.proofs.Common.{◌∙◌, arith}
use Rattle.digest.proofs.Product.{odd, even}
use Rattle.digest.proofs.wrapping_mul.Goals as goal
use Rattle.digest.proofs.wrapping_mul.Goals.{then-bits-eq1, else-bits-eq1}

pub loop-bits-preserved : goal.loop-bits-preserved
loop-bits-preserved c =
    let turn = c.loop-bits in (
      elim c.if-bits-eq1.branch [ then-bits-eq1 w ↦ omega arith | else-bits-eq1 w ↦ omega arith ],
      elim c.if-bits-eq1.branch [
        | then-bits-eq1 w ↦ odd turn.product turn.shifted turn.bits _ w.if-bits-eq1.true (w.product-is ∙ w.wrapping_add_u64-product.ensures.value)
        | else-bits-eq1 w ↦ even turn.product turn.shifted turn.bits _ (omega arith) w.product-is
      ]
          ∙ turn.invariant.1,
    )
