-- `hex_pairs::decode` meets its contract. The loop has stored the first `k` of the bytes that are to be stored. Assumes nothing.
use Rattle.std.proofs.Common.{refl}
use borrow.Author.Rules.{rules}
use native.Mathlib.Omega.{arith}
use Rattle.hex_pairs.proofs.Bytes.{decode-next, decode-end}
use Rattle.hex_pairs.proofs.decode.Goals as goal

pub loop-k-preserved : goal.loop-k-preserved
loop-k-preserved c =
    let l = c.loop-k in
    let a = c.args in (
      search rules,
      decode-next a.text.now a.from a.out.now _ (search rules) _ _ _ c.loop-k-test.true refl
          l.invariant.1 _ _ c.hex-high.ensures.is c.hex-low.ensures.is,
    )

pub returns : goal.returns
returns c =
    let a = c.args in
    decode-end a.text.now a.from a.out.now _ (search rules) _ _ (omega arith) c.loop-k-test.false c.loop-k.invariant.1
