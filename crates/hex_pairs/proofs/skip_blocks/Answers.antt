-- `hex_pairs::skip_blocks` meets its contract: the block that `position` found is the first that is not of digits alone. Assumes nothing.
use Rattle.std.proofs.Common.{rules, tests}
use Rattle.std.proofs.lemmas.Iterator.{YieldsList-from_slice}
use Rattle.std.proofs.lemmas.Iterator.Search.{position_from_yields_List}
use Rattle.hex_pairs.proofs.Runs.{no_block, blocks-skipped}
use Rattle.hex_pairs.proofs.skip_blocks.Goals as goal

pub returns : goal.returns
returns c =
    let w = c.as_chunks.ensures in
    let r = position_from_yields_List no_block _ _ _ c.position-stop.ensures.ran (YieldsList-from_slice _ cc) (λ x b q k. search (rules, tests)) in
    rw c.unwrap_or.ensures (blocks-skipped _ _ c.requires _ w.front w.front_len _ r)
