-- `hex_pairs::hex_end` meets its contract: past whole blocks of digits, the place that `position` found. Assumes nothing.
use Rattle.std.proofs.Common.{rules, tests}
use Rattle.std.proofs.lemmas.Iterator.{YieldsList-from_slice}
use Rattle.std.proofs.lemmas.Iterator.Search.{position_from_yields_List}
use Rattle.hex_pairs.proofs.Runs.{no_digit, digits-stopped}
use Rattle.hex_pairs.proofs.hex_end.Goals as goal

pub returns : goal.returns
returns c =
    let r = position_from_yields_List no_digit _ _ _ c.position-stop.ensures.ran (YieldsList-from_slice _ cc) (λ x b q k. search (rules, tests)) in
    rw c.unwrap_or.ensures (digits-stopped _ _ c.requires _ c.skip_blocks-start.ensures _ r)
