-- `hex_pairs::is_hex` meets its contract: a digit or a letter. Assumes nothing.
use Rattle.text.specs.Numbers.{is_digit}
use Rattle.text.specs.Pairs.{is_hex}
use Rattle.hex_pairs.proofs.is_hex.Goals as goal

pub returns : goal.returns
unfolding is_hex is_digit
returns c = rw (c.is_ascii_digit.ensures.value, c.is_letter.ensures)
