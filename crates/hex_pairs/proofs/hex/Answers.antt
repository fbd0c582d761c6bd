-- `hex_pairs::hex` meets its contract: each way out is one case of the definition. Assumes nothing.
use mathlib.Core.Path.{sym, ◌∙◌}
use Rattle.hex_pairs.proofs.Bytes.{letter-low, nibble-digit, nibble-letter, nibble-none}
use Rattle.hex_pairs.proofs.hex.Goals as goal

pub returns-then-is_ascii_digit : goal.returns-then-is_ascii_digit
returns-then-is_ascii_digit c = nibble-digit _ (sym c.is_ascii_digit.ensures.value ∙ c.if-is_ascii_digit.true)

pub overflow_sub-result-then-is_letter : goal.overflow_sub-result-then-is_letter
overflow_sub-result-then-is_letter c = letter-low _ (sym c.is_letter.ensures ∙ c.if-is_letter.true)

pub returns-then-is_letter : goal.returns-then-is_letter
returns-then-is_letter c = nibble-letter _ (sym c.is_ascii_digit.ensures.value ∙ c.if-is_ascii_digit.false) (sym c.is_letter.ensures ∙ c.if-is_letter.true)

pub returns : goal.returns
returns c = nibble-none _ (sym c.is_ascii_digit.ensures.value ∙ c.if-is_ascii_digit.false) (sym c.is_letter.ensures ∙ c.if-is_letter.false)
