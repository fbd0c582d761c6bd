-- `hex_pairs::all_hex` meets its contract. The loop has the flag of the bytes passed. Assumes nothing.
use mathlib.Core.Path.{◌≡◌}
use lib.ListN.{take}
use Rattle.text.specs.Pairs.{all_hex}
use Rattle.hex_pairs.proofs.all_hex.Given as goal

abbrev pub invariant-loop-byte : goal.invariant-loop-byte
invariant-loop-byte l = l.all ≡ all_hex (take l.byte-index l.bytes)
