-- `hex_pairs::decode` meets its contract. The loop has stored the first `k` of the bytes that are to be stored. Assumes nothing.
use mathlib.Core.Path.{◌≡◌}
use mathlib.Core.List.{◌++◌}
use lib.ListN.{length, take, drop}
use Rattle.hex_pairs.proofs.Bytes.{new}
use Rattle.hex_pairs.proofs.decode.Given as goal

abbrev pub invariant-loop-k : goal.invariant-loop-k
invariant-loop-k l = (length l.out ≡ length l.initial.out) × (l.out ≡ take l.k (new l.text l.from l.initial.out) ++ drop l.k l.initial.out)
