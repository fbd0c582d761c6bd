-- `digest::digest` meets its contract. After i turns, the digest of what is left, from the hash so far, is the digest of all.
-- Assumes nothing.
use Rattle.std.proofs.Common.{◌≡◌, drop}
use mathlib.Core.List.{foldl}
use Rattle.digest.specs.Fnv.{mixed, digest_of}
use Rattle.digest.proofs.digest.Given as goal

abbrev pub invariant-loop-byte : goal.invariant-loop-byte
invariant-loop-byte l = foldl mixed l.hash (drop l.byte-index l.bytes) ≡ digest_of l.bytes
