-- `digest::digest` meets its contract. After i turns, the digest of what is left, from the hash so far, is the digest of all.
-- Assumes nothing.
use Rattle.std.proofs.Common.{ℕ, ◌+◌, drop, sym, refl, ap, ◌∙◌}
use mathlib.Core.List.{foldl}
use Rattle.basics.proofs.Scans.{at-step}
use Rattle.digest.specs.Fnv.{mixed, digest_of}
use Rattle.digest.proofs.digest.Goals as goal

pub loop-byte-init : goal.loop-byte-init
unfolding digest_of
loop-byte-init c = refl

pub loop-byte-preserved : goal.loop-byte-preserved
unfolding mixed
loop-byte-preserved c =
    let i = c.loop-byte.byte-index in
    let bytes = c.args.bytes.now in
    ap (λ (h : ℕ). foldl mixed h (drop (i + 1) bytes)) c.wrapping_mul-hash.ensures
    ∙ sym (at-step (foldl mixed c.loop-byte.hash) bytes i 0 c.loop-byte-test.true)
    ∙ c.loop-byte.invariant
