-- `device::postimage_of` meets its contract: each of its three ways out is one law of proofs/Postimages.antt. Assumes nothing.
use mathlib.Core.Path.{ap, ◌∙◌}
use mathlib.Core.List.{List}
use Prim.Native.Nat.{ℕ}
use Rattle.device.specs.Media.{anded}
use Rattle.device.proofs.Lent.{got-outside, got-part}
use Rattle.device.proofs.Postimages.{post-outside, post-short, post-written}
use Rattle.device.proofs.postimage_of.Goals as goal

pub returns-in_default : goal.returns-in_default
returns-in_default c = post-outside _ _ _ _ (got-outside c.args.media.now _ _ c.in_default.ensures.lookup.0)

pub returns-then-out-count : goal.returns-then-out-count
returns-then-out-count c = post-short _ _ _ _ c.in-Some.ensures.lookup.0.1 c.if-out-count.true

pub returns : goal.returns
returns c =
    let start = c.args in
    let got = c.in-Some.ensures.lookup.0 in
    let is = got-part start.media.now _ _ _ got.1 got.2 in
    post-written _ _ _ _ got.1 _ c.if-out-count.false (c.and_into.ensures ∙ ap (λ (l : List ℕ). anded l start.src.now) is)
