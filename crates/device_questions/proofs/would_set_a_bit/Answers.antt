-- `device_questions::would_set_a_bit` meets its contract: it asks its loop of the part, if that is in the media. Assumes nothing.
use mathlib.Core.Path.{ap, ◌∙◌}
use mathlib.Core.List.{List}
use Prim.Native.Nat.{ℕ}
use borrow.Author.Tests.{lt-leb, le-leb}
use Rattle.device.specs.Media.{any_pair, sets_a_bit, would_set_a_bit}
use Rattle.device.proofs.Lent.{got-outside, got-part}
use Rattle.device_questions.proofs.would_set_a_bit.Goals as goal

pub returns-in_default : goal.returns-in_default
unfolding would_set_a_bit
returns-in_default c = simp (lt-leb _ _ (got-outside c.args.media.now _ _ c.in_default.ensures.lookup.0))

pub returns : goal.returns
unfolding would_set_a_bit
returns c =
    let got = c.in-Some.ensures.lookup.0 in
    let is = got-part c.args.media.now _ _ _ got.1 got.2 in
    rw (le-leb _ _ got.1) (c.sets_a_bit.ensures ∙ ap (λ (l : List ℕ). any_pair sets_a_bit l c.args.src.now) is)
