-- `device_questions::differs_from` meets its contract: it compares the part, if that is in the media. Assumes nothing.
use mathlib.Core.Path.{ap, ◌∙◌}
use mathlib.Core.Bool.{not}
use mathlib.Core.List.{List}
use Prim.Native.Nat.{ℕ}
use lib.ListN.{length}
use borrow.Author.Tests.{lt-leb, le-leb}
use Rattle.basics.proofs.Parts.{length_part}
use Rattle.device.specs.Media.{any_pair, unequal, differs_from}
use Rattle.device.proofs.Lent.{got-outside, got-part}
use Rattle.device.proofs.Pairs.{differing}
use Rattle.device_questions.proofs.differs_from.Goals as goal

pub returns-in_default : goal.returns-in_default
unfolding differs_from
returns-in_default c = rw (lt-leb _ _ (got-outside c.args.media.now _ _ c.in_default.ensures.lookup.0)) (ap not c.is_empty.ensures)

pub returns : goal.returns
unfolding differs_from
returns c =
    let got = c.in-Some.ensures.lookup.0 in
    let expected = c.args.expected.now in
    let is = got-part c.args.media.now c.in-Some.cells.now c.args.offset (length expected) got.1 got.2 in
    rw (le-leb _ _ got.1) (c.ne.ensures ∙ differing _ _ (ap length is ∙ length_part _ _ _ got.1) ∙ ap (λ (l : List ℕ). any_pair unequal l expected) is)
