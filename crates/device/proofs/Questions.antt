-- What the answers to the questions mean.
--     differs_none         the media do not differ from what is expected exactly if the part is it
--     would-change-none    an erase would change nothing exactly if the part is all 0xFF
--     landed-same          what has been programmed does not differ from what the write would leave
-- (`erase-changes` in Erasing.antt: an erase would change a cell exactly if it does; `rejected-part` in Bits.antt.)
-- Assumes nothing.
use mathlib.Core.Path.{◌≡◌, sym, ap, ◌∙◌}
use mathlib.Core.Logic.{⊎_elim, ◌↔◌}
use mathlib.Core.Bool.{false}
use mathlib.Core.List.{List, []}
use Prim.Native.Nat.{ℕ, ◌+◌, ◌≤◌, ◌<◌}
use lib.ListN.{length, replicate, length-replicate}
use borrow.Author.Tests.{le-leb, lt-leb}
use Rattle.basics.specs.Parts.{part}
use Rattle.basics.proofs.Tests.{le-or-gt}
use Rattle.basics.proofs.Parts.{length_part}
use Rattle.device.specs.Media.{ff, anded, any_pair, unequal, programmed, postimage, differs_from, erase_would_change}
use Rattle.device.proofs.Pairs.{any_same, any_none}
use Rattle.device.proofs.Programming.{keeps, length-programmed, programmed-part}

none-iff : (xs ys : List ℕ) → length xs ≡ length ys → (any_pair unequal xs ys ≡ false) ↔ (xs ≡ ys)
none-iff xs ys l = (any_none xs ys l, λ e. ap (λ (x : List ℕ). any_pair unequal x ys) e ∙ any_same ys)

pub differs_none : (media : List ℕ) (offset : ℕ) (expected : List ℕ) → offset + length expected ≤ length media
    → (differs_from media offset expected ≡ false) ↔ (part media offset (length expected) ≡ expected)
unfolding differs_from
differs_none media offset expected h =
    rw (le-leb (offset + length expected) (length media) h)
    (none-iff (part media offset (length expected)) expected (length_part media offset (length expected) h))

pub would-change-none : (media : List ℕ) (offset n : ℕ) → offset + n ≤ length media
    → (erase_would_change media offset n ≡ false) ↔ (part media offset n ≡ replicate n ff)
unfolding erase_would_change
would-change-none media offset n h =
    rw (le-leb (offset + n) (length media) h)
    (none-iff (part media offset n) (replicate n ff) (length_part media offset n h ∙ sym (length-replicate n ff)))

-- nothing is expected: nothing differs, wherever it is
differs-nothing : (media : List ℕ) (offset : ℕ) → differs_from media offset [] ≡ false
unfolding differs_from any_pair part
differs-nothing media offset = ⊎_elim (λ w. rw (le-leb (offset + 0) (length media) w)) (λ w. rw (lt-leb (offset + 0) (length media) w)) (le-or-gt (offset + 0) (length media))

-- what the write would leave, where the part is in the media and where it is not
post_in : (media : List ℕ) (offset : ℕ) (src : List ℕ) → offset + length src ≤ length media → postimage media offset src ≡ anded (part media offset (length src)) src
unfolding postimage
post_in media offset src h = rw (le-leb (offset + length src) (length media) h)

post_out : (media : List ℕ) (offset : ℕ) (src : List ℕ) → length media < offset + length src → postimage media offset src ≡ []
unfolding postimage
post_out media offset src h = rw (lt-leb (offset + length src) (length media) h)

pub landed-same : (media : List ℕ) (offset : ℕ) (src : List ℕ) → differs_from (programmed media offset src) offset (postimage media offset src) ≡ false
landed-same media offset src =
    let after = programmed media offset src in
    let cells = anded (part media offset (length src)) src in
    ⊎_elim
    (λ w.
    let lc : length cells ≡ length src = keeps src (part media offset (length src)) (length_part media offset (length src) w) in
    let fits : offset + length cells ≤ length after = rw (lc, length-programmed media offset src) w in
    let is : part after offset (length cells) ≡ cells = rw lc (programmed-part media offset src w) in
    rw (post_in media offset src w) ((differs_none after offset cells fits).1 is))
    (λ w. rw (post_out media offset src w) (differs-nothing after offset))
    (le-or-gt (offset + length src) (length media))
