-- What erasing does to the media, for the layers above.
--     length-erased         the media keep their length
--     erased-outside        every span before or after the part is as it was
--     erased-part, erased-inside    the part, and every span in it, is all 0xFF
--     new-part              so is every part of a new device
--     erased-changed        "changed" is false exactly if the media are the same
--     erase-changes         `erase_would_change` answers what erasing tells
--     erased-again          erasing again changes nothing
--     erased-append         some cells and then those that follow them are all of them at once
--     erased-nothing        no cells change nothing
--     erased-whole          erasing all of them leaves a new device's media
--     programmed-erased     bytes over erased cells are stored as they are
-- Assumes nothing.
use mathlib.Core.Path.{◌≡◌, sym, ap, ◌∙◌}
use mathlib.Core.Logic.{◌⊎◌, ⊎_elim, ◌↔◌}
use mathlib.Core.Bool.{false}
use mathlib.Core.List.{List, ◌++◌, append-nil}
use Prim.Native.Nat.{ℕ, ◌+◌, ◌-◌, ◌≤◌, ◌<◌}
use native.Mathlib.Nat.{add-zero, zero-add}
use native.Mathlib.Omega.{arith}
use lib.ListN.{length, get_or, replicate, length-replicate, take-append-drop, replicate-append-replicate, drop_of_length-le}
use lib.Seq.{take_at, drop_at}
use borrow.Author.Tests.{le-leb, lt-leb}
use Rattle.basics.specs.Parts.{part, overlaid}
use Rattle.basics.proofs.Tests.{le-or-gt}
use Rattle.basics.proofs.Parts.{on_in, on_out, length-on, before-part, after-part, at_part, on-twice}
use Rattle.basics.proofs.Spans.{on-split, part-part}
use Rattle.device.specs.Media.{ff, new_media, anded, programmed, erased, any_changed, erase_would_change}
use Rattle.device.proofs.Pairs.{any_same}
use Rattle.device.proofs.Cells.{anded-erased}
use Rattle.device.proofs.Applied.{any-overlaid, unchanged}
use Rattle.device.proofs.Programming.{programmed-part}

filled : (n : ℕ) (cells : List ℕ) → length cells ≡ n → length (replicate n ff) ≡ n
filled n cells e = length-replicate n ff

-- a part of equal cells is so many of them
pub part-replicate : (n o k : ℕ) → o + k ≤ n → part (replicate n ff) o k ≡ replicate k ff
unfolding part
part-replicate n o k h =
    let e : n ≡ o + (k + (n - o - k)) = omega arith in
    let a = replicate o ff in
    let b = replicate k ff in
    let c = replicate (n - o - k) ff in
    let s : replicate n ff ≡ a ++ (b ++ c) =
    ap (λ (m : ℕ). replicate m ff) e ∙ sym (replicate-append-replicate o (k + (n - o - k)) ff) ∙ ap (λ (l : List ℕ). a ++ l) (sym (replicate-append-replicate k (n - o - k) ff)) in
    rw s (rw (drop_at a (b ++ c) o (length-replicate o ff)) (take_at b c k (length-replicate k ff)))

pub new-part : (capacity o k : ℕ) → o + k ≤ capacity → part (new_media capacity) o k ≡ replicate k ff
new-part = part-replicate

module _ (media : List ℕ) (offset n : ℕ) where
  pub length-erased : length (erased media offset n) ≡ length media
  unfolding erased
  length-erased = length-on media offset n (λ cells. replicate n ff) (filled n)

  pub erased-in : offset + n ≤ length media → erased media offset n ≡ overlaid media offset (replicate n ff)
  unfolding erased
  erased-in h = on_in media offset n (λ cells. replicate n ff) h

  pub erased-out : length media < offset + n → erased media offset n ≡ media
  unfolding erased
  erased-out h = on_out media offset n (λ cells. replicate n ff) h

  pub erased-outside : (o k : ℕ) → (o + k ≤ offset) ⊎ (offset + n ≤ o) → part (erased media offset n) o k ≡ part media o k
  unfolding erased
  erased-outside o k =
      ⊎_elim (before-part media offset n (λ cells. replicate n ff) (filled n) o k) (after-part media offset n (λ cells. replicate n ff) (filled n) o k)

  pub erased-part : offset + n ≤ length media → part (erased media offset n) offset n ≡ replicate n ff
  unfolding erased
  erased-part h = at_part media offset n (λ cells. replicate n ff) (filled n) h

  pub erased-inside : (o k : ℕ) → offset + n ≤ length media → offset ≤ o → o + k ≤ offset + n → part (erased media offset n) o k ≡ replicate k ff
  erased-inside o k fits lo hi =
      let after = erased media offset n in
      let e : offset + (o - offset) ≡ o = omega arith in
      let q : part (part after offset n) (o - offset) k ≡ part after o k =
      part-part after offset n (o - offset) k (rw length-erased fits) (omega arith) ∙ ap (λ (m : ℕ). part after m k) e in
      sym q ∙ ap (λ (l : List ℕ). part l (o - offset) k) (erased-part fits) ∙ part-replicate n (o - offset) k (omega arith)

  pub erased-changed : (any_changed media (erased media offset n) ≡ false) ↔ (erased media offset n ≡ media)
  unfolding erased
  erased-changed = unchanged media offset n (λ cells. replicate n ff) (filled n)

  pub erase-changes : erase_would_change media offset n ≡ any_changed media (erased media offset n)
  unfolding erase_would_change
  erase-changes =
      ⊎_elim
      (λ w. rw (le-leb _ _ w, erased-in w) (sym (any-overlaid media offset n w (replicate n ff) (length-replicate n ff))))
      (λ w. rw (lt-leb _ _ w, erased-out w) (sym (any_same media)))
      (le-or-gt (offset + n) (length media))

  pub erased-again : erased (erased media offset n) offset n ≡ erased media offset n
  unfolding erased
  erased-again = on-twice media offset n (λ cells. replicate n ff) (λ cells. replicate n ff) (filled n) (filled n)

pub erased-append : (media : List ℕ) (offset k m : ℕ) → offset + (k + m) ≤ length media
    → erased (erased media offset k) (offset + k) m ≡ erased media offset (k + m)
unfolding erased
erased-append media offset k m h =
    on-split media offset k m (λ cells. replicate k ff) (λ cells. replicate m ff) (λ cells. replicate (k + m) ff) (filled k) (filled m)
    (λ a b la lb. sym (replicate-append-replicate k m ff)) h

pub erased-nothing : (media : List ℕ) (offset : ℕ) → erased media offset 0 ≡ media
unfolding overlaid
erased-nothing media offset =
    ⊎_elim (λ w. erased-in media offset 0 w ∙ rw (add-zero offset) (take-append-drop offset media)) (erased-out media offset 0) (le-or-gt (offset + 0) (length media))

pub erased-whole : (media : List ℕ) → erased media 0 (length media) ≡ new_media (length media)
unfolding overlaid
erased-whole media =
    erased-in media 0 (length media) (rw (zero-add (length media)) (omega arith))
    ∙ rw (length-replicate (length media) ff, zero-add (length media), drop_of_length-le media {i = length media} (omega arith)) (append-nil (replicate (length media) ff))

pub programmed-erased : (media : List ℕ) (offset : ℕ) (src : List ℕ) → offset + length src ≤ length media
    → part media offset (length src) ≡ replicate (length src) ff → ((i : ℕ) → i < length src → get_or src i 0 < 256)
    → part (programmed media offset src) offset (length src) ≡ src
programmed-erased media offset src fits blank bytes =
    programmed-part media offset src fits ∙ ap (λ (l : List ℕ). anded l src) blank ∙ anded-erased src bytes
