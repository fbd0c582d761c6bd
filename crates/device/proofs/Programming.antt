-- What programming does to the media, for the layers above.
--     length-programmed     the media keep their length
--     programmed-outside    every span before or after the part is as it was
--     programmed-part       the part is each cell AND its byte
--     programmed-changed    "changed" is false exactly if the media are the same
--     programmed-again      the same bytes again change nothing
--     programmed-clears     no bit is set that was not: the AND with what was there takes nothing away
--     programmed-append, programmed-prefix    some bytes and then those that follow them are all of them at once
--     programmed-nothing    no bytes change nothing
--     programmed-post       the media with what the write would leave in the part's place
-- Assumes nothing.
use mathlib.Core.Path.{◌≡◌, refl, sym, ap, ap₂, ◌∙◌}
use mathlib.Core.Logic.{◌⊎◌, ⊎_elim, ◌↔◌}
use mathlib.Core.Bool.{false}
use mathlib.Core.List.{List, [], ◌++◌, zip_with}
use Prim.Native.Nat.{ℕ, ◌+◌, ◌≤◌, ◌<◌}
use native.Mathlib.Nat.{add-zero}
use lib.ListN.{length, take, drop, length-append, take-append-drop}
use lib.Seq.{length-take-le}
use borrow.Author.Tests.{le-leb, lt-leb}
use Rattle.basics.specs.Parts.{part, overlaid, on_part}
use Rattle.basics.proofs.Tests.{le-or-gt}
use Rattle.basics.proofs.Parts.{length_part, in_three, on_in, on_out, length-on, before-part, after-part, at_part, on-twice}
use Rattle.basics.proofs.Spans.{on-split}
use Rattle.device.specs.Media.{anded, programmed, any_changed, postimage}
use Rattle.device.proofs.Cells.{length-anded, anded-again, anded-within, anded-same, anded-append}
use Rattle.device.proofs.Applied.{unchanged}

pub keeps : (src cells : List ℕ) → length cells ≡ length src → length (anded cells src) ≡ length src
keeps src cells e = length-anded cells src e ∙ e

module _ (media : List ℕ) (offset : ℕ) (src : List ℕ) where
  pub length-programmed : length (programmed media offset src) ≡ length media
  unfolding programmed
  length-programmed = length-on media offset (length src) (λ cells. anded cells src) (keeps src)

  pub programmed-in : offset + length src ≤ length media → programmed media offset src ≡ overlaid media offset (anded (part media offset (length src)) src)
  unfolding programmed
  programmed-in h = on_in media offset (length src) (λ cells. anded cells src) h

  pub programmed-out : length media < offset + length src → programmed media offset src ≡ media
  unfolding programmed
  programmed-out h = on_out media offset (length src) (λ cells. anded cells src) h

  pub programmed-outside : (o k : ℕ) → (o + k ≤ offset) ⊎ (offset + length src ≤ o) → part (programmed media offset src) o k ≡ part media o k
  unfolding programmed
  programmed-outside o k =
      ⊎_elim (before-part media offset (length src) (λ cells. anded cells src) (keeps src) o k)
      (after-part media offset (length src) (λ cells. anded cells src) (keeps src) o k)

  pub programmed-part : offset + length src ≤ length media → part (programmed media offset src) offset (length src) ≡ anded (part media offset (length src)) src
  unfolding programmed
  programmed-part h = at_part media offset (length src) (λ cells. anded cells src) (keeps src) h

  pub programmed-changed : (any_changed media (programmed media offset src) ≡ false) ↔ (programmed media offset src ≡ media)
  unfolding programmed
  programmed-changed = unchanged media offset (length src) (λ cells. anded cells src) (keeps src)

  pub programmed-again : programmed (programmed media offset src) offset src ≡ programmed media offset src
  unfolding programmed
  programmed-again =
      on-twice media offset (length src) (λ cells. anded cells src) (λ cells. anded cells src) (keeps src) (keeps src)
      ∙ ap (on_part media offset (length src)) (λ i cells. anded-again cells src i)

  pub programmed-clears : anded (programmed media offset src) media ≡ programmed media offset src
  unfolding overlaid
  programmed-clears =
      ⊎_elim
      (λ w.
      let head = take offset media in
      let old = part media offset (length src) in
      let new = anded old src in
      let tail = drop (offset + length src) media in
      let lo : length old ≡ length src = length_part media offset (length src) w in
      let ln : length new ≡ length src = keeps src old lo in
      let e : programmed media offset src ≡ head ++ (new ++ tail) = programmed-in w ∙ rw ln refl in
      let t : media ≡ head ++ (old ++ tail) = in_three media offset (length src) w in
      ap₂ anded e t
      ∙ anded-append head head (new ++ tail) (old ++ tail) refl
      ∙ ap₂ (λ (x y : List ℕ). x ++ y) (anded-same head) (anded-append new old tail tail (ln ∙ sym lo) ∙ ap₂ (λ (x y : List ℕ). x ++ y) (anded-within old src) (anded-same tail))
      ∙ sym e)
      (λ w. rw (programmed-out w) (anded-same media))
      (le-or-gt (offset + length src) (length media))

  pub programmed-post : programmed media offset src ≡ overlaid media offset (postimage media offset src)
  unfolding postimage overlaid
  programmed-post =
      ⊎_elim
      (λ w. rw (le-leb (offset + length src) (length media) w) (programmed-in w))
      (λ w. rw (lt-leb (offset + length src) (length media) w, add-zero offset) (programmed-out w ∙ sym (take-append-drop offset media)))
      (le-or-gt (offset + length src) (length media))

pub programmed-append : (media : List ℕ) (offset : ℕ) (a b : List ℕ) → offset + length (a ++ b) ≤ length media
    → programmed (programmed media offset a) (offset + length a) b ≡ programmed media offset (a ++ b)
unfolding programmed
programmed-append media offset a b h =
    let n : length (a ++ b) ≡ length a + length b = length-append a b in
    rw n (on-split media offset (length a) (length b) (λ cells. anded cells a) (λ cells. anded cells b) (λ cells. anded cells (a ++ b)) (keeps a) (keeps b)
    (λ x y lx ly. anded-append x a y b lx) (rw n at h))

pub programmed-prefix : (media : List ℕ) (offset : ℕ) (src : List ℕ) (k : ℕ) → k ≤ length src → offset + length src ≤ length media
    → programmed (programmed media offset (take k src)) (offset + k) (drop k src) ≡ programmed media offset src
programmed-prefix media offset src k h fits =
    ap (λ (n : ℕ). programmed (programmed media offset (take k src)) (offset + n) (drop k src)) (sym (length-take-le k src h))
    ∙ programmed-append media offset (take k src) (drop k src) (rw (take-append-drop k src) fits)
    ∙ ap (programmed media offset) (take-append-drop k src)

pub programmed-nothing : (media : List ℕ) (offset : ℕ) → programmed media offset [] ≡ media
unfolding overlaid anded zip_with part
programmed-nothing media offset =
    ⊎_elim (λ w. programmed-in media offset [] w ∙ rw (add-zero offset) (take-append-drop offset media)) (programmed-out media offset []) (le-or-gt (offset + 0) (length media))
