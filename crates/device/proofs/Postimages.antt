-- `postimage_of`, by its three ways out.
--     post-outside    the part is not all in the media: no cells
--     post-short      the buffer is shorter than the cells
--     post-written    the cells stand at the buffer's start
-- Assumes nothing.
use mathlib.Core.Path.{◌≡◌, sym, ap, ◌∙◌}
use mathlib.Core.List.{List, ◌++◌}
use Prim.Native.Nat.{ℕ, ◌+◌, ◌≤◌, ◌<◌}
use native.Mathlib.Nat.{zero-add}
use native.Mathlib.Omega.{arith}
use lib.ListN.{length, drop}
use borrow.Author.Tests.{le-leb, lt-leb}
use Rattle.basics.specs.Parts.{part, overlaid}
use Rattle.basics.proofs.Parts.{length_part}
use Rattle.std.specs.Prelude.{Ok, Err}
use Rattle.device.specs.Media.{anded, postimage}
use Rattle.device.specs.Answers.{Copied, copied}
use Rattle.device.proofs.Cells.{length-anded}

module _ (media : List ℕ) (offset : ℕ) (src buffer : List ℕ) where
  pub post-outside : length media < offset + length src
      → ◌≡◌ {A = Copied} (record { answer = Ok 0; buffer = buffer }) (copied buffer (postimage media offset src))
  unfolding postimage overlaid
  post-outside h = rw (lt-leb (offset + length src) (length media) h, le-leb 0 (length buffer) (omega arith))

  module _ (fits : offset + length src ≤ length media) where
    cells : List ℕ
    cells = anded (part media offset (length src)) src

    post_is : postimage media offset src ≡ cells
    unfolding postimage cells
    post_is = rw (le-leb (offset + length src) (length media) fits)

    length-post : length (postimage media offset src) ≡ length src
    unfolding cells
    length-post =
        let l : length (part media offset (length src)) ≡ length src = length_part media offset (length src) fits in
        ap length post_is ∙ length-anded (part media offset (length src)) src l ∙ l

    pub post-short : length buffer < length src
        → ◌≡◌ {A = Copied} (record { answer = Err 13; buffer = buffer }) (copied buffer (postimage media offset src))
    post-short h = rw (lt-leb (length (postimage media offset src)) (length buffer) (rw length-post h))

    pub post-written : (new : List ℕ) → length src ≤ length buffer → new ≡ anded (part media offset (length src)) src
        → ◌≡◌ {A = Copied} (record { answer = Ok (length src); buffer = new ++ drop (length src) buffer }) (copied buffer (postimage media offset src))
    unfolding overlaid cells
    post-written new h e =
        let is : new ≡ postimage media offset src = e ∙ sym post_is in
        rw (le-leb (length (postimage media offset src)) (length buffer) (rw length-post h), is, length-post, zero-add (length src))
