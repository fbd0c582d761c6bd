-- What a callee that was lent `&mut media[offset..offset + n]` left of the part and told of it, said of the media.
--     any-overlaid    a cell of the media changed exactly if one of the part did
--     applied-part    both, as programming and erasing answer
--     unchanged       "changed" is false exactly if the media are as they were
-- Assumes nothing.
use mathlib.Core.Path.{◌≡◌, refl, sym, ap, ◌∙◌}
use mathlib.Core.Logic.{◌↔◌}
use mathlib.Core.Bool.{Bool, false, ◌||◌, or-false}
use mathlib.Core.List.{List, ◌++◌}
use Prim.Native.Nat.{ℕ, ◌+◌, ◌-◌, ◌≤◌}
use lib.ListN.{length, take, drop}
use borrow.Rule.Slice.PartMut.{put_mid}
use Rattle.basics.specs.Parts.{part, overlaid, on_part}
use Rattle.basics.proofs.Parts.{length_part, part-lent, in_three, part-back, length-on}
use Rattle.device.specs.Media.{Applied, applied, any_pair, any_changed, unequal}
use Rattle.device.proofs.Pairs.{any_append, any_same, any_none}

module _ (media : List ℕ) (offset n : ℕ) (fits : offset + n ≤ length media) where
  pub any-overlaid : (cells : List ℕ) → length cells ≡ n → any_changed media (overlaid media offset cells) ≡ any_pair unequal (part media offset n) cells
  unfolding overlaid
  any-overlaid cells l =
      let head = take offset media in
      let tail = drop (offset + n) media in
      ap (λ (m : List ℕ). any_pair unequal m (head ++ (cells ++ drop (offset + length cells) media))) (in_three media offset n fits)
      ∙ any_append unequal head head (part media offset n ++ tail) (cells ++ drop (offset + length cells) media) refl
      ∙ ap (λ (b : Bool). b || any_pair unequal (part media offset n ++ tail) (cells ++ drop (offset + length cells) media)) (any_same head)
      ∙ any_append unequal (part media offset n) cells tail (drop (offset + length cells) media) (length_part media offset n fits ∙ sym l)
      ∙ ap (λ (k : ℕ). any_pair unequal (part media offset n) cells || any_pair unequal tail (drop (offset + k) media)) l
      ∙ ap (λ (b : Bool). any_pair unequal (part media offset n) cells || b) (any_same tail)
      ∙ or-false (any_pair unequal (part media offset n) cells)

  pub applied-part : (cells new : List ℕ) (r : Bool) → length new ≡ n
      → ◌≡◌ {A = Applied} (record { media = cells; changed = r }) (applied (take (offset + n - offset) (drop offset media)) new)
      → ◌≡◌ {A = Applied} (record { media = put_mid offset (offset + n - offset) media cells; changed = r }) (applied media (overlaid media offset new))
  applied-part cells new r l e =
      let m : cells ≡ new = ap (λ (a : Applied). a.media) e in
      let b : r ≡ any_pair unequal (part media offset n) new = rw (← part-lent media offset n fits) (ap (λ (a : Applied). a.changed) e) in
      let q : put_mid offset (offset + n - offset) media cells ≡ overlaid media offset new = rw m (part-back media offset n fits new l) in
      let f : r ≡ any_pair unequal media (overlaid media offset new) = b ∙ sym (any-overlaid new l) in
      cc

pub unchanged : (media : List ℕ) (offset n : ℕ) (f : List ℕ → List ℕ) → ((old : List ℕ) → length old ≡ n → length (f old) ≡ n)
    → (any_changed media (on_part media offset n f) ≡ false) ↔ (on_part media offset n f ≡ media)
unchanged media offset n f keeps = (
  λ e. sym (any_none media (on_part media offset n f) (sym (length-on media offset n f keeps)) e),
  λ e. ap (λ (m : List ℕ). any_pair unequal media m) e ∙ any_same media,
)
