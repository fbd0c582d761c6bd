-- The bytes that did not land, compared with the media as they are now.
--     out-past     a place past the media has none
--     out-part     any other: the part is cut to the media's length
-- Assumes nothing.
use mathlib.Core.Path.{◌≡◌, refl, sym, ap, ◌∙◌}
use mathlib.Core.Logic.{⊎_elim}
use mathlib.Core.Bool.{Bool, false}
use mathlib.Core.List.{List, []}
use Prim.Native.Nat.{ℕ, ◌+◌, ◌-◌, ◌≤◌, ◌<◌, min}
use native.Mathlib.Omega.{arith}
use lib.ListN.{length, take, drop, length-drop, drop_of_length-le}
use lib.Seq.{length-take-le, take_all, take-nil}
use borrow.Author.Tests.{le-leb}
use Rattle.basics.specs.Parts.{part}
use Rattle.basics.proofs.Tests.{le-or-gt}
use Rattle.device.specs.Media.{any_pair, unequal, differs_from}
use Rattle.session.specs.declared.Counters.{Counters}
use Rattle.ledger.specs.Ledger.{outstanding}
use Rattle.records.proofs.Clips.{min-lt, min-le}

none : (l : List ℕ) → any_pair unequal [] l ≡ false
unfolding any_pair
none l = refl

-- no more is taken than there is
cut : (l : List ℕ) (offset n : ℕ) → take n (drop offset l) ≡ take (min n (length l - offset)) (drop offset l)
cut l offset n =
    ⊎_elim
    (λ (h : length l - offset ≤ n).
    let r : length (drop offset l) ≤ length l - offset = rw length-drop (omega arith) in
    let q : length (drop offset l) ≤ n = rw length-drop h in
    rw (min-le n (length l - offset) h) (take_all n (drop offset l) q ∙ sym (take_all (length l - offset) (drop offset l) r)))
    (λ (h : n < length l - offset). rw (min-lt n (length l - offset) h)) (le-or-gt (length l - offset) n)

min-right : (a b : ℕ) → min a b ≤ b
min-right a b = omega arith

module _ (c : Counters) (media copy : List ℕ) where
  pub out-past : length media ≤ c.place → false ≡ outstanding c media copy
  unfolding outstanding part
  out-past h =
      sym
      (ap (λ (l : List ℕ). any_pair unequal (take c.withheld l) (take c.withheld (drop c.place copy))) (drop_of_length-le media h)
      ∙ ap (λ (l : List ℕ). any_pair unequal l (take c.withheld (drop c.place copy))) (take-nil c.withheld)
      ∙ none (take c.withheld (drop c.place copy)))

  pub out-part : length copy ≡ length media → c.place < length media → (len : ℕ) → len ≡ min c.withheld (length media - c.place)
      → (r : Bool) → r ≡ differs_from media c.place (take (c.place + len - c.place) (drop c.place copy)) → r ≡ outstanding c media copy
  unfolding outstanding part differs_from
  out-part e h len q r w =
      let at = c.place in
      let n : at + len - at ≡ len = omega arith in
      let below : len ≤ length media - at = rw q (min-right c.withheld (length media - at)) in
      let l : length (take len (drop at copy)) ≡ len = length-take-le len (drop at copy) (rw (length-drop, e) below) in
      let fits : at + len ≤ length media = omega arith in
      let m : take c.withheld (drop at media) ≡ take len (drop at media) = cut media at c.withheld ∙ ap (λ (k : ℕ). take k (drop at media)) (sym q) in
      let k : take c.withheld (drop at copy) ≡ take len (drop at copy) =
      cut copy at c.withheld ∙ ap (λ (x : ℕ). take (min c.withheld (x - at)) (drop at copy)) e ∙ ap (λ (x : ℕ). take x (drop at copy)) (sym q) in
      w ∙ rw (n, l, le-leb (at + len) (length media) fits, m, k)
