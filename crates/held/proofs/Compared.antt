-- `eq` of two iterators, by the lists that they give: a test of two elements decides whether they are equal, and so does it of the lists.
-- Assumes nothing.
use mathlib.Core.Path.{◌≡◌, refl, sym, ap, ap₂, ◌∙◌}
use mathlib.Core.Bool.{Bool, true, false, true≢false}
use mathlib.Core.List.{List, [], ◌∷◌, map}
use Prim.Native.Nat.{ℕ, zero, suc, ◌<◌}
use native.Mathlib.Nat.{not-suc-le-zero, le_of_suc-le-suc}
use native.Mathlib.Omega.{arith}
use lib.ListN.{length, get_or}
use Rattle.std.specs.Prelude.{Option, Some, None}
use Rattle.std.specs.Option.{MatchOption, IfSome}
use Rattle.std.specs.List.{AllZip}
use Rattle.std.specs.Iterator.{ComparesItemsByEq}
use Rattle.std.proofs.lemmas.Iterator.{YieldsList}
use Rattle.std.proofs.lemmas.Iterator.Consumers.{YieldsList-at, YieldsList-turn, YieldsList-end}
use Rattle.std.proofs.lemmas.List.Elements.{length_all_zip}
use Rattle.held.specs.Held.{same}
use Rattle.held.proofs.Alike.{same-lengths, same_true, same_self, not-true}

get-any : {B : Type 0} (xs : List B) (n : ℕ) (d e : B) → n < length xs → get_or xs n d ≡ get_or xs n e
get-any [] n d e h = absurd (not-suc-le-zero h)
get-any (x ∷ xs) zero d e h = refl
get-any (x ∷ xs) (suc n) d e h = get-any xs n d e (le_of_suc-le-suc h)

module _ {A B : Type 0} (read : A → B) (test : B → B → Bool) (one : (x y : B) → test x y ≡ true → x ≡ y) (self : (x : B) → test x x ≡ true)
    (eq : A → A → Bool) (told : (x y : A) → eq x y ≡ test (read x) (read y)) where
  zipped : (xs ys : List A) → AllZip (λ x y. eq x y ≡ true) xs ys → map read xs ≡ map read ys
  zipped [] [] z = refl
  zipped [] (y ∷ ys) z = absurd z
  zipped (x ∷ xs) [] z = absurd z
  zipped (x ∷ xs) (y ∷ ys) z = ap₂ (λ (b : B) (bs : List B). b ∷ bs) (one (read x) (read y) (sym (told x y) ∙ z.0)) (zipped xs ys z.1)

  module _ {S T : Type 0} {steps : S → Option A → S → Type 0} {others : T → Option A → T → Type 0} (becomes : T → T → Type 0) (s : S) (t : T) (r : Bool) (c : ComparesItemsByEq steps becomes others s t eq r) (stays : (it : T) → becomes t it → it ≡ t)
      (left right : List B) (y : YieldsList steps read s left) (z : YieldsList others read t right) where
    pub compared : r ≡ same test left right
    compared = step c.3 c.4 c.8.2 c.9.2 c.11
      where
        w : YieldsList others read c.0 right
        w = YieldsList-at (stays c.0 c.7) z

        long : length c.1 ≡ length c.2
        long = length_all_zip (λ x y. eq x y ≡ true) c.1 c.2 c.10

        step : (o p : Option A) → steps c.8.0 o c.5 → others c.9.0 p c.6
            → MatchOption o (MatchOption p (r ≡ true) (λ _. r ≡ false)) (λ x. (r ≡ false) × IfSome p (λ y. eq x y ≡ false)) → r ≡ same test left right
        step None None h k m =
            let e = YieldsList-end y c.1 c.8.0 c.8.1 None c.5 refl h in
            let g = YieldsList-end w c.2 c.9.0 c.9.1 None c.6 refl k in
            m ∙ sym (same_self test self left) ∙ ap (same test left) (sym e.0 ∙ zipped c.1 c.2 c.10 ∙ g.0)
        step None (Some b) h k m =
            let e = YieldsList-end y c.1 c.8.0 c.8.1 None c.5 refl h in
            let g = YieldsList-turn w c.2 c.9.0 c.9.1 (Some b) c.6 b refl k in
            m ∙ same-lengths test left right (λ q. omega (arith, q, e.1, g.0, long))
        step (Some a) None h k m =
            let e = YieldsList-turn y c.1 c.8.0 c.8.1 (Some a) c.5 a refl h in
            let g = YieldsList-end w c.2 c.9.0 c.9.1 None c.6 refl k in
            m.0 ∙ same-lengths test left right (λ q. omega (arith, q, e.0, g.1, long))
        step (Some a) (Some b) h k m =
            let e = YieldsList-turn y c.1 c.8.0 c.8.1 (Some a) c.5 a refl h in
            let g = YieldsList-turn w c.2 c.9.0 c.9.1 (Some b) c.6 b refl k in
            m.0 ∙ sym (not-true (same test left right) (λ q.
            let l = same_true test one left right q in
            let v : read a ≡ read b =
            e.1 ∙ ap (λ (bs : List B). get_or bs (length c.1) (read a)) l ∙ ap (λ (n : ℕ). get_or right n (read a)) long ∙ get-any right (length c.2) (read a) (read b) g.0 ∙ sym g.1 in
            true≢false (sym (self (read b)) ∙ ap (λ (x : B). test x (read b)) (sym v) ∙ sym (told a b) ∙ m.1)))
