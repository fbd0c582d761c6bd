-- The whole list, from its opening point through its four parts: what the public functions answer. Assumes nothing.
use mathlib.Core.Path.{◌≡◌, refl, sym, ap, ◌∙◌}
use mathlib.Core.Bool.{true}
use mathlib.Core.List.{List, [], ◌∷◌, ◌++◌}
use Prim.Native.Nat.{ℕ, zero, suc, ◌+◌}
use native.Mathlib.Nat.{suc-ne-zero}
use native.Mathlib.Omega.{arith}
use lib.ListN.{length, replicate, length-append, length-replicate}
use borrow.Author.Tests.{ne_eqb, lt-ltb, le-ltb}
use Rattle.std.specs.Prelude.{Result, Ok, Err}
use Rattle.basics.specs.Tests.{unless, first_of}
use Rattle.basics.specs.Replies.{answered}
use Rattle.storage.specs.declared.Geometry.{Geometry}
use Rattle.inject.specs.declared.Interruption.TheVariants.{PowerLoss, Watchdog, Failure}
use Rattle.inject.specs.declared.Injection.{Injection}
use Rattle.inject.specs.Ops.{ops_of}
use Rattle.inject.specs.Points.{under, lone, opening, injections_of}
use Rattle.inject.specs.Answers.{list_test, points_of, found}
use Rattle.inject.specs.Steps.{Sound, Sought, lone_point, lone_for, sought, onward}
use Rattle.inject.proofs.Searches.{onward-next, sought-at, sought-beyond}

-- ---- the point that only an empty list has

pub lone-for : (ks os ls : List ℕ) → length ks ≡ length os → length ks ≡ length ls → lone (ops_of ks os ls) ≡ lone_for (length ks)
unfolding lone ops_of
lone-for [] os ls h k = refl
lone-for (a ∷ ks) [] ls h k = absurd (omega arith)
lone-for (a ∷ ks) (b ∷ os) [] h k = absurd (omega arith)
lone-for (a ∷ ks) (b ∷ os) (d ∷ ls) h k = refl

-- ---- a sound list's points, part by part

module _ (g : Geometry) (ks os ls : List ℕ) (s : Sound g ks os ls) where
  pub parts : points_of g ks os ls
      ≡ opening
      ∷ (under g PowerLoss 0 (ops_of ks os ls)
      ++ (lone_for (length ks) ++ (under g Watchdog 0 (ops_of ks os ls) ++ under g Failure 0 (ops_of ks os ls))))
  unfolding injections_of
  parts = rw (lone-for ks os ls s.offsets-equal s.lens-equal)

  pub whole-count : (a b d e : ℕ) → a ≡ length (under g PowerLoss 0 (ops_of ks os ls)) → replicate b lone_point ≡ lone_for (length ks)
      → d ≡ length (under g Watchdog 0 (ops_of ks os ls)) → e ≡ length (under g Failure 0 (ops_of ks os ls))
      → 1 + a + b + d + e ≡ length (points_of g ks os ls)
  whole-count a b d e x y z w =
      let alone : b ≡ length (lone_for (length ks)) = sym (length-replicate b lone_point) ∙ ap length y in
      sym (ap length parts ∙ simp (length-append) (omega arith))

  -- five searches, one after the other
  pub whole-search : (n : ℕ) (a b d e f : Sought) → a ≡ onward (Err n) (opening ∷ []) → b ≡ onward a (under g PowerLoss 0 (ops_of ks os ls))
      → d ≡ onward b (lone_for (length ks)) → e ≡ onward d (under g Watchdog 0 (ops_of ks os ls))
      → f ≡ onward e (under g Failure 0 (ops_of ks os ls)) → f ≡ sought (points_of g ks os ls) n
  whole-search n a b d e f p q r t u =
      let lost = under g PowerLoss 0 (ops_of ks os ls) in
      let alone = lone_for (length ks) in
      let reset = under g Watchdog 0 (ops_of ks os ls) in
      let failed = under g Failure 0 (ops_of ks os ls) in
      sym (ap (λ (xs : List Injection). sought xs n) parts
      ∙ onward-next (Err n) a (opening ∷ []) (lost ++ (alone ++ (reset ++ failed))) p
      ∙ onward-next a b lost (alone ++ (reset ++ failed)) q
      ∙ onward-next b d alone (reset ++ failed) r
      ∙ onward-next d e reset failed t
      ∙ sym u)

-- ---- what is answered

-- an answer tells the number that the tests gave
pub was-refused : {T : Type 0} → (number : ℕ) (x : T) (n : ℕ) → answered number x ≡ Err n → (number ≡ n) × (n ≡ 0 → ⊥)
was-refused {T} zero x n e = absurd (let q : ◌≡◌ {A = Result T ℕ} (Ok x) (Err n) = e in cc)
was-refused {T} (suc k) x n e =
    let q : ◌≡◌ {A = Result T ℕ} (Err (suc k)) (Err n) = rw (ne_eqb (suc k) 0 (suc-ne-zero k)) at e in
    let s : suc k ≡ n = cc in
    (s, λ z. suc-ne-zero k (s ∙ z))

pub was-taken : {T : Type 0} → (number : ℕ) (x y : T) → answered number x ≡ Ok y → (number ≡ 0) × (y ≡ x)
was-taken {T} zero x y e = (refl, let q : ◌≡◌ {A = Result T ℕ} (Ok x) (Ok y) = e in cc)
was-taken {T} (suc k) x y e = absurd (let q : ◌≡◌ {A = Result T ℕ} (Err (suc k)) (Ok y) = rw (ne_eqb (suc k) 0 (suc-ne-zero k)) at e in cc)

module _ (g : Geometry) (ks os ls : List ℕ) (place : ℕ) where
  pub place-refused : (number : ℕ) → number ≡ list_test g ks os ls true → (number ≡ 0 → ⊥) → Err number ≡ found g ks os ls place
  unfolding first_of
  place-refused number told h = simp (sym told, ne_eqb number 0 h)

  module _ (told : 0 ≡ list_test g ks os ls true) where
    pub place_found : (p : Injection) → sought (points_of g ks os ls) place ≡ Ok p → Ok p ≡ found g ks os ls place
    unfolding first_of unless
    place_found p e =
        let at = sought-at (points_of g ks os ls) place p opening e in
        simp (sym told, lt-ltb _ _ at.0, at.1)

    pub place-past : (m : ℕ) → sought (points_of g ks os ls) place ≡ Err m → Err 11 ≡ found g ks os ls place
    unfolding first_of unless
    place-past m e = simp (sym told, le-ltb _ _ (sought-beyond (points_of g ks os ls) place m e))
