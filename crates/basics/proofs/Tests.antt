-- Tests that refuse by a number: from the code's branches to the number, and from a number that is 0 back to what holds.
--     unless_holds, unless-fails   one test, passed or failed
--     refuse-if, refuse-not        one fault, there or not
--     first_of-pass, first_of-stop   a list of tests, past one that is 0 or stopped at one that is not
--     first_of-one, first_of-rest, first_of-next, first_of-past, first_of-within   a list of tests, told in two steps
--     unless-le, refuse-le, first_of-le, first_of-none   how large the number may be
--     unless-zero, refuse-zero, first_of-zero    what an unrefused call knows
-- Assumes nothing.
use mathlib.Core.Path.{◌≡◌, refl, ap, ◌∙◌}
use mathlib.Core.Logic.{◌⊎◌, inl, inr}
use mathlib.Core.Bool.{Bool, true, false}
use mathlib.Core.List.{List, [], ◌∷◌, ◌++◌}
use Prim.Native.Nat.{ℕ, zero, suc, ◌≤◌, ◌<◌, zero-le}
use native.Mathlib.Nat.{suc-ne-zero, lt_of_not-le}
use native.Mathlib.Decide.{dec_le}
use borrow.Author.Tests.{eq-eqb, ne_eqb}
use Rattle.basics.specs.Tests.{unless, refuse_if, first_of}

pub unless_holds : (b : Bool) (n : ℕ) → b ≡ true → unless b n ≡ 0
unfolding unless
unless_holds b n e = rw e

pub unless-fails : (b : Bool) (n : ℕ) → b ≡ false → unless b n ≡ n
unfolding unless
unless-fails b n e = rw e

-- a test whose number is not 0 passed exactly if it gives 0
pub unless-zero : (b : Bool) (n : ℕ) → unless b (suc n) ≡ 0 → b ≡ true
unfolding unless
unless-zero true n e = refl
unless-zero false n e = absurd (suc-ne-zero n e)

pub refuse-if : (b : Bool) (n : ℕ) → b ≡ true → refuse_if b n ≡ n
unfolding refuse_if
refuse-if b n e = rw e

pub refuse-not : (b : Bool) (n : ℕ) → b ≡ false → refuse_if b n ≡ 0
unfolding refuse_if
refuse-not b n e = rw e

-- a fault whose number is not 0 is absent exactly if it gives 0
pub refuse-zero : (b : Bool) (n : ℕ) → refuse_if b (suc n) ≡ 0 → b ≡ false
unfolding refuse_if
refuse-zero true n e = absurd (suc-ne-zero n e)
refuse-zero false n e = refl

pub first_of-pass : (n : ℕ) (ns : List ℕ) → n ≡ 0 → first_of (n ∷ ns) ≡ first_of ns
unfolding first_of
first_of-pass n ns e = simp (eq-eqb n 0 e)

pub first_of-stop : (n : ℕ) (ns : List ℕ) → (n ≡ 0 → ⊥) → first_of (n ∷ ns) ≡ n
unfolding first_of
first_of-stop n ns e = simp (ne_eqb n 0 e)

-- one test alone
pub first_of-one : (n : ℕ) → first_of (n ∷ []) ≡ n
unfolding first_of
first_of-one zero = refl
first_of-one (suc n) = simp (ne_eqb (suc n) 0 (suc-ne-zero n))

-- the tests after the first may be taken together
pub first_of-rest : (n : ℕ) (ns : List ℕ) → first_of (n ∷ first_of ns ∷ []) ≡ first_of (n ∷ ns)
unfolding first_of
first_of-rest n ns = simp (first_of-one (first_of ns))

-- the code's way to take several tests: the number of those after the first, and then both
pub first_of-next : (n : ℕ) (ns : List ℕ) (m r : ℕ) → m ≡ first_of ns → r ≡ first_of (n ∷ m ∷ []) → r ≡ first_of (n ∷ ns)
first_of-next n ns m r e q = q ∙ ap (λ (x : ℕ). first_of (n ∷ x ∷ [])) e ∙ first_of-rest n ns

-- no test of a list refuses exactly if neither the first nor one after it does
pub first_of-zero : (n : ℕ) (ns : List ℕ) → first_of (n ∷ ns) ≡ 0 → (n ≡ 0) × (first_of ns ≡ 0)
unfolding first_of
first_of-zero zero ns e = (refl, e)
first_of-zero (suc n) ns e = absurd (suc-ne-zero n (rw (ne_eqb (suc n) 0 (suc-ne-zero n)) at e))

-- a list of tests in two parts: past a first part that refuses nothing, or stopped in it
pub first_of-past : (ms ns : List ℕ) → first_of ms ≡ 0 → first_of (ms ++ ns) ≡ first_of ns
first_of-past [] ns e = refl
first_of-past (m ∷ ms) ns e =
    let z = first_of-zero m ms e in
    first_of-pass m (ms ++ ns) z.0 ∙ first_of-past ms ns z.1

pub first_of-within : (ms ns : List ℕ) → (first_of ms ≡ 0 → ⊥) → first_of (ms ++ ns) ≡ first_of ms
unfolding first_of
first_of-within [] ns h = absurd (h refl)
first_of-within (zero ∷ ms) ns h = first_of-within ms ns h
first_of-within (suc m ∷ ms) ns h = simp (ne_eqb (suc m) 0 (suc-ne-zero m))

-- ---- how large a number a list of tests may give

pub unless-le : (b : Bool) (n m : ℕ) → n ≤ m → unless b n ≤ m
unfolding unless
unless-le true n m h = zero-le
unless-le false n m h = h

pub refuse-le : (b : Bool) (n m : ℕ) → n ≤ m → refuse_if b n ≤ m
unfolding refuse_if
refuse-le true n m h = h
refuse-le false n m h = zero-le

pub first_of-le : (n : ℕ) (ns : List ℕ) (m : ℕ) → n ≤ m → first_of ns ≤ m → first_of (n ∷ ns) ≤ m
first_of-le zero ns m h k = rw (first_of-pass 0 ns refl) k
first_of-le (suc n) ns m h k = rw (first_of-stop (suc n) ns (suc-ne-zero n)) h

pub first_of-none : (m : ℕ) → first_of [] ≤ m
unfolding first_of
first_of-none m = zero-le

-- ----

-- one of two numbers is at most the other, or above it
pub le-or-gt : (a b : ℕ) → (a ≤ b) ⊎ (b < a)
le-or-gt a b = go (dec_le a b)
  where
    go : Dec (a ≤ b) → (a ≤ b) ⊎ (b < a)
    go (yes h) = inl h
    go (no h) = inr (lt_of_not-le h)
