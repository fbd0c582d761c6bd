-- Numbers read digit by digit: what each turn of `digits` and each way out of it and of `read_number` answers.
-- Assumes nothing.
use mathlib.Core.Path.{◌≡◌, refl, sym, ◌∙◌}
use mathlib.Core.Bool.{Bool, true, false, cond, ◌&&◌}
use mathlib.Core.List.{List, [], ◌∷◌}
use Prim.Native.Nat.{ℕ, suc, ◌+◌, ◌-◌, ◌*◌, ◌≤◌, ◌<◌}
use native.Mathlib.Nat.{add-zero}
use native.Mathlib.Omega.{arith}
use lib.ListN.{length, get_or, drop, drop_of_length-le}
use lib.Dec.{eqb, leb}
use borrow.Author.Tests.{eq-eqb, ne_eqb, le-leb, lt-leb, leb-true, leb-false}
use Rattle.basics.proofs.Scans.{at-step}
use Rattle.text.specs.Fields.{Field, field, missing, onto, field_to}
use Rattle.text.specs.Numbers.{largest, is_digit, all_digits, value_from, is_number, number, none, number_of}
use Rattle.text.proofs.Fields.{field_out, field-here, field_step}
use Rattle.text.proofs.Numbers.{not-led}
use Rattle.std.specs.Char.{is_ascii_digit}
use Rattle.std.specs.Prelude.{Option, Some, None}
use Rattle.read_fields.specs.Answers.{number_then, number_at}
use Rattle.read_fields.specs.Inner.{digits_at}

-- ---- the loop of `digits`: what is answered from a place on, and from the next

module _ (from end : ℕ) (s : List ℕ) (n i : ℕ) (e : digits_at from end 0 (drop from s) ≡ digits_at i end n (drop i s)) where
  pub digits-out : length s ≤ i → None ≡ digits_at from end 0 (drop from s)
  unfolding digits_at
  digits-out h = sym (e ∙ rw (drop_of_length-le s {i = i} h))

  module _ (h : i < length s) where
    step : digits_at from end 0 (drop from s) ≡ digits_at i end n (get_or s i 0 ∷ drop (i + 1) s)
    step = e ∙ at-step (digits_at i end n) s i 0 h

    pub digits-here : get_or s i 0 ≡ end → Some (n, i + 1) ≡ digits_at from end 0 (drop from s)
    unfolding digits_at
    digits-here q = sym (step ∙ simp (eq-eqb _ _ q))

    module _ (q : get_or s i 0 ≡ end → ⊥) where
      pub digits-other : is_ascii_digit (get_or s i 0) ≡ false → None ≡ digits_at from end 0 (drop from s)
      unfolding digits_at is_digit
      digits-other t = sym (step ∙ simp (ne_eqb _ _ q, t))

      module _ (t : is_ascii_digit (get_or s i 0) ≡ true) (d : ℕ) (w : d ≡ get_or s i 0 - 48) where
        pub digits-over : 4294967295 < n * 10 + d → None ≡ digits_at from end 0 (drop from s)
        unfolding digits_at is_digit
        digits-over o = sym (step ∙ simp (ne_eqb _ _ q, t) (rw (← w) (simp (lt-leb _ _ o))))

        pub digits-next : n * 10 + d ≤ 4294967295 → digits_at from end 0 (drop from s) ≡ digits_at (i + 1) end (n * 10 + d) (drop (i + 1) s)
        unfolding digits_at is_digit
        digits-next o = step ∙ simp (ne_eqb _ _ q, t) (rw (← w) (simp (le-leb _ _ o)))

-- ---- the loop against the definition

-- digits that follow others of value n, as a field
abbrev digits_in : (at n : ℕ) → Field → Option (ℕ × ℕ)
digits_in at n missing = None
digits_in at n (field f) = cond (all_digits f && leb (value_from n f) largest) (Some (value_from n f, at + length f + 1)) None

-- a value above u32 stays above it
above : (n : ℕ) (f : List ℕ) → n ≤ value_from n f
unfolding value_from
above n [] = omega arith
above n (b ∷ bs) = omega (arith, above (n * 10 + (b - 48)) bs)

and-false : (t : Bool) → (t && false) ≡ false
and-false true = refl
and-false false = refl

over_none : (at n : ℕ) (F : Field) → largest < n → None ≡ digits_in at n F
over_none at n missing h = refl
over_none at n (field f) h =
    let k : largest < value_from n f = omega (arith, above n f) in
    simp (lt-leb _ _ k, and-false)

no_digit : (at n x : ℕ) (F : Field) → is_digit x ≡ false → None ≡ digits_in at n (onto x F)
unfolding all_digits
no_digit at n x missing e = refl
no_digit at n x (field f) e = simp e

one-digit : (at n x : ℕ) (F : Field) → is_digit x ≡ true → digits_in (at + 1) (n * 10 + (x - 48)) F ≡ digits_in at n (onto x F)
unfolding all_digits value_from
one-digit at n x missing e = refl
one-digit at n x (field f) e = let q : at + 1 + length f + 1 ≡ at + suc (length f) + 1 = omega arith in simp (e, q)

digits_step : (t u v : Bool) (at end n x : ℕ) (xs : List ℕ) → eqb x end ≡ t → is_digit x ≡ u → leb (n * 10 + (x - 48)) largest ≡ v → n ≤ largest
    → (n * 10 + (x - 48) ≤ largest → digits_at (at + 1) end (n * 10 + (x - 48)) xs ≡ digits_in (at + 1) (n * 10 + (x - 48)) (field_to end xs))
    → cond t (Some (n, at + 1)) (cond u (cond v (digits_at (at + 1) end (n * 10 + (x - 48)) xs) None) None) ≡ digits_in at n (cond t (field []) (onto x (field_to end xs)))
unfolding all_digits value_from
digits_step true u v at end n x xs a b c h k = simp (le-leb _ _ h, add-zero)
digits_step false false v at end n x xs a b c h k = no_digit at n x (field_to end xs) b
digits_step false true false at end n x xs a b c h k = over_none (at + 1) (n * 10 + (x - 48)) (field_to end xs) (leb-false _ _ c) ∙ one-digit at n x (field_to end xs) b
digits_step false true true at end n x xs a b c h k = k (leb-true _ _ c) ∙ one-digit at n x (field_to end xs) b

digits_are : (at end n : ℕ) (xs : List ℕ) → n ≤ largest → digits_at at end n xs ≡ digits_in at n (field_to end xs)
unfolding digits_at field_to
digits_are at end n [] h = refl
digits_are at end n (x ∷ xs) h = digits_step (eqb x end) (is_digit x) (leb (n * 10 + (x - 48)) largest) at end n x xs refl refl refl h (λ o. digits_are (at + 1) end (n * 10 + (x - 48)) xs o)

-- ---- read_number

picked : (t : Bool) (v next : ℕ) → cond t (Some (v, next)) None ≡ number_then (cond t (number v) none) next
picked true v next = refl
picked false v next = refl

-- digits of which the first is no zero are a number where they fit
no_zero : (at x : ℕ) (F : Field) → (x ≡ 48 → ⊥) → digits_in at 0 (onto x F) ≡ number_at at (onto x F)
unfolding number_of is_number
no_zero at x missing n = refl
no_zero at x (field f) n = rw (not-led x f n) (picked (all_digits (x ∷ f) && leb (value_from 0 (x ∷ f)) largest) (value_from 0 (x ∷ f)) (at + length (x ∷ f) + 1))

-- a zero in front of something
led : (at y : ℕ) (F : Field) → None ≡ number_at at (onto 48 (onto y F))
unfolding number_of is_number
led at y missing = refl
led at y (field f) = simp and-false

empty-none : number_of [] ≡ none
unfolding number_of is_number
empty-none = refl

zero-alone : number_of (48 ∷ []) ≡ number 0
unfolding number_of is_number all_digits is_digit value_from
zero-alone = refl

module _ (s : List ℕ) (from end : ℕ) where
  pub number-out : length s ≤ from → None ≡ number_at from (field_to end (drop from s))
  number-out h = rw (field_out s from end h)

  module _ (h : from < length s) where
    pub number-empty : get_or s from 0 ≡ end → None ≡ number_at from (field_to end (drop from s))
    number-empty q = rw (field-here s from end h q, empty-none)

    module _ (q : get_or s from 0 ≡ end → ⊥) where
      pub number_digits : (get_or s from 0 ≡ 48 → ⊥) → (r : Option (ℕ × ℕ)) → r ≡ digits_at from end 0 (drop from s) → r ≡ number_at from (field_to end (drop from s))
      number_digits n r e =
          let z : 0 ≤ largest = omega arith in
          e ∙ digits_are from end 0 (drop from s) z ∙ rw (field_step s from end h q) (no_zero from (get_or s from 0) (field_to end (drop (from + 1) s)) n)

      module _ (z : get_or s from 0 ≡ 48) where
        by_zero : field_to end (drop from s) ≡ onto 48 (field_to end (drop (from + 1) s))
        by_zero = field_step s from end h q ∙ rw z

        pub number_cut : length s ≤ from + 1 → None ≡ number_at from (field_to end (drop from s))
        number_cut k = rw (by_zero, field_out s (from + 1) end k)

        module _ (k : from + 1 < length s) where
          pub number-led : (get_or s (from + 1) 0 ≡ end → ⊥) → None ≡ number_at from (field_to end (drop from s))
          number-led p = rw (by_zero, field_step s (from + 1) end k p) (led from (get_or s (from + 1) 0) (field_to end (drop (from + 1 + 1) s)))

          pub number-zero : get_or s (from + 1) 0 ≡ end → Some (0, from + 1 + 1) ≡ number_at from (field_to end (drop from s))
          number-zero p = rw (by_zero, field-here s (from + 1) end k p, zero-alone)

-- all of them, for `search (rules, numbers)`
pub ruleset numbers = (digits-out, digits-here, digits-other, digits-over, digits-next, number-out, number-empty, number_digits, number_cut, number-led, number-zero)
