-- What the answer means.
--     number_is        the answer's number is the columns' number, else 25, 26 or 0
--     given-alone      of columns that are not refused, a run is given exactly if `held_number` is 0
--     never-refused    and a relabelled one always
--     alike-equal, equal-alike   a run differs in none of what is asked exactly if the lists are equal
-- Assumes nothing.
use mathlib.Core.Path.{◌≡◌, refl, sym, ap, ◌∙◌}
use mathlib.Core.Bool.{Bool, true, false, ◌&&◌}
use mathlib.Core.List.{[], ◌∷◌}
use Prim.Native.Nat.{ℕ}
use lib.Dec.{eqb}
use borrow.Author.Tests.{eq-eqb, ne_eqb, eqb-true, eqb-false}
use Rattle.std.specs.Prelude.{Ok, Err}
use Rattle.basics.specs.Tests.{first_of}
use Rattle.basics.proofs.Tests.{first_of-pass, first_of-stop, first_of-one}
use Rattle.inject.specs.declared.Injection.{Injection}
use Rattle.held.specs.declared.Held.TheVariants.{Relabelled}
use Rattle.held.specs.Held.{Recorded, is_relabelled, same, same_op, same_mark, ops_through, digests_through, marks_through, same_through, held_number, held_test, number_of_held, kept_unless, held_by, held_call}
use Rattle.held.proofs.Alike.{both, same_true, same_self, op-true, op_self, mark-true, mark-self}

-- ---- the number

number_of : (n : ℕ) (b : Bool) → eqb n 0 ≡ b → number_of_held (kept_unless n) ≡ n
number_of n true e = rw e (sym (eqb-true n 0 e))
number_of n false e = rw e

module _ (j : Injection) (f r : Recorded) where
  abbrev relabelled : Bool
  relabelled = is_relabelled j f.counters.operations

  zero-where : relabelled ≡ true → held_number j f r ≡ 0
  unfolding held_number
  zero-where e = rw e

  number_by : (b : Bool) → relabelled ≡ b → number_of_held (held_by j f r) ≡ held_number j f r
  number_by true e = rw e (sym (zero-where e))
  number_by false e = rw e (number_of (held_number j f r) (eqb (held_number j f r) 0) refl)

  -- columns that are not refused
  pub unrefused : held_test f r ≡ 0 → held_call j f r ≡ held_by j f r
  unfolding held_call
  unrefused z = simp (eq-eqb (held_test f r) 0 z)

  refused : (held_test f r ≡ 0 → ⊥) → held_call j f r ≡ Err (held_test f r)
  unfolding held_call
  refused n = simp (ne_eqb (held_test f r) 0 n)

  pub number_is : number_of_held (held_call j f r) ≡ first_of (held_test f r ∷ held_number j f r ∷ [])
  number_is = by (eqb (held_test f r) 0) refl
    where
      by : (b : Bool) → eqb (held_test f r) 0 ≡ b → number_of_held (held_call j f r) ≡ first_of (held_test f r ∷ held_number j f r ∷ [])
      by true e =
          let z = eqb-true (held_test f r) 0 e in
          ap number_of_held (unrefused z) ∙ number_by relabelled refl
          ∙ sym (first_of-pass (held_test f r) (held_number j f r ∷ []) z ∙ first_of-one (held_number j f r))
      by false e =
          let n = eqb-false (held_test f r) 0 e in
          ap number_of_held (refused n) ∙ sym (first_of-stop (held_test f r) (held_number j f r ∷ []) n)

  module _ (z : held_test f r ≡ 0) where
    pub given-alone : number_of_held (held_call j f r) ≡ held_number j f r
    given-alone = ap number_of_held (unrefused z) ∙ number_by relabelled refl

    pub never-refused : relabelled ≡ true → held_call j f r ≡ Ok Relabelled
    never-refused e = unrefused z ∙ rw e

-- ---- two runs

module _ (through : ℕ) (f r : Recorded) where
  pub alike-equal : same_through through f r ≡ true
      → (ops_through through f ≡ ops_through through r) × (digests_through through f ≡ digests_through through r) × (marks_through through f ≡ marks_through through r)
  unfolding same_through
  alike-equal e =
      let a : Bool = same same_op (ops_through through f) (ops_through through r) in
      let b : Bool = same eqb (digests_through through f) (digests_through through r) in
      let m : Bool = same same_mark (marks_through through f) (marks_through through r) in
      let t = both (a && b) m e in
      let u = both a b t.0 in
      (same_true same_op op-true _ _ u.0, same_true eqb eqb-true _ _ u.1, same_true same_mark mark-true _ _ t.1)

  pub equal-alike : ops_through through f ≡ ops_through through r → digests_through through f ≡ digests_through through r
      → marks_through through f ≡ marks_through through r → same_through through f r ≡ true
  unfolding same_through
  equal-alike p q m =
      rw (p, q, m, same_self same_op op_self (ops_through through r), same_self eqb (λ x. eq-eqb x x refl) (digests_through through r), same_self same_mark mark-self (marks_through through r))
