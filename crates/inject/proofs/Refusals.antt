-- The tests of a list of operations: what each way out of `refuse` answers, and what a list that passes satisfies.
-- Assumes nothing.
use mathlib.Core.Path.{◌≡◌, refl, sym, ◌∙◌}
use mathlib.Core.Bool.{Bool, true, false, not, ◌&&◌, ◌||◌}
use mathlib.Core.List.{List, [], ◌∷◌}
use Prim.Native.Nat.{ℕ, ◌≤◌, ◌<◌}
use lib.ListN.{length}
use lib.Dec.{eqb, leb}
use Rattle.std.proofs.lemmas.Bool.{false≢true}
use borrow.Author.Tests.{ne_eqb, eqb-true, leb-true, le-leb, lt-leb}
use Rattle.basics.specs.Tests.{unless, first_of}
use Rattle.basics.proofs.Tests.{first_of-zero, unless-zero}
use Rattle.storage.specs.declared.Geometry.{Geometry}
use Rattle.storage.specs.Geometry.{geometry_test}
use Rattle.inject.specs.Ops.{known}
use Rattle.inject.specs.Answers.{most, list_test}
use Rattle.inject.specs.Steps.{Sound}

-- ---- the four tests of the columns, at once

malformed : (a b e k : Bool) (ns : List ℕ) → (not (a && b && e) || not k) ≡ true → 12 ≡ first_of (0 ∷ unless a 12 ∷ unless b 12 ∷ unless e 12 ∷ unless k 12 ∷ ns)
unfolding first_of unless
malformed false b e k ns h = refl
malformed true false e k ns h = refl
malformed true true false k ns h = refl
malformed true true true false ns h = refl
malformed true true true true ns h = absurd (false≢true h)

well-formed : (a b e k : Bool) (ns : List ℕ) → (not (a && b && e) || not k) ≡ false → first_of ns ≡ first_of (0 ∷ unless a 12 ∷ unless b 12 ∷ unless e 12 ∷ unless k 12 ∷ ns)
unfolding first_of unless
well-formed true true true true ns h = refl
well-formed false b e k ns h = absurd (false≢true (sym h))
well-formed true false e k ns h = absurd (false≢true (sym h))
well-formed true true false k ns h = absurd (false≢true (sym h))
well-formed true true true false ns h = absurd (false≢true (sym h))

-- ---- each way out

module _ (g : Geometry) (ks os ls : List ℕ) (equal : Bool) where
  pub stop-geometry : (n : ℕ) → n ≡ geometry_test g → (n ≡ 0 → ⊥) → n ≡ list_test g ks os ls equal
  unfolding list_test first_of
  stop-geometry n e h = rw (← e, ne_eqb n 0 h)

  -- whether the tests of the columns refuse
  abbrev pub ill : Bool
  ill = not (eqb (length ks) (length os) && eqb (length ks) (length ls) && equal) || not (known ks)

  module _ (z : 0 ≡ geometry_test g) where
    pub stop-columns : ill ≡ true → 12 ≡ list_test g ks os ls equal
    unfolding list_test
    stop-columns h = rw (← z) (malformed (eqb (length ks) (length os)) (eqb (length ks) (length ls)) equal (known ks) _ h)

    module _ (w : ill ≡ false) where
      past-columns : first_of (unless (leb (length ks) most) 27 ∷ []) ≡ list_test g ks os ls equal
      unfolding list_test
      past-columns = rw (← z) (well-formed (eqb (length ks) (length os)) (eqb (length ks) (length ls)) equal (known ks) _ w)

      pub stop-many : most < length ks → 27 ≡ list_test g ks os ls equal
      stop-many h = let e : 27 ≡ first_of (unless (leb (length ks) most) 27 ∷ []) = (unfold first_of unless in simp (lt-leb _ _ h)) in e ∙ past-columns

      pub passed : length ks ≤ most → 0 ≡ list_test g ks os ls equal
      passed h = let e : 0 ≡ first_of (unless (leb (length ks) most) 27 ∷ []) = (unfold first_of unless in simp (le-leb _ _ h)) in e ∙ past-columns

-- ---- what a list that is not refused satisfies

pub record Passed (g : Geometry) (ks os ls : List ℕ) (equal : Bool) : Type 0 where
  pub sound : Sound g ks os ls
  pub lent : equal ≡ true

pub passes : (g : Geometry) (ks os ls : List ℕ) (equal : Bool) → list_test g ks os ls equal ≡ 0 → Passed g ks os ls equal
unfolding list_test
passes g ks os ls equal e =
    let a = first_of-zero (geometry_test g) _ e in
    let b = first_of-zero (unless (eqb (length ks) (length os)) 12) _ a.1 in
    let d = first_of-zero (unless (eqb (length ks) (length ls)) 12) _ b.1 in
    let f = first_of-zero (unless equal 12) _ d.1 in
    let h = first_of-zero (unless (known ks) 12) _ f.1 in
    let i = first_of-zero (unless (leb (length ks) most) 27) [] h.1 in
    record {
      sound = record {
        offsets-equal = eqb-true _ _ (unless-zero (eqb (length ks) (length os)) 11 b.0);
        lens-equal = eqb-true _ _ (unless-zero (eqb (length ks) (length ls)) 11 d.0);
        few = leb-true _ _ (unless-zero (leb (length ks) most) 26 i.0);
      };
      lent = unless-zero equal 11 f.0;
    }
