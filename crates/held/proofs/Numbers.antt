-- The columns' tests: from the code's branches to the number, and from 0 back to what holds.
--     number-is                  the number of two runs' columns
--     lowest-none, columns-fit   what an unrefused call knows
-- Assumes nothing.
use mathlib.Core.Path.{◌≡◌, refl, sym, ap₂, ◌∙◌}
use mathlib.Core.Bool.{Bool, true, false, not, ◌||◌}
use mathlib.Core.List.{[]}
use Prim.Native.Nat.{ℕ, zero, suc, min}
use native.Mathlib.Nat.{suc-ne-zero}
use native.Mathlib.Omega.{arith}
use lib.ListN.{length}
use lib.Dec.{eqb, ltb}
use borrow.Author.Tests.{ne_eqb, eqb-true, ltb-false, not-false}
use Rattle.basics.specs.Tests.{unless, refuse_if, first_of}
use Rattle.basics.proofs.Tests.{first_of-zero, refuse-zero}
use Rattle.refusals.specs.Tests.{columns_test as lent_test}
use Rattle.device.proofs.Pairs.{false_left, false_right}
use Rattle.ledger.specs.Ledger.{counts_short}
use Rattle.ledger.proofs.Numbers.{tested}
use Rattle.held.specs.Held.{Recorded, uneven_in, known_in, columns_test, lowest, held_test}
use Rattle.held.specs.Scans.{malformed, short_in, Fits}

-- ---- the number, by the two tests of each run

lowest_of : (m s n t : Bool) → lowest (lent_test m s) (lent_test n t) ≡ lent_test (m || n) (s || t)
unfolding first_of refuse_if lowest
lowest_of true s true t = refl
lowest_of true s false true = refl
lowest_of true s false false = refl
lowest_of false true true t = refl
lowest_of false true false true = refl
lowest_of false true false false = refl
lowest_of false false true t = refl
lowest_of false false false true = refl
lowest_of false false false false = refl

module _ (f r : Recorded) where
  whole : held_test f r ≡ lent_test (malformed f || malformed r) (short_in f || short_in r)
  unfolding columns_test malformed short_in
  whole =
      ap₂ (λ (a b : ℕ). lowest a b) (tested (uneven_in f) (known_in f.counters f.kinds f.codes) (short_in f)) (tested (uneven_in r) (known_in r.counters r.kinds r.codes) (short_in r))
      ∙ lowest_of (malformed f) (short_in f) (malformed r) (short_in r)

  pub number-is : (m n s t : Bool) → m ≡ malformed f → n ≡ malformed r → s ≡ short_in f → t ≡ short_in r
      → (k : ℕ) → k ≡ lent_test (m || n) (s || t) → k ≡ held_test f r
  number-is m n s t p q u v k e = e ∙ (λ i. lent_test (p i || q i) (u i || v i)) ∙ sym whole

pub lowest-none : (a b : ℕ) → lowest a b ≡ 0 → (a ≡ 0) × (b ≡ 0)
unfolding lowest
lowest-none zero b e = (refl, e)
lowest-none (suc a) zero e = absurd (suc-ne-zero a (rw (ne_eqb (suc a) 0 (suc-ne-zero a)) at e))
lowest-none (suc a) (suc b) e =
    let n : min (suc a) (suc b) ≡ 0 = rw (ne_eqb (suc a) 0 (suc-ne-zero a), ne_eqb (suc b) 0 (suc-ne-zero b)) at e in
    absurd (positive a b n)
  where
    positive : (a b : ℕ) → min (suc a) (suc b) ≡ 0 → ⊥
    positive a b n = omega arith

-- ---- what holds where nothing refuses

equal : (a b : ℕ) → not (eqb a b) ≡ false → a ≡ b
equal a b e = eqb-true a b (not-false (eqb a b) e)

pub columns-fit : (x : Recorded) → columns_test x ≡ 0 → Fits x
unfolding columns_test counts_short
columns-fit x z =
    let k : ℕ = length x.kinds in
    let c : ℕ = length x.codes in
    let o : Bool = not (eqb (length x.offsets) k) in
    let l : Bool = not (eqb (length x.lens) k) in
    let d : Bool = not (eqb (length x.digests) k) in
    let i : Bool = not (eqb (length x.ids) c) in
    let p : Bool = not (eqb (length x.places) c) in
    let n : Bool = ltb k x.counters.operations in
    let m : Bool = ltb c x.counters.marks in
    let tested = first_of-zero (refuse_if (uneven_in x) 12) _ z in
    let later = first_of-zero (unless (known_in x.counters x.kinds x.codes) 12) _ tested.1 in
    let even : uneven_in x ≡ false = refuse-zero (uneven_in x) 11 tested.0 in
    let long = refuse-zero (ltb k 1024 || ltb c 512 || n || m) 12 (first_of-zero (refuse_if (ltb k 1024 || ltb c 512 || n || m) 13) [] later.1).0 in
    let rows = false_left (o || l || d) (i || p) even in
    let marked = false_right (o || l || d) (i || p) even in
    record {
      offsets = equal _ _ (false_left o l (false_left (o || l) d rows));
      lens = equal _ _ (false_right o l (false_left (o || l) d rows));
      digests = equal _ _ (false_right (o || l) d rows);
      ids = equal _ _ (false_left i p marked);
      places = equal _ _ (false_right i p marked);
      operations = ltb-false k _ (false_right (ltb k 1024 || ltb c 512) n (false_left (ltb k 1024 || ltb c 512 || n) m long));
      marks = ltb-false c _ (false_right (ltb k 1024 || ltb c 512 || n) m long);
    }
