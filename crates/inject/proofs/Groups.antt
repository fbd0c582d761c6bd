-- One operation's points under one interruption, from four numbers. Assumes nothing.
use mathlib.Core.Path.{◌≡◌, refl, sym, ap, ◌∙◌}
use mathlib.Core.Logic.{⊎_elim}
use mathlib.Core.List.{[], ◌∷◌, ◌++◌, map}
use Prim.Native.Nat.{ℕ, zero, suc, ◌+◌, ◌-◌, ◌*◌, ◌^◌, ◌≤◌, ◌<◌}
use native.Mathlib.Nat.{not-suc-le-zero, le_of_suc-le-suc, eq-or-lt_of_le, lt_of_le_of_lt, mul-le-mul_right}
use native.Mathlib.Numerals.{add-one}
use native.Mathlib.Omega.{arith}
use lib.ListN.{length, get_or, replicate, length-append, length-map, length-replicate, get_or-replicate, get_or-append}
use lib.Seq.{get_or_at, get_or-append-add}
use Rattle.std.proofs.lemmas.List.{get_or-map}
use Rattle.storage.specs.declared.Geometry.{Geometry}
use Rattle.inject.specs.declared.Op.{Op}
use Rattle.inject.specs.declared.Op.TheVariants.{Program, Erase, Barrier}
use Rattle.inject.specs.declared.Progress.TheVariants.{None, Bytes, Whole}
use Rattle.inject.specs.declared.Interruption.{Interruption}
use Rattle.inject.specs.declared.Interruption.TheVariants.{PowerLoss, Watchdog, Failure}
use Rattle.inject.specs.declared.group.Group.{Group}
use Rattle.inject.specs.Ops.{len_of}
use Rattle.inject.specs.Points.{inner, tear_points, reset_points, byte_points, none_point, whole_span, whole_point, progresses}
use Rattle.inject.specs.Steps.{tear_unit, reset_unit, steps, grouped, GroupOf}

-- ---- the two units

pub tears : (g : Geometry) (o : Op) → inner (tear_unit g o) (len_of o) ≡ tear_points g o
unfolding inner
tears g (Program offset len) = refl
tears g (Erase offset len) = refl
tears g Barrier = refl

pub resets : (g : Geometry) (o : Op) → inner (reset_unit g o) (len_of o) ≡ reset_points g o
unfolding inner
resets g (Program offset len) = refl
resets g (Erase offset len) = refl
resets g Barrier = refl

pub one-whole : (len : ℕ) → (len ≡ 0 → ⊥) → Whole ∷ [] ≡ whole_span len
one-whole zero h = absurd (h refl)
one-whole (suc n) h = refl

-- ---- the numbers are the operation's

-- what was found out of an operation: `n` has how many none points it has, and its unit
module _ (g : Geometry) (o : Op) (w : Interruption) (n : ℕ × ℕ) (len : ℕ) (r : Group) (l : len ≡ len_of o) (i : r.nones ≡ n.0) (j : r.unit ≡ n.1)
    (s : steps n.1 r.inner ≡ inner n.1 len) (e : replicate r.wholes Whole ≡ whole_point w o) where
  made : replicate n.0 None ≡ none_point w → inner n.1 len ≡ byte_points g w o → GroupOf g w o r
  made m b = record { points = (unfold grouped progresses in rw (i, j, m, s, b, e)) }

  module _ (unit : ℕ) where
    pub made-lost : w ≡ PowerLoss → unit ≡ tear_unit g o → n ≡ (0, unit) → GroupOf g w o r
    made-lost q u d = made (rw (d, q)) (rw (d, q, l, u) (tears g o))

    pub made-reset : w ≡ Watchdog → unit ≡ reset_unit g o → n ≡ (1, unit) → GroupOf g w o r
    made-reset q u d = made (rw (d, q)) (rw (d, q, l, u) (resets g o))

    pub made-failed : w ≡ Failure → unit ≡ tear_unit g o → n ≡ (1, unit) → GroupOf g w o r
    made-failed q u d = made (rw (d, q)) (rw (d, q, l, u) (tears g o))

-- the same of the row that the operation was made of
pub of_row : (g : Geometry) (w : Interruption) (o p : Op) (r : Group) → o ≡ p → GroupOf g w o r → GroupOf g w p r
of_row g w o p r e h = rw e at h

-- ---- a group's points by place

pub length-steps : (u k : ℕ) → length (steps u k) ≡ k
unfolding steps
length-steps u zero = refl
length-steps u (suc k) = simp (length-append, length-steps u k) (omega arith)

at-steps : (u k i d : ℕ) → i < k → get_or (steps u k) i d ≡ suc i * u
unfolding steps
at-steps u zero i d h = absurd (not-suc-le-zero h)
at-steps u (suc k) i d h =
    ⊎_elim
    (λ (e : i ≡ k). get_or_at (steps u k) (suc k * u) [] d i (length-steps u k ∙ sym e) ∙ ap (λ (x : ℕ). suc x * u) (sym e))
    (λ (l : i < k). get_or-append (steps u k) (suc k * u ∷ []) d i (rw (length-steps u k) l) ∙ at-steps u k i d l)
    (eq-or-lt_of_le (le_of_suc-le-suc h))

module _ (r : Group) where
  pub length-grouped : length (grouped r) ≡ r.nones + r.inner + r.wholes
  unfolding grouped
  length-grouped = simp (length-append, length-map, length-replicate, length-steps) (omega arith)

  pub grouped-none : (i : ℕ) → i < r.nones → get_or (grouped r) i None ≡ None
  unfolding grouped
  grouped-none i h =
      get_or-append (replicate r.nones None) _ None i (rw length-replicate h) ∙ get_or-replicate r.nones i None None h

  -- past the none points
  past-nones : (i : ℕ) → r.nones ≤ i
      → get_or (grouped r) i None ≡ get_or (map Bytes (steps r.unit r.inner) ++ replicate r.wholes Whole) (i - r.nones) None
  unfolding grouped
  past-nones i h =
      let e : i ≡ length (replicate r.nones None) + (i - r.nones) = rw length-replicate (omega arith) in
      ap (λ (k : ℕ). get_or (replicate r.nones None ++ (map Bytes (steps r.unit r.inner) ++ replicate r.wholes Whole)) k None) e
      ∙ get_or-append-add (replicate r.nones None) _ (i - r.nones) None

  pub grouped-bytes : (i : ℕ) → r.nones ≤ i → i - r.nones < r.inner → get_or (grouped r) i None ≡ Bytes ((i - r.nones + 1) * r.unit)
  grouped-bytes i h l =
      let k = i - r.nones in
      past-nones i h
      ∙ get_or-append (map Bytes (steps r.unit r.inner)) _ None k (simp (length-map, length-steps) l)
      ∙ get_or-map Bytes (steps r.unit r.inner) k 0 None (rw length-steps l)
      ∙ ap Bytes (at-steps r.unit r.inner k 0 l ∙ rw add-one)

  pub grouped-whole : (i : ℕ) → i < length (grouped r) → r.nones ≤ i → r.inner ≤ i - r.nones → get_or (grouped r) i None ≡ Whole
  grouped-whole i b h l =
      let k = i - r.nones in
      let n : length (map Bytes (steps r.unit r.inner)) ≡ r.inner = simp (length-map, length-steps) in
      let e : k ≡ length (map Bytes (steps r.unit r.inner)) + (k - r.inner) = rw n (omega arith) in
      let j : k - r.inner < r.wholes = omega (arith, length-grouped) in
      past-nones i h
      ∙ ap (λ (x : ℕ). get_or (map Bytes (steps r.unit r.inner) ++ replicate r.wholes Whole) x None) e
      ∙ get_or-append-add (map Bytes (steps r.unit r.inner)) _ (k - r.inner) None
      ∙ get_or-replicate r.wholes (k - r.inner) Whole None j

  -- a byte point fits
  pub bytes_fit : (k : ℕ) → k < r.inner → (k + 1) * r.unit < 2 ^ 32
  bytes_fit k h = lt_of_le_of_lt (mul-le-mul_right r.unit (omega arith)) r.small.2
