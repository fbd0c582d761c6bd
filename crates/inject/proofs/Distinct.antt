-- No point is listed twice. Assumes nothing.
use mathlib.Core.Path.{◌≡◌, refl, ap}
use mathlib.Core.Logic.{⊎_elim}
use mathlib.Core.Bool.{Bool, true, false, cond}
use mathlib.Core.List.Memᴰ
use mathlib.Core.List.{List, [], ◌∷◌, ◌++◌, map, append-nil, Memᴰ}
use Prim.Native.Nat.{ℕ, zero, suc, ◌%◌, ◌≤◌, ◌<◌}
use native.Mathlib.Omega.{arith}
use lib.Dec.{eqb}
use Rattle.basics.proofs.Lists.{Each, each_append, each_map}
use Rattle.storage.specs.declared.Geometry.{Geometry}
use Rattle.inject.specs.declared.Op.{Op}
use Rattle.inject.specs.declared.Op.TheVariants.{Program, Erase, Barrier}
use Rattle.inject.specs.declared.Progress.{Progress}
use Rattle.inject.specs.declared.Progress.TheVariants.{None, Bytes, Whole}
use Rattle.inject.specs.declared.Interruption.{Interruption}
use Rattle.inject.specs.declared.Interruption.TheVariants.{PowerLoss, Watchdog, Failure}
use Rattle.inject.specs.declared.Injection.{Injection}
use Rattle.inject.specs.Points.{multiples, inner, byte_points, none_point, whole_span, whole_point, progresses, point, under, lone, opening, injections_of}
use Rattle.inject.specs.Answers.{progress_code, interruption_code}
use Rattle.inject.specs.Claims.{Distinct}
use Rattle.inject.proofs.Members.{each-multiple, each-none_point, each-whole_point, each-under, each-loss}

-- ---- lists without a repeat

distinct_append : {A : Type 0} (xs ys : List A) → Distinct xs → Distinct ys → ((x : A) → Memᴰ x xs → Memᴰ x ys → ⊥) → Distinct (xs ++ ys)
unfolding Distinct
distinct_append [] ys p q h = q
distinct_append (x ∷ xs) ys p q h = (
  (λ m. ⊎_elim p.0 (h x (Memᴰ.head refl)) (Memᴰ.append_cases xs m)),
  distinct_append xs ys p.1 q (λ z m. h z (Memᴰ.tail m)),
)

-- two lists that a number tells apart
apart : {A : Type 0} (f : A → ℕ) (k : ℕ) (xs ys : List A) → Each (λ x. f x < k) xs → Each (λ x. k ≤ f x) ys → Distinct xs → Distinct ys → Distinct (xs ++ ys)
apart f k xs ys below above p q = distinct_append xs ys p q (λ x m n. omega (arith, below x m, above x n))

distinct_none : (A : Type 0) → Distinct {A = A} []
unfolding Distinct
distinct_none A = tt

distinct-one : {A : Type 0} (x : A) → Distinct (x ∷ [])
unfolding Distinct
distinct-one x = (Memᴰ.not-nil, tt)

member-map : {A B : Type 0} (f : A → B) → ((a b : A) → f a ≡ f b → a ≡ b) → (a : A) (xs : List A) → Memᴰ (f a) (map f xs) → Memᴰ a xs
member-map f inj a [] m = absurd (Memᴰ.not-nil m)
member-map f inj a (x ∷ xs) m =
    ⊎_elim (λ e. Memᴰ.head (inj a x e)) (λ n. Memᴰ.tail (member-map f inj a xs n)) (Memᴰ.cases_cons m)

distinct-map : {A B : Type 0} (f : A → B) → ((a b : A) → f a ≡ f b → a ≡ b) → (xs : List A) → Distinct xs → Distinct (map f xs)
unfolding Distinct
distinct-map f inj [] p = tt
distinct-map f inj (x ∷ xs) p = ((λ m. p.0 (member-map f inj x xs m)), distinct-map f inj xs p.1)

-- ---- within an operation

next_multiple : (u n : ℕ) (b : Bool) → Distinct (multiples u n) → Distinct (multiples u n ++ cond b (suc n ∷ []) [])
next_multiple u n true p =
    apart (λ k. k) (suc n) (multiples u n) (suc n ∷ []) (λ k m. omega (arith, (each-multiple u n k m).1))
    (λ k m. omega (arith, Memᴰ.eq_of_singleton m)) p (distinct-one (suc n))
next_multiple u n false p = rw append-nil p

distinct-multiples : (u n : ℕ) → Distinct (multiples u n)
unfolding multiples
distinct-multiples u zero = distinct_none ℕ
distinct-multiples u (suc n) = next_multiple u n (eqb (suc n % u) 0) (distinct-multiples u n)

distinct-inner : (u l : ℕ) → Distinct (inner u l)
unfolding inner
distinct-inner u zero = distinct_none ℕ
distinct-inner u (suc n) = distinct-multiples u n

distinct-bytes : (g : Geometry) (w : Interruption) (o : Op) → Distinct (byte_points g w o)
distinct-bytes g PowerLoss (Program offset len) = distinct-inner 1 len
distinct-bytes g PowerLoss (Erase offset len) = distinct-inner g.erase_size len
distinct-bytes g PowerLoss Barrier = distinct_none ℕ
distinct-bytes g Watchdog (Program offset len) = distinct-inner g.program_size len
distinct-bytes g Watchdog (Erase offset len) = distinct-inner g.erase_size len
distinct-bytes g Watchdog Barrier = distinct_none ℕ
distinct-bytes g Failure (Program offset len) = distinct-inner 1 len
distinct-bytes g Failure (Erase offset len) = distinct-inner g.erase_size len
distinct-bytes g Failure Barrier = distinct_none ℕ

distinct-nones : (w : Interruption) → Distinct (none_point w)
distinct-nones PowerLoss = distinct_none Progress
distinct-nones Watchdog = distinct-one None
distinct-nones Failure = distinct-one None

distinct-end : (l : ℕ) → Distinct (whole_span l)
distinct-end zero = distinct_none Progress
distinct-end (suc n) = distinct-one Whole

distinct-wholes : (w : Interruption) (o : Op) → Distinct (whole_point w o)
distinct-wholes w (Program offset len) = distinct-end len
distinct-wholes w (Erase offset len) = distinct-end len
distinct-wholes PowerLoss Barrier = distinct-one Whole
distinct-wholes Watchdog Barrier = distinct-one Whole
distinct-wholes Failure Barrier = distinct_none Progress

distinct-progresses : (g : Geometry) (w : Interruption) (o : Op) → Distinct (progresses g w o)
unfolding progresses
distinct-progresses g w o =
    let bytes = map Bytes (byte_points g w o) in
    apart progress_code 1 (none_point w) (bytes ++ whole_point w o) (each-none_point _ w (omega arith))
    (each_append _ bytes (whole_point w o) (each_map _ Bytes (byte_points g w o) (λ k m. omega arith)) (each-whole_point _ w o (omega arith)))
    (distinct-nones w)
    (apart progress_code 2 bytes (whole_point w o) (each_map _ Bytes (byte_points g w o) (λ k m. omega arith)) (each-whole_point _ w o (omega arith))
    (distinct-map Bytes (λ a b e. cc) (byte_points g w o) (distinct-bytes g w o)) (distinct-wholes w o))

-- ---- over a list of operations

same_point : (i : ℕ) (w : Interruption) (a b : Progress) → point i w a ≡ point i w b → a ≡ b
same_point i w a b e = ap (λ (p : Injection). p.progress) e

distinct-under : (g : Geometry) (w : Interruption) (i : ℕ) (os : List Op) → Distinct (under g w i os)
unfolding under
distinct-under g w i [] = distinct_none Injection
distinct-under g w i (o ∷ os) =
    apart (λ (p : Injection). p.op) (suc i) (map (point i w) (progresses g w o)) (under g w (suc i) os)
    (each_map _ (point i w) (progresses g w o) (λ q m. omega arith))
    (λ p m. (each-under g w (suc i) os p m).0)
    (distinct-map (point i w) (same_point i w) (progresses g w o) (distinct-progresses g w o))
    (distinct-under g w (suc i) os)

-- each interruption's points have its code
coded : (g : Geometry) (w : Interruption) (os : List Op) (p : Injection) → Memᴰ p (under g w 0 os) → interruption_code p.interruption ≡ interruption_code w
coded g w os p m = ap interruption_code (each-under g w 0 os p m).2

-- the three interruptions' points of operations, and the opening point before them
module _ (g : Geometry) (os : List Op) where
  lost : List Injection
  lost = under g PowerLoss 0 os

  later : List Injection
  later = under g Watchdog 0 os ++ under g Failure 0 os

  later-coded : Each (λ p. 1 ≤ interruption_code p.interruption) later
  unfolding later
  later-coded =
      each_append _ (under g Watchdog 0 os) (under g Failure 0 os)
      (λ p m. omega (arith, coded g Watchdog os p m)) (λ p m. omega (arith, coded g Failure os p m))

  distinct-three : Distinct (lost ++ later)
  unfolding lost later
  distinct-three =
      apart (λ (p : Injection). interruption_code p.interruption) 1 (under g PowerLoss 0 os) later
      (λ p m. omega (arith, coded g PowerLoss os p m)) later-coded (distinct-under g PowerLoss 0 os)
      (apart (λ (p : Injection). interruption_code p.interruption) 2 (under g Watchdog 0 os) (under g Failure 0 os)
      (λ p m. omega (arith, coded g Watchdog os p m)) (λ p m. omega (arith, coded g Failure os p m))
      (distinct-under g Watchdog 0 os) (distinct-under g Failure 0 os))

  opening-once : Memᴰ opening (lost ++ later) → ⊥
  unfolding lost
  opening-once m =
      ⊎_elim (λ n. let h : 0 < progress_code None = each-loss g 0 os opening n in omega (arith, h))
      (λ n. let h : 1 ≤ interruption_code PowerLoss = later-coded opening n in omega (arith, h)) (Memᴰ.append_cases lost m)

-- no point is listed twice
pub distinct-injections : (g : Geometry) (os : List Op) → Distinct (injections_of g os)
unfolding injections_of lone under Distinct
distinct-injections g [] = (
  (λ m.
      let e = Memᴰ.eq_of_singleton m in
      let z : ◌≡◌ {A = ℕ} 0 1 = ap (λ (p : Injection). interruption_code p.interruption) e in
      omega (arith, z)),
  (Memᴰ.not-nil, tt),
)
distinct-injections g (o ∷ os) = (unfold lost later in opening-once g (o ∷ os), unfold lost later in distinct-three g (o ∷ os))
