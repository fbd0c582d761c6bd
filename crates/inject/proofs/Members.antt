-- What is true of every point of the list. Assumes nothing.
use mathlib.Core.Path.{◌≡◌, refl, subst}
use mathlib.Core.Logic.{inl, inr}
use mathlib.Core.Bool.{Bool, true, false, cond}
use mathlib.Core.List.{List, [], ◌∷◌, ◌++◌, map, Memᴰ}
use Prim.Native.Nat.{ℕ, zero, suc, ◌+◌, ◌-◌, ◌%◌, ◌≤◌, ◌<◌}
use native.Mathlib.Nat.{sub_self, sub-zero}
use native.Mathlib.Omega.{arith}
use lib.ListN.{length, get_or}
use lib.Dec.{eqb}
use Rattle.basics.proofs.Lists.{Each, each_append, each-cons, each_none, each_map}
use Rattle.storage.specs.declared.Geometry.{Geometry}
use Rattle.inject.specs.declared.Op.{Op}
use Rattle.inject.specs.declared.Op.TheVariants.{Program, Erase, Barrier}
use Rattle.inject.specs.declared.Progress.{Progress}
use Rattle.inject.specs.declared.Progress.TheVariants.{None, Bytes, Whole}
use Rattle.inject.specs.declared.Interruption.{Interruption}
use Rattle.inject.specs.declared.Interruption.TheVariants.{PowerLoss, Watchdog, Failure}
use Rattle.inject.specs.declared.Injection.{Injection}
use Rattle.inject.specs.Ops.{len_of}
use Rattle.inject.specs.Answers.{progress_code}
use Rattle.inject.specs.Claims.{IndexIn, CountIn}
use Rattle.inject.specs.Points.{multiples, inner, byte_points, none_point, whole_span, whole_point, progresses, point, under, lone, opening, injections_of}

-- ---- within an operation

-- the multiples from 1 to n are above 0 and at most n
pub each-multiple : (u n : ℕ) → Each (λ k. (0 < k) × (k ≤ n)) (multiples u n)
unfolding multiples
each-multiple u zero = each_none _
each-multiple u (suc n) =
    each_append _ (multiples u n) _
    (λ k m. let h = each-multiple u n k m in (h.0, omega (arith, h.1)))
    (last (eqb (suc n % u) 0))
  where
    last : (b : Bool) → Each (λ k. (0 < k) × (k ≤ suc n)) (cond b (suc n ∷ []) [])
    last true = each-cons _ (suc n) [] (omega arith, omega arith) (each_none _)
    last false = each_none _

-- inner ones are above 0 and below the length
each-inner : (u l : ℕ) → Each (λ k. (0 < k) × (k < l)) (inner u l)
unfolding inner
each-inner u zero = each_none _
each-inner u (suc n) = λ k m. let h = each-multiple u n k m in (h.0, omega (arith, h.1))

pub each-byte : (g : Geometry) (w : Interruption) (o : Op) → Each (λ k. (0 < k) × (k < len_of o)) (byte_points g w o)
each-byte g PowerLoss (Program offset len) = each-inner 1 len
each-byte g PowerLoss (Erase offset len) = each-inner g.erase_size len
each-byte g PowerLoss Barrier = each_none _
each-byte g Watchdog (Program offset len) = each-inner g.program_size len
each-byte g Watchdog (Erase offset len) = each-inner g.erase_size len
each-byte g Watchdog Barrier = each_none _
each-byte g Failure (Program offset len) = each-inner 1 len
each-byte g Failure (Erase offset len) = each-inner g.erase_size len
each-byte g Failure Barrier = each_none _

-- the none points and the whole points of an operation
pub each-none_point : (P : Progress → Type 0) (w : Interruption) → P None → Each P (none_point w)
each-none_point P PowerLoss p = each_none P
each-none_point P Watchdog p = each-cons P None [] p (each_none P)
each-none_point P Failure p = each-cons P None [] p (each_none P)

each-whole_span : (P : Progress → Type 0) (l : ℕ) → P Whole → Each P (whole_span l)
each-whole_span P zero p = each_none P
each-whole_span P (suc n) p = each-cons P Whole [] p (each_none P)

pub each-whole_point : (P : Progress → Type 0) (w : Interruption) (o : Op) → P Whole → Each P (whole_point w o)
each-whole_point P w (Program offset len) p = each-whole_span P len p
each-whole_point P w (Erase offset len) p = each-whole_span P len p
each-whole_point P PowerLoss Barrier p = each-cons P Whole [] p (each_none P)
each-whole_point P Watchdog Barrier p = each-cons P Whole [] p (each_none P)
each-whole_point P Failure Barrier p = each_none P

-- none, a byte count above 0 and below the length, or whole
abbrev Inside : Op → Progress → Type 0
Inside o None = Unit
Inside o (Bytes n) = (0 < n) × (n < len_of o)
Inside o Whole = Unit

each-progress : (g : Geometry) (w : Interruption) (o : Op) → Each (Inside o) (progresses g w o)
unfolding progresses
each-progress g w o =
    each_append (Inside o) (none_point w) (map Bytes (byte_points g w o) ++ whole_point w o) (each-none_point (Inside o) w tt)
    (each_append (Inside o) (map Bytes (byte_points g w o)) (whole_point w o)
    (each_map (Inside o) Bytes (byte_points g w o) (each-byte g w o)) (each-whole_point (Inside o) w o tt))

-- ---- over a list of operations

-- a point of the operations from index i on
abbrev Under : Interruption → ℕ → List Op → Injection → Type 0
Under w i os p = (i ≤ p.op) × (p.op < i + length os) × (p.interruption ≡ w) × Inside (get_or os (p.op - i) Barrier) p.progress

pub each-under : (g : Geometry) (w : Interruption) (i : ℕ) (os : List Op) → Each (Under w i os) (under g w i os)
unfolding under
each-under g w i [] = each_none _
each-under g w i (o ∷ os) =
    each_append (Under w i (o ∷ os)) (map (point i w) (progresses g w o)) (under g w (suc i) os)
    (each_map (Under w i (o ∷ os)) (point i w) (progresses g w o)
    (λ q m. (omega arith, omega arith, refl, first q (each-progress g w o q m))))
    (λ p m. let h = each-under g w (suc i) os p m in (omega (arith, h.0), omega (arith, h.1), h.2, later p h.0 h.3))
  where
    first : (q : Progress) → Inside o q → Inside (get_or (o ∷ os) (i - i) Barrier) q
    first q h = rw sub_self h

    later : (p : Injection) → suc i ≤ p.op → Inside (get_or os (p.op - suc i) Barrier) p.progress → Inside (get_or (o ∷ os) (p.op - i) Barrier) p.progress
    later p k h = let e : p.op - i ≡ suc (p.op - suc i) = omega arith in rw e h

-- under power loss no point is none
pub each-loss : (g : Geometry) (i : ℕ) (os : List Op) → Each (λ p. 0 < progress_code p.progress) (under g PowerLoss i os)
unfolding under progresses
each-loss g i [] = each_none _
each-loss g i (o ∷ os) =
    each_append _ (map (point i PowerLoss) (map Bytes (byte_points g PowerLoss o) ++ whole_point PowerLoss o)) (under g PowerLoss (suc i) os)
    (each_map _ (point i PowerLoss) (map Bytes (byte_points g PowerLoss o) ++ whole_point PowerLoss o)
    (each_append _ (map Bytes (byte_points g PowerLoss o)) (whole_point PowerLoss o)
    (each_map _ Bytes (byte_points g PowerLoss o) (λ k m. omega arith)) (each-whole_point _ PowerLoss o (omega arith))))
    (each-loss g (suc i) os)

-- ---- the whole list

each-injection : (P : Injection → Type 0) (g : Geometry) (os : List Op) → P opening → ((w : Interruption) → Each P (under g w 0 os)) → Each P (lone os)
    → Each P (injections_of g os)
unfolding injections_of
each-injection P g os a u l =
    each-cons P opening _ a
    (each_append P (under g PowerLoss 0 os) _ (u PowerLoss)
    (each_append P (lone os) _ l (each_append P (under g Watchdog 0 os) (under g Failure 0 os) (u Watchdog) (u Failure))))

-- every index is below the number of operations, or 0 for an empty list
pub indexes-in : (g : Geometry) (os : List Op) (p : Injection) → Memᴰ p (injections_of g os) → IndexIn os p
indexes-in g os = each-injection (IndexIn os) g os (first os) (λ w p m. inl (omega (arith, (each-under g w 0 os p m).1))) (only os)
  where
    first : (qs : List Op) → IndexIn qs opening
    first [] = inr (refl, refl)
    first (q ∷ qs) = inl (omega arith)

    only : (qs : List Op) → Each (IndexIn qs) (lone qs)
    only [] = unfold lone in each-cons _ _ [] (inr (refl, refl)) (each_none _)
    only (q ∷ qs) = unfold lone in each_none _

-- every byte count is above 0 and below its operation's length
pub counts-in : (g : Geometry) (os : List Op) (p : Injection) → Memᴰ p (injections_of g os) → CountIn os p
counts-in g os = each-injection (CountIn os) g os none-has-none inside (only os)
  where
    none-has-none : (n : ℕ) → None ≡ Bytes n → (0 < n) × (n < len_of (get_or os 0 Barrier))
    none-has-none n e = absurd (let z : ◌≡◌ {A = ℕ} 0 1 = cc in omega arith)

    inside : (w : Interruption) → Each (CountIn os) (under g w 0 os)
    inside w p m n e = subst (Inside (get_or os p.op Barrier)) e (rw sub-zero at (each-under g w 0 os p m).3)

    only : (qs : List Op) → Each (CountIn os) (lone qs)
    only [] = unfold lone in each-cons _ _ [] none-has-none (each_none _)
    only (q ∷ qs) = unfold lone in each_none _
