-- "So a program of length L and unit P gives 2L + ⌈L/P⌉ + 2 points, an erase of L with block E gives 3⌈L/E⌉ + 2, a barrier 4;
-- one more opens the list, and an empty list has 2." Assumes nothing.
use mathlib.Core.Path.{◌≡◌, refl, sym, ap, ◌∙◌}
use mathlib.Core.List.{List, [], ◌∷◌, ◌++◌, map}
use Prim.Native.Nat.{ℕ, zero, suc, ◌+◌, ◌-◌, ◌*◌, ◌/◌, ◌<◌}
use native.Mathlib.Nat.{div-eq_of_lt, add-div_right, div-one}
use native.Mathlib.Omega.{arith}
use lib.ListN.{length, length-append, length-map}
use Rattle.storage.specs.declared.Geometry.{Geometry}
use Rattle.inject.specs.declared.Op.{Op}
use Rattle.inject.specs.declared.Op.TheVariants.{Program, Erase, Barrier}
use Rattle.inject.specs.declared.Progress.TheVariants.{Bytes, Whole}
use Rattle.inject.specs.declared.Interruption.{Interruption}
use Rattle.inject.specs.declared.Interruption.TheVariants.{PowerLoss, Watchdog, Failure}
use Rattle.inject.specs.Points.{inner, whole_span, progresses, under, lone, injections_of}
use Rattle.inject.specs.Claims.{ceil, given, sum_of}
use Rattle.inject.proofs.Spans.{steps-multiples}
use Rattle.inject.proofs.Groups.{length-steps}

-- a span has ⌈L/P⌉ points besides none: its inner multiples and its end
span-points : (u l : ℕ) → 0 < u → length (map Bytes (inner u l) ++ whole_span l) ≡ ceil l u
unfolding inner
span-points u zero h = sym (div-eq_of_lt (omega arith))
span-points u (suc n) h =
    let up : n + u ≡ suc n + (u - 1) = omega arith in
    let m : length (inner u (suc n)) ≡ n / u = ap length (sym (steps-multiples u n h)) ∙ length-steps u (n / u) in
    length-append (map Bytes (inner u (suc n))) (Whole ∷ [])
    ∙ ap (λ (k : ℕ). k + 1) (length-map (inner u (suc n)) Bytes ∙ m)
    ∙ sym (add-div_right n h)
    ∙ ap (λ (x : ℕ). x / u) up

-- every byte of it, for the unit 1
byte-points : (l : ℕ) → length (map Bytes (inner 1 l) ++ whole_span l) ≡ l
byte-points l = span-points 1 l (omega arith) ∙ rw div-one (omega arith)

-- "a program of length L and unit P gives 2L + ⌈L/P⌉ + 2 points"
pub program-points : (g : Geometry) (offset l : ℕ) → 0 < g.program_size → given g (Program offset l) ≡ 2 * l + ceil l g.program_size + 2
unfolding progresses
program-points g offset l h = omega (arith, byte-points l, span-points g.program_size l h)

-- "an erase of L with block E gives 3⌈L/E⌉ + 2"
pub erase-points : (g : Geometry) (offset l : ℕ) → 0 < g.erase_size → given g (Erase offset l) ≡ 3 * ceil l g.erase_size + 2
unfolding progresses
erase-points g offset l h = omega (arith, span-points g.erase_size l h)

-- "a barrier 4"
pub barrier-points : (g : Geometry) → given g Barrier ≡ 4
unfolding progresses
barrier-points g = refl

-- ---- the list

length-under : (g : Geometry) (w : Interruption) (i : ℕ) (os : List Op) → length (under g w i os) ≡ sum_of (λ o. length (progresses g w o)) os
unfolding under sum_of
length-under g w i [] = refl
length-under g w i (o ∷ os) = simp (length-append, length-map, length-under g w (suc i) os)

sum-three : (f g h : Op → ℕ) (os : List Op) → sum_of f os + sum_of g os + sum_of h os ≡ sum_of (λ o. f o + g o + h o) os
unfolding sum_of
sum-three f g h [] = refl
sum-three f g h (o ∷ os) = omega (arith, sum-three f g h os)

-- "one more opens the list"
pub list-points : (g : Geometry) (o : Op) (os : List Op) → length (injections_of g (o ∷ os)) ≡ sum_of (given g) (o ∷ os) + 1
unfolding injections_of lone
list-points g o os =
    let all = o ∷ os in
    let a = length-under g PowerLoss 0 all in
    let b = length-under g Watchdog 0 all in
    let d = length-under g Failure 0 all in
    let t = sum-three (λ q. length (progresses g PowerLoss q)) (λ q. length (progresses g Watchdog q)) (λ q. length (progresses g Failure q)) all in
    simp (length-append) (omega (arith, a, b, d, t))

-- "and an empty list has 2"
pub empty-points : (g : Geometry) → length (injections_of g []) ≡ 2
unfolding injections_of lone under
empty-points g = refl
