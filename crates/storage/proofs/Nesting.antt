-- What a geometry that passes its check means: "capacity is whole erase blocks, an erase block is whole program units, and a program
-- unit is whole read units", there is at least one erase block, and every legal span lies within the device. Assumes nothing.
use mathlib.Core.Path.{◌≡◌, refl, sym, ap, ap₂, ◌∙◌}
use mathlib.Core.Logic.{⊎_elim}
use mathlib.Core.Bool.{Bool, true, false, ◌&&◌}
use mathlib.Core.List.{[], ◌∷◌}
use Prim.Native.Nat.{ℕ, ◌+◌, ◌-◌, ◌*◌, ◌/◌, ◌%◌, ◌^◌, ◌≤◌, ◌<◌}
use native.Mathlib.Nat.{mul-mod_left, div-add-mod', not-le_of_lt, pos_of_ne-zero, zero-mul}
use native.Mathlib.Omega.{arith}
use lib.Count.{ones}
use lib.Dec.{eqb, leb, ltb}
use lib.Pow.{pow-add, pow-lt}
use borrow.Author.Tests.{eqb-true, leb-true, ltb-true}
use Rattle.basics.specs.Tests.{unless}
use Rattle.basics.proofs.Tests.{le-or-gt, unless-zero, first_of-zero}
use Rattle.storage.specs.declared.Geometry.{Geometry}
use Rattle.storage.specs.Geometry.{geometry_test}
use Rattle.storage.specs.Span.{span_test}
use Rattle.storage.proofs.Powers.{one-bit}
use Rattle.storage.proofs.Checks.{nests}

-- of two powers of two the larger is whole multiples of the smaller
powers-nest : (a b : ℕ) → 2 ^ b ≤ 2 ^ a → 2 ^ a % 2 ^ b ≡ 0
powers-nest a b h =
    ⊎_elim
    (λ (l : b ≤ a).
    let e : a ≡ a - b + b = omega arith in
    ap (λ (x : ℕ). 2 ^ x % 2 ^ b) e ∙ ap (λ (x : ℕ). x % 2 ^ b) (pow-add 2 (a - b) b) ∙ mul-mod_left (2 ^ (a - b)) (2 ^ b))
    (λ (l : a < b). absurd (not-le_of_lt (pow-lt l) h))
    (le-or-gt b a)

units-nest : (larger smaller : ℕ) → ones larger ≡ 1 → ones smaller ≡ 1 → smaller ≤ larger → larger % smaller ≡ 0
units-nest larger smaller p q h =
    let a = (one-bit larger).0 p in
    let b = (one-bit smaller).0 q in
    let s : 2 ^ b.0 ≤ 2 ^ a.0 = rw (← a.1, ← b.1) h in
    ap₂ (λ (x y : ℕ). x % y) a.1 b.1 ∙ powers-nest a.0 b.0 s

module _ (g : Geometry) (sound : geometry_test g ≡ 0) where
  pub program-in-erase : g.erase_size % g.program_size ≡ 0
  program-in-erase = units-nest _ _ (nests g sound).erase-one (nests g sound).program-one (nests g sound).program-in-erase

  pub read-in-program : g.program_size % g.read_size ≡ 0
  read-in-program = units-nest _ _ (nests g sound).program-one (nests g sound).read_one (nests g sound).read-in-program

  pub whole-blocks : g.capacity / g.erase_size * g.erase_size ≡ g.capacity
  whole-blocks =
      let w : g.capacity % g.erase_size ≡ 0 = (nests g sound).whole-blocks in
      omega (arith, div-add-mod' g.capacity g.erase_size)

  pub some_block : 0 < g.capacity / g.erase_size
  some_block = pos_of_ne-zero (λ (e : g.capacity / g.erase_size ≡ 0).
      let z : 0 ≡ g.capacity = sym (zero-mul g.erase_size) ∙ ap (λ (x : ℕ). x * g.erase_size) (sym e) ∙ whole-blocks in
      let p : 0 < g.capacity = (nests g sound).capacity-pos in
      omega arith)

-- what an unrefused span knows
pub record Legal (g : Geometry) (unit offset len : ℕ) : Type 0 where
  pub geometry : geometry_test g ≡ 0
  pub offset-whole : offset % unit ≡ 0
  pub length_whole : len % unit ≡ 0
  pub fits : offset + len < 2 ^ 32
  pub inside : offset + len ≤ g.capacity

first : (a b : Bool) → (a && b) ≡ true → a ≡ true
first true b e = refl
first false b e = e

second : (a b : Bool) → (a && b) ≡ true → b ≡ true
second true b e = e
second false b e = let z : false ≡ true = e in cc

pub legal : (g : Geometry) (unit offset len : ℕ) → span_test g unit offset len ≡ 0 → Legal g unit offset len
unfolding span_test
legal g unit offset len e =
    let six = unless (ltb (offset + len) (2 ^ 32) && leb (offset + len) g.capacity) 6 in
    let five = unless (eqb (len % unit) 0) 5 in
    let four = unless (eqb (offset % unit) 0) 4 in
    let one = first_of-zero (geometry_test g) (four ∷ five ∷ six ∷ []) e in
    let two = first_of-zero four (five ∷ six ∷ []) one.1 in
    let three = first_of-zero five (six ∷ []) two.1 in
    let last = first_of-zero six [] three.1 in
    record {
      geometry = one.0;
      offset-whole = eqb-true (offset % unit) 0 (unless-zero (eqb (offset % unit) 0) 3 two.0);
      length_whole = eqb-true (len % unit) 0 (unless-zero (eqb (len % unit) 0) 4 three.0);
      fits = ltb-true (offset + len) (2 ^ 32) (first (ltb (offset + len) (2 ^ 32)) (leb (offset + len) g.capacity) (unless-zero _ 5 last.0));
      inside = leb-true (offset + len) g.capacity (second (ltb (offset + len) (2 ^ 32)) (leb (offset + len) g.capacity) (unless-zero _ 5 last.0));
    }
