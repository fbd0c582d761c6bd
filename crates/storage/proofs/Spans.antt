-- The span check, test by test: what each way out of `Geometry::validate` answers. Assumes nothing.
use mathlib.Core.Path.{◌≡◌, refl}
use mathlib.Core.Bool.{Bool, true, false, ◌&&◌}
use Prim.Native.Nat.{ℕ, ◌+◌, ◌%◌, ◌^◌, ◌≤◌, ◌<◌}
use native.Mathlib.Omega.{arith}
use lib.Dec.{eqb}
use borrow.Author.Tests.{lt-ltb, le-leb, lt-leb}
use Rattle.basics.specs.Tests.{unless, first_of}
use Rattle.storage.specs.declared.Geometry.{Geometry}
use Rattle.storage.specs.Geometry.{geometry_test}
use Rattle.storage.specs.Span.{span_test}

module _ (g : Geometry) (unit offset len : ℕ) (sound : geometry_test g ≡ 0) where
  pub span-offset : eqb (offset % unit) 0 ≡ false → span_test g unit offset len ≡ 4
  unfolding span_test first_of unless
  span-offset o = simp (sound, o)

  pub span-length : eqb (offset % unit) 0 ≡ true → eqb (len % unit) 0 ≡ false → span_test g unit offset len ≡ 5
  unfolding span_test first_of unless
  span-length o l = simp (sound, o, l)

  pub span-end : eqb (offset % unit) 0 ≡ true → eqb (len % unit) 0 ≡ true → g.capacity < offset + len → span_test g unit offset len ≡ 6
  unfolding span_test first_of unless
  span-end o l e = simp (sound, o, l, lt-leb _ _ e, and-false)
    where
      and-false : (b : Bool) → (b && false) ≡ false
      and-false true = refl
      and-false false = refl

  pub span-legal : eqb (offset % unit) 0 ≡ true → eqb (len % unit) 0 ≡ true → g.capacity < 2 ^ 32 → offset + len ≤ g.capacity
      → span_test g unit offset len ≡ 0
  unfolding span_test first_of unless
  span-legal o l c e = let f : offset + len < 2 ^ 32 = omega arith in simp (sound, o, l, lt-ltb _ _ f, le-leb _ _ e)
