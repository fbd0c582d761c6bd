-- What a session's call that is not refused knows. Assumes nothing.
use mathlib.Core.Path.{◌≡◌, refl}
use mathlib.Core.Bool.{Bool, true, false, not, ◌||◌}
use Prim.Native.Nat.{ℕ, ◌<◌}
use lib.Dec.{eqb, ltb}
use borrow.Author.Tests.{eqb-true, ltb-true, not-false}
use Rattle.basics.proofs.Tests.{unless-zero, refuse-zero}
use Rattle.storage.specs.declared.Geometry.{Geometry}
use Rattle.session.specs.Tests.{size_test, operation_test}

-- where neither of two faults is there, each is absent
none_of_two : (a b : Bool) → (a || b) ≡ false → (a ≡ false) × (b ≡ false)
none_of_two true b e = let z : true ≡ false = e in (z, cc)
none_of_two false b e = (refl, e)

pub operation-room : (operations : ℕ) → operation_test operations ≡ 0 → operations < 1024
unfolding operation_test
operation-room operations e = ltb-true operations 1024 (unless-zero (ltb operations 1024) 26 e)

-- a taken call's media and copy are of capacity length
pub sizes-fit : (g : Geometry) (media copy : ℕ) → size_test g media copy ≡ 0 → (media ≡ g.capacity) × (copy ≡ g.capacity)
unfolding size_test
sizes-fit g media copy e =
    let f = refuse-zero (not (eqb media g.capacity) || not (eqb copy g.capacity)) 6 e in (
      eqb-true media g.capacity (not-false (eqb media g.capacity) (none_of_two _ _ f).0),
      eqb-true copy g.capacity (not-false (eqb copy g.capacity) (none_of_two (not (eqb media g.capacity)) _ f).1),
    )
