-- The library's next multiple is the definition's count raised to whole units. Assumes nothing.
use mathlib.Core.Path.{◌≡◌, subst}
use Prim.Native.Nat.{ℕ, zero, suc, ◌+◌, ◌-◌, ◌*◌, ◌/◌, ◌%◌, ◌<◌}
use native.Mathlib.Nat.{add-zero, sub-zero, mul-add-div, div-add-mod, mod-lt, mod-eq_of_lt, mod_self, div-eq_of_lt, mul_comm, mul-suc}
use native.Mathlib.Omega.{arith}
use Rattle.std.specs.Int.{next_multiple_of}

-- with so many whole units and a rest below one, the rest is raised to a unit where there is any
raised : (u q r : ℕ) → 0 < u → r < u → (u * q + r) + (u - r) % u ≡ ((u * q + r) + (u - 1)) / u * u
raised u q zero p h =
    let a : (u - 0) % u ≡ 0 = rw (sub-zero u) (mod_self u) in
    let b : (u * q + (u - 1)) / u ≡ q + (u - 1) / u = mul-add-div p q (u - 1) in
    let d : (u - 1) / u ≡ 0 = div-eq_of_lt (omega (arith, p)) in
    simp (add-zero, a, b, d, mul_comm q u)
raised u q (suc r) p h =
    let a : (u - suc r) % u ≡ u - suc r = mod-eq_of_lt (omega (arith, h)) in
    let s : (u * q + suc r) + (u - 1) ≡ u * (q + 1) + r = omega (arith, h, mul-suc u q) in
    let b : (u * (q + 1) + r) / u ≡ (q + 1) + r / u = mul-add-div p (q + 1) r in
    let d : r / u ≡ 0 = div-eq_of_lt (omega (arith, h)) in
    rw (a, s, b, d) (omega (arith, h, mul_comm u (q + 1)))

pub next-raised : (n u : ℕ) → 0 < u → next_multiple_of n u ≡ (n + (u - 1)) / u * u
next-raised n u p = subst (λ x. x + (u - n % u) % u ≡ (x + (u - 1)) / u * u) (div-add-mod n u) (raised u (n / u) (n % u) p (mod-lt n p))
