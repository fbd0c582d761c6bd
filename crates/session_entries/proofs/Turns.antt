-- The turns of a loop over the rows of a log: index i below n, whose entries are 32 bytes each. Assumes nothing.
use mathlib.Core.Path.{◌≡◌, ap, ◌∙◌}
use Prim.Native.Nat.{ℕ, zero, suc, ◌<◌, ◌≤◌, ◌^◌, ◌*◌, ◌+◌, ◌-◌}
use native.Mathlib.Nat.{add-zero, add-suc}
use native.Mathlib.Omega.{arith}

pub one_more : (i : ℕ) → i + 1 ≡ suc i
one_more i = add-suc i zero ∙ ap suc (add-zero i)

pub same_number : (i n : ℕ) → i ≤ n → n ≤ i → i ≡ n
same_number i n l m = omega (arith, l, m)

pub row_fits : (i n : ℕ) → i < n → n * 32 < 2 ^ 63 → i * 32 < 2 ^ 64
row_fits i n l m = omega (arith, l, m)

pub below-fits : (i n : ℕ) → i < n → n < 2 ^ 64 → i < 2 ^ 64
below-fits i n l m = omega (arith, l, m)

pub next_fits : (i n : ℕ) → i < n → n < 2 ^ 64 → i + 1 < 2 ^ 64
next_fits i n l m = omega (arith, l, m)

pub closer : (i n : ℕ) → i < n → n - suc i < n - i
closer i n l = omega (arith, l)

pub none : (n : ℕ) → 0 ≤ n
none n = omega arith
