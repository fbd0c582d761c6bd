-- The part of a pool that is there is the part. Assumes nothing.
use mathlib.Core.Logic.{⊎_elim}
use mathlib.Core.Path.{◌≡◌, sym, ap, ◌∙◌}
use mathlib.Core.List.{List, []}
use Prim.Native.Nat.{ℕ, ◌+◌, ◌-◌, ◌≤◌, ◌<◌, min}
use native.Mathlib.Omega.{arith}
use lib.ListN.{length, take, drop, length-drop, drop_of_length-le}
use lib.Seq.{take_all}
use Rattle.basics.proofs.Tests.{le-or-gt}

module _ (pool : List ℕ) (start n from to : ℕ) (f : from ≡ min start (length pool)) (e : to ≡ min (start + n) (length pool)) where
  -- all of it is there
  whole : start + n ≤ length pool → take (to - from) (drop from pool) ≡ take n (drop start pool)
  whole h =
      let a : from ≡ start = omega arith in
      let b : to - from ≡ n = omega arith in
      rw (b, a)

  -- it starts within the pool, and ends behind it
  begun-inside : start ≤ length pool → length pool < start + n → take (to - from) (drop from pool) ≡ take n (drop start pool)
  begun-inside h k =
      let a : from ≡ start = omega arith in
      let b : length (drop start pool) ≤ to - from = rw length-drop (omega arith) in
      let d : length (drop start pool) ≤ n = rw length-drop (omega arith) in
      ap (λ (k : ℕ). take (to - from) (drop k pool)) a ∙ take_all (to - from) (drop start pool) b ∙ sym (take_all n (drop start pool) d)

  -- it starts behind the pool
  behind : length pool < start → take (to - from) (drop from pool) ≡ take n (drop start pool)
  behind h =
      let a : length pool ≤ from = omega arith in
      let b : length pool ≤ start = omega arith in
      rw (drop_of_length-le pool a, drop_of_length-le pool b) (none (to - from) ∙ sym (none n))
    where
      none : (k : ℕ) → ◌≡◌ {A = List ℕ} (take k []) []
      none k = take_all k [] (omega arith)

  pub part-there : take (to - from) (drop from pool) ≡ take n (drop start pool)
  part-there = ⊎_elim whole (λ k. ⊎_elim (λ h. begun-inside h k) behind (le-or-gt start (length pool))) (le-or-gt (start + n) (length pool))

  pub in-order : from ≤ to
  in-order = omega arith

  pub to_inside : to ≤ length pool
  to_inside = omega arith
