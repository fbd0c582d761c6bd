-- Whether a line fits: its size against what is left of the room.
--     fit-start                 before the loop over the fields
--     fit-more, fit-out         a field that fits, and one that does not
--     fit-end                   nothing is left to fit
-- Assumes nothing.
use mathlib.Core.Path.{◌≡◌, sym, ◌∙◌}
use mathlib.Core.Logic.{⊎_elim}
use mathlib.Core.Bool.{Bool, true, false}
use Prim.Native.Nat.{ℕ, ◌+◌, ◌-◌, ◌≤◌, ◌<◌}
use native.Mathlib.Omega.{arith}
use lib.Dec.{leb}
use borrow.Author.Tests.{le-leb, lt-leb, leb-true}
use Rattle.basics.proofs.Tests.{le-or-gt}

same-leb : (a b c d : ℕ) → (a ≤ b → c ≤ d) → (b < a → d < c) → leb a b ≡ leb c d
same-leb a b c d f g = ⊎_elim (λ h. le-leb a b h ∙ sym (le-leb c d (f h))) (λ h. lt-leb a b h ∙ sym (lt-leb c d (g h))) (le-or-gt a b)

module _ (size at room : ℕ) where
  -- f is whether the line without its fields fits, and n how long they are
  module _ (f : Bool) (e : f ≡ leb (at + size) room) (n : ℕ) where
    pub fit-start : f ≡ true → leb (at + size + n) room ≡ leb n (room - at - size)
    fit-start h =
        let k : at + size ≤ room = leb-true (at + size) room (sym e ∙ h) in
        same-leb (at + size + n) room n (room - at - size) (λ g. omega arith) (λ g. omega arith)

-- b is the answer for the whole, and what is left is to fit into `left`
module _ (b : Bool) (rest left : ℕ) (e : b ≡ leb rest left) where
  pub fit-more : (n m : ℕ) → rest ≡ n + m → n ≤ left → b ≡ leb m (left - n)
  fit-more n m r h = e ∙ same-leb rest left m (left - n) (λ k. omega arith) (λ k. omega arith)

  pub fit-out : (n m : ℕ) → rest ≡ n + m → left < n → false ≡ b
  fit-out n m r h = sym (e ∙ lt-leb rest left (omega arith))

  pub fit-end : rest ≡ 0 → true ≡ b
  fit-end z = sym (e ∙ le-leb rest left (omega arith))
