-- Answers and their numbers: what an answer says of the test that gave its number, and what is answered then.
--     answered-ok, answered-err   what is answered where a test passes, and where it refuses
--     taken, refused              the same from a check's answer
--     in_numbered                 the number of an answer whose errors are numbered
--     numbered-one                an answer is told by its numbers, where no two errors share one
-- Assumes nothing.
use mathlib.Core.Path.{◌≡◌, refl, sym, ap, ◌∙◌}
use Rattle.std.specs.Prelude.{Result, Ok, Err}
use Prim.Native.Nat.{ℕ}
use borrow.Author.Tests.{eq-eqb, ne_eqb}
use Rattle.basics.specs.Replies.{number_in, numbered, answered}

pub answered-ok : {T : Type 0} → (n : ℕ) (x : T) → n ≡ 0 → answered n x ≡ Ok x
answered-ok n x e = simp (eq-eqb n 0 e)

pub answered-err : {T : Type 0} → (n : ℕ) (x : T) → (n ≡ 0 → ⊥) → answered n x ≡ Err n
answered-err n x h = simp (ne_eqb n 0 h)

module _ {E : Type 0} (number : E → ℕ) (nonzero : (e : E) → number e ≡ 0 → ⊥) where
  -- what is answered behind a check that passed
  pub taken : {T : Type 0} → (n : ℕ) (x : T) → 0 ≡ n → Ok x ≡ answered n x
  taken n x e = sym (answered-ok n x (sym e))

  -- behind one that refused
  pub refused : {T : Type 0} → (n : ℕ) (e : E) (x : T) → number e ≡ n → Err (number e) ≡ answered n x
  refused n e x told = sym (answered-err n x (λ z. nonzero e (told ∙ z)) ∙ ap Err (sym told))

-- the number of an answer whose errors are numbered
pub in_numbered : {T E : Type 0} → (number : E → ℕ) (r : Result T E) → number_in (λ n. n) (numbered number r) ≡ number_in number r
in_numbered number (Ok x) = refl
in_numbered number (Err e) = refl

-- an answer is told by its numbers, where no two errors share one
pub numbered-one : {T E : Type 0} → (number : E → ℕ) → ((e d : E) → number e ≡ number d → e ≡ d) → (r s : Result T E) → numbered number r ≡ numbered number s → r ≡ s
numbered-one number one (Ok x) (Ok y) h = let e : ◌≡◌ {A = Result _ ℕ} (Ok x) (Ok y) = h in cc
numbered-one number one (Ok x) (Err e) h = absurd (let z : ◌≡◌ {A = Result _ ℕ} (Ok x) (Err (number e)) = h in cc)
numbered-one number one (Err e) (Ok y) h = absurd (let z : ◌≡◌ {A = Result _ ℕ} (Err (number e)) (Ok y) = h in cc)
numbered-one number one (Err e) (Err d) h = ap Err (one e d (let z : ◌≡◌ {A = Result _ ℕ} (Err (number e)) (Err (number d)) = h in cc))
