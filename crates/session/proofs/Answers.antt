-- An answer, its number, and what a column holds of it.
--     is-refused, is-passed    which way a call goes is told by its test's number
--     byte-flag                a yes or no in a column
--     answered-flag            whether 0 was answered, in a column
-- Assumes nothing.
use mathlib.Core.Path.{◌≡◌, refl, sym, ap, ◌∙◌}
use mathlib.Core.Bool.{Bool, true, false}
use Prim.Native.Nat.{ℕ}
use lib.Dec.{eqb}
use borrow.Author.Tests.{ne_eqb}
use mir.Val.{bool_byte}
use Rattle.std.specs.Prelude.{Result, Ok, Err}
use Rattle.std.specs.Result.{is_err, is_ok}
use Rattle.basics.specs.Tests.{flag}
use Rattle.basics.specs.Replies.{number_in}
use Rattle.refusals.specs.declared.Refusal.{Refusal}
use Rattle.refusals.specs.Numbers.{number_of}
use Rattle.refusals.specs.Nonzero.{refusal-nonzero}

pub is-refused : {T : Type 0} → (r : Result T Refusal) (b : Bool) → b ≡ is_err r → b ≡ true → number_in number_of r ≡ 0 → ⊥
is-refused (Ok x) b e f z = let g : ◌≡◌ {A = Bool} false true = sym e ∙ f in cc
is-refused (Err d) b e f z = refusal-nonzero d z

pub is-passed : {T : Type 0} → (r : Result T Refusal) (b : Bool) → b ≡ is_err r → b ≡ false → number_in number_of r ≡ 0
is-passed (Ok x) b e f = refl
is-passed (Err d) b e f = let g : ◌≡◌ {A = Bool} true false = sym e ∙ f in cc

pub byte-flag : (b : Bool) (n : ℕ) → n ≡ bool_byte b → n ≡ flag b
byte-flag true n e = e
byte-flag false n e = e

is-answered : {T : Type 0} → (r : Result T Refusal) → is_ok r ≡ eqb (number_in number_of r) 0
is-answered (Ok x) = refl
is-answered (Err d) = sym (ne_eqb (number_of d) 0 (refusal-nonzero d))

pub answered-flag : {T : Type 0} → (r : Result T Refusal) (b : Bool) (n : ℕ) → b ≡ is_ok r → n ≡ bool_byte b → n ≡ flag (eqb (number_in number_of r) 0)
answered-flag r b n e f = byte-flag b n f ∙ ap flag (e ∙ is-answered r)
