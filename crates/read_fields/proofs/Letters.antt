-- A field of one byte: what each way out of `read_letter` answers. Assumes nothing.
use mathlib.Core.Path.{◌≡◌, refl}
use Prim.Native.Nat.{ℕ, ◌+◌, ◌≤◌, ◌<◌}
use mathlib.Core.List.{List}
use lib.ListN.{length, get_or, drop}
use Rattle.text.specs.Fields.{Field, field, missing, onto, field_to}
use Rattle.text.proofs.Fields.{field_out, field-here, field_step}
use Rattle.std.specs.Prelude.{Some, None}
use Rattle.read_fields.specs.Answers.{letter_at}

two-long : (from x y : ℕ) (F : Field) → None ≡ letter_at from (onto x (onto y F))
two-long from x y missing = refl
two-long from x y (field f) = refl

module _ (s : List ℕ) (from end : ℕ) where
  pub letter-out : length s ≤ from → None ≡ letter_at from (field_to end (drop from s))
  letter-out h = rw (field_out s from end h)

  module _ (h : from < length s) where
    pub letter-empty : get_or s from 0 ≡ end → None ≡ letter_at from (field_to end (drop from s))
    letter-empty q = rw (field-here s from end h q)

    module _ (q : get_or s from 0 ≡ end → ⊥) where
      pub letter-cut : length s ≤ from + 1 → None ≡ letter_at from (field_to end (drop from s))
      letter-cut k = rw (field_step s from end h q, field_out s (from + 1) end k)

      module _ (k : from + 1 < length s) where
        pub letter-long : (get_or s (from + 1) 0 ≡ end → ⊥) → None ≡ letter_at from (field_to end (drop from s))
        letter-long p = rw (field_step s from end h q, field_step s (from + 1) end k p) (two-long from (get_or s from 0) (get_or s (from + 1) 0) (field_to end (drop (from + 1 + 1) s)))

        pub letter-one : get_or s (from + 1) 0 ≡ end → Some (get_or s from 0, from + 2) ≡ letter_at from (field_to end (drop from s))
        letter-one p = rw (field_step s from end h q, field-here s (from + 1) end k p)

-- all of them, for `search (rules, letters)`
pub ruleset letters = (letter-out, letter-empty, letter-cut, letter-long, letter-one)
