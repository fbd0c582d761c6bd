-- What the scans over the rows find, a row at a time, and the numbers of the tests. Assumes nothing.
use mathlib.Core.Path.{◌≡◌, refl, sym, ap, ◌∙◌}
use mathlib.Core.Bool.{Bool, true, false, not, ◌&&◌, ◌||◌}
use mathlib.Core.List.{List, [], ◌∷◌}
use Prim.Native.Nat.{ℕ, ◌+◌, ◌≤◌, ◌<◌, min}
use native.Mathlib.Nat.{add_assoc}
use native.Mathlib.Omega.{arith}
use mir.Val.{bool_byte}
use lib.ListN.{length, get_or, take, drop}
use lib.Dec.{eqb, ltb}
use Rattle.basics.specs.Tests.{flag, unless, refuse_if, first_of}
use Rattle.basics.proofs.Scans.{at-step, at-end}
use Rattle.basics.proofs.Lists.{take-lower}
use Rattle.model.specs.Columns.{all_up_to}
use Rattle.refusals.specs.Tests.{columns_test}
use Rattle.script.specs.Columns.{Columns}
use Rattle.rows.specs.Rows.{any_outside, contents_number, takes, begins_from}

-- ---- begins

module _ (ks : List ℕ) (begins marks i : ℕ) (e : begins_from 0 ks ≡ begins + begins_from marks (drop i ks)) where
  pub begins-row : i < length ks → begins_from 0 ks
      ≡ begins + flag (takes marks (get_or ks i 0) && eqb (get_or ks i 0) 3) + begins_from (marks + flag (takes marks (get_or ks i 0))) (drop (i + 1) ks)
  unfolding begins_from
  begins-row h =
      e ∙ ap (λ (n : ℕ). begins + n) (at-step (begins_from marks) ks i 0 h)
      ∙ sym (add_assoc begins (flag (takes marks (get_or ks i 0) && eqb (get_or ks i 0) 3)) (begins_from (marks + flag (takes marks (get_or ks i 0))) (drop (i + 1) ks)))

  pub begins-all : length ks ≤ i → begins ≡ begins_from 0 ks
  unfolding begins_from
  begins-all h = sym (e ∙ ap (λ (n : ℕ). begins + n) (at-end (begins_from marks) ks i h) ∙ plus_none)
    where
      plus_none : begins + 0 ≡ begins
      plus_none = omega arith

-- a flag as a number, told by the byte that it is
module _ (b : Bool) (n : ℕ) (e : n ≡ bool_byte b) where
  pub flag-is : n ≡ flag b
  flag-is = e ∙ same b
    where
      same : (b : Bool) → bool_byte b ≡ flag b
      same true = refl
      same false = refl

  pub flag-le : n ≤ 1
  flag-le = rw e (small b)
    where
      small : (b : Bool) → bool_byte b ≤ 1
      small true = omega arith
      small false = omega arith

-- ---- the numbers

module _ (most rows : ℕ) (k : Columns) (short : Bool) (n : ℕ) (m : n ≡ min rows (length k.kinds)) (known : Bool) (a : known ≡ all_up_to most (take n k.kinds))
    (es : length k.seconds ≡ length k.kinds) (et : length k.starts ≡ length k.kinds) where
  known-are : known ≡ all_up_to most (take rows k.kinds)
  known-are = a ∙ ap (λ (j : ℕ). all_up_to most (take j k.kinds)) m ∙ ap (all_up_to most) (take-lower rows k.kinds)

  module _ (outside : Bool) (o : outside ≡ any_outside (length k.pool) (take n k.kinds) (take n k.seconds) (take n k.starts)) where
    outside-is : outside ≡ any_outside (length k.pool) (take rows k.kinds) (take rows k.seconds) (take rows k.starts)
    outside-is =
        let s : take n k.seconds ≡ take rows k.seconds = ap (λ (j : ℕ). take j k.seconds) (m ∙ ap (min rows) (sym es)) ∙ take-lower rows k.seconds in
        let t : take n k.starts ≡ take rows k.starts = ap (λ (j : ℕ). take j k.starts) (m ∙ ap (min rows) (sym et)) ∙ take-lower rows k.starts in
        let d : take n k.kinds ≡ take rows k.kinds = ap (λ (j : ℕ). take j k.kinds) m ∙ take-lower rows k.kinds in
        o ∙ λ i. any_outside (length k.pool) (d i) (s i) (t i)

    -- a kind that is not known is 12
    unless-not : (b : Bool) → refuse_if (not b) 12 ≡ unless b 12
    unfolding refuse_if unless
    unless-not true = refl
    unless-not false = refl

    pub contents-are : columns_test (not known) (short || ltb (length k.kinds) rows || outside) ≡ contents_number most rows k short
    unfolding contents_number
    contents-are =
        ap (λ (u : ℕ). first_of (u ∷ refuse_if (short || ltb (length k.kinds) rows || outside) 13 ∷ [])) (unless-not known)
        ∙ λ i. first_of (unless (known-are i) 12 ∷ refuse_if (short || ltb (length k.kinds) rows || outside-is i) 13 ∷ [])
