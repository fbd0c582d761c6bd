-- The tests' numbers, from the code's branches.
--     tested                   12 and 13 by two tests
--     lent-size, lent-columns  what refuses a run
-- Assumes nothing.
use mathlib.Core.Path.{◌≡◌, refl, sym, ◌∙◌}
use mathlib.Core.Bool.{Bool, true, false, not, ◌||◌}
use mathlib.Core.List.{[], ◌∷◌}
use Prim.Native.Nat.{ℕ}
use lib.ListN.{length}
use Rattle.basics.specs.Tests.{unless, refuse_if, first_of}
use Rattle.basics.proofs.Tests.{first_of-pass, first_of-stop}
use Rattle.refusals.specs.Tests.{columns_test}
use Rattle.session.specs.declared.Told.{Told}
use Rattle.session.specs.declared.Counters.{Counters}
use Rattle.session.specs.Log.{Log, Marks}
use Rattle.session.specs.Tests.{size_test, log_uneven_of, marks_uneven_of}
use Rattle.ledger.specs.Ledger.{codes_known, counts_short}
use Rattle.ledger.specs.Scans.{lent_number}

-- 12 for columns that are malformed, then 13 for those that are too short
pub tested : (u k s : Bool) → first_of (refuse_if u 12 ∷ unless k 12 ∷ refuse_if s 13 ∷ []) ≡ columns_test (u || not k) s
unfolding first_of refuse_if unless
tested true k s = refl
tested false false s = refl
tested false true true = refl
tested false true false = refl

module _ (t : Told) (c : Counters) (media copy : ℕ) (l : Log) (m : Marks) (u : Bool) where
  pub lent-size : (n : ℕ) → (n ≡ 0 → ⊥) → n ≡ size_test t.geometry media copy → n ≡ lent_number t c media copy l m u
  unfolding lent_number
  lent-size n h e = e ∙ sym (first_of-stop (size_test t.geometry media copy) _ (λ z. h (e ∙ z)))

  module _ (z : 0 ≡ size_test t.geometry media copy) (lu mu k s : Bool) (el : lu ≡ log_uneven_of l) (em : mu ≡ marks_uneven_of m) (ek : k ≡ codes_known c l m)
      (es : s ≡ counts_short c (length l.kinds) (length m.codes)) where
    pub lent-columns : (n : ℕ) → n ≡ columns_test (lu || mu || u || not k) s → n ≡ lent_number t c media copy l m u
    unfolding lent_number
    lent-columns n e =
        e
        ∙ (λ i. columns_test (el i || em i || u || not (ek i)) (es i))
        ∙ sym (tested (log_uneven_of l || marks_uneven_of m || u) (codes_known c l m) (counts_short c (length l.kinds) (length m.codes)))
        ∙ sym (first_of-pass (size_test t.geometry media copy) _ (sym z))
