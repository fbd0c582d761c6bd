-- The verdict by the tests of `judged`, and what `verify_oracle` makes of it: r is what the columns' own test answers, and a what
-- `map_err` makes of that.
-- Assumes nothing.
use mathlib.Core.Path.{◌≡◌, refl, sym, ◌∙◌}
use mathlib.Core.Bool.{Bool, true, false, cond}
use mathlib.Core.List.{List, [], ◌∷◌}
use Prim.Native.Nat.{ℕ}
use lib.ListN.{length}
use lib.Dec.{eqb}
use borrow.Author.Tests.{eq-eqb, ne_eqb, eqb-true}
use Rattle.std.specs.Prelude.{Result, Ok, Err, MatchResult, IsErrAnd}
use Rattle.basics.specs.Replies.{number_in}
use Rattle.refusals.specs.declared.Refusal.{Refusal}
use Rattle.refusals.specs.Numbers.{number_of}
use Rattle.refusals.specs.Nonzero.{refusal-nonzero}
use Rattle.model.specs.Ledger.{Entry, committed, acknowledged}
use Rattle.model.specs.Columns.{ledger_of, refused}
use Rattle.model.specs.Scans.{ids_from}
use Rattle.model.proofs.Codes.{refused_none}
use Rattle.model.proofs.Rows.{ids-are, committed-from, acknowledged-from}
use Rattle.oracle.specs.Verdict.{Banks, Verdict, Accepted, first_breach, seen_before, first_fault, differs, first_lost, banks_breach, verdict, verified}
use Rattle.oracle.specs.declared.Breach.{Breach}
use Rattle.oracle.specs.declared.Breach.TheVariants.{LostAnAcknowledgedRecord, DispatchedWithoutADurableIntent, Refused}
use Rattle.oracle.proofs.Breaches.{not-accepted}

-- the tests from one on, in the verdict's order
module _ (l : List Entry) (h d : List ℕ) (b : Banks) where
  abbrev pub from36 : List Verdict
  from36 = first_lost DispatchedWithoutADurableIntent h d ∷ banks_breach b ∷ []

  abbrev pub from35 : List Verdict
  from35 = first_lost LostAnAcknowledgedRecord h (acknowledged l) ∷ from36

  abbrev pub from32 : List Verdict
  from32 = differs 0 (committed l) h ∷ from35

  abbrev pub from33 : List Verdict
  from33 = first_fault l h ∷ from32

module _ (is ss ts h d : List ℕ) (b : Banks) where
  -- the verdict by the columns
  module _ (p : length ss ≡ length is) (q : length ts ≡ length is) where
    pub verdict-is : verdict (ledger_of is ss ts) h d b
        ≡ first_breach
        (seen_before [] is
        ∷ first_fault (ledger_of is ss ts) h
        ∷ differs 0 (ids_from 1 is ss) h
        ∷ first_lost LostAnAcknowledgedRecord h (ids_from 2 is ss)
        ∷ from36 (ledger_of is ss ts) h d b)
    unfolding verdict
    verdict-is = rw (ids-are is ss ts p q, committed-from is ss ts p q, acknowledged-from is ss ts p q) refl

  -- what is made of the answer of the columns' own test
  abbrev tested : Verdict
  tested = cond (eqb (refused is ss ts) 0) Accepted (Err Refused)

  made : (r : Result (Unit {0}) Refusal) (a : Verdict) (Q : Refusal → Breach → Type 0) → number_in number_of r ≡ refused is ss ts
      → MatchResult r (λ x. a ≡ Ok x) (λ n. IsErrAnd a (Q n)) → ((n : Refusal) (x : Breach) → Q n x → x ≡ Refused) → a ≡ tested
  made (Ok x) a Q e m f = m ∙ sym (simp (eq-eqb _ 0 (sym e)))
  made (Err n) (Ok x) Q e m f = absurd m
  made (Err n) (Err x) Q e m f = rw (f n x m) (sym (simp (sym e, ne_eqb _ 0 (refusal-nonzero n))))

  module _ (r : Result (Unit {0}) Refusal) (a : Verdict) (Q : Refusal → Breach → Type 0) (e : number_in number_of r ≡ refused is ss ts)
      (m : MatchResult r (λ x. a ≡ Ok x) (λ n. IsErrAnd a (Q n))) (f : (n : Refusal) (x : Breach) → Q n x → x ≡ Refused) where
    pub refused-12 : (x : Breach) → a ≡ Err x → Err x ≡ verified is ss ts h d b
    unfolding verified
    refused-12 x w = step (eqb (refused is ss ts) 0) (sym w ∙ made r a Q e m f)
      where
        step : (z : Bool) → Err x ≡ cond z Accepted (Err Refused) → Err x ≡ cond z (verdict (ledger_of is ss ts) h d b) (Err Refused)
        step true g = absurd (not-accepted x g)
        step false g = g

    module _ (w : a ≡ Accepted) where
      none : refused is ss ts ≡ 0
      none = step (eqb (refused is ss ts) 0) refl (sym w ∙ made r a Q e m f)
        where
          step : (z : Bool) → eqb (refused is ss ts) 0 ≡ z → Accepted ≡ cond z Accepted (Err Refused) → refused is ss ts ≡ 0
          step true q g = eqb-true _ 0 q
          step false q g = absurd (not-accepted Refused (sym g))

      pub long-states : length ss ≡ length is
      long-states = (refused_none is ss ts none).states

      pub long-torn : length ts ≡ length is
      long-torn = (refused_none is ss ts none).torns

      pub judged-is : (v : Verdict) → v ≡ verdict (ledger_of is ss ts) h d b → v ≡ verified is ss ts h d b
      unfolding verified
      judged-is v g = simp (eq-eqb _ 0 none, g)
