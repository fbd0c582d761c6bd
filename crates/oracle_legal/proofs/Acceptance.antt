-- What a verdict 0 means.
--     accepts-exactly     the verdict on any list of entries accepts exactly if the recovery is legal
--     zero-exactly        the same by its number
--     twice-first         a ledger that names one id twice answers 31, whatever else is wrong
--     accepts-columns     the same of `verify_oracle`: it accepts exactly if the columns hold a ledger and the recovery is legal
--     acceptance          both, of the columns that `verify_oracle` is lent and of its number
-- Assumes nothing.
use mathlib.Core.Path.{◌≡◌, refl, sym, ap, subst, ◌∙◌}
use mathlib.Core.Logic.{◌⊎◌, inl, inr, ⊎_elim, ◌↔◌}
use mathlib.Core.Bool.{Bool, true, false, cond, true≢false}
use mathlib.Core.List.Memᴰ
use mathlib.Core.List.{List, [], ◌∷◌, ◌++◌, Memᴰ}
use Prim.Native.Nat.{ℕ}
use lib.Dec.{eqb}
use borrow.Author.Tests.{eq-eqb, eqb-true, not-true}
use Rattle.model.specs.Ledger.{Entry, is_attempted, is_committed, is_torn, ids, committed, acknowledged, torn, lookup, passes}
use Rattle.model.specs.Columns.{ledger_of, refused}
use Rattle.id_columns.specs.Ids.{has, Distinct}
use Rattle.id_columns.proofs.Members.{known, not-both}
use Rattle.model.proofs.Lookups.{looked-in, looked-only}
use Rattle.model.proofs.Codes.{Sound, refused_none}
use Rattle.model.proofs.Rows.{ids-are}
use Rattle.std.specs.Prelude.{Option, None, Some, Err}
use Rattle.basics.specs.Replies.{number_in}
use Rattle.oracle.specs.Verdict.{Verdict, Accepted, Banks, number_of, first_breach, seen_before, first_fault, differs, first_lost, banks_breach, verdict, verified}
use Rattle.oracle_legal.specs.Legal.{Beginning, Legal}
use Rattle.oracle_legal.specs.Acceptance.{Acceptance}
use Rattle.oracle.specs.declared.Breach.TheVariants.{DuplicateRecordId, LostAnAcknowledgedRecord, DispatchedWithoutADurableIntent, Refused}
use Rattle.oracle.proofs.Breaches.{number-zero, not-accepted, breach-past, breach-here, breach-none}
use Rattle.oracle.proofs.Say.{from33, from32, from35, from36}
use Rattle.oracle_legal.proofs.Accepting.{none_seen, seen_none, none-faulty, faulty-none, nowhere-beginning, beginning-nowhere, none-lost, lost-none, banks-pass, pass-banks}

not-attempted : (o : Option Entry) → passes is_committed o ≡ true → passes is_attempted o ≡ false
not-attempted None e = absurd (true≢false (sym e))
not-attempted (Some e) t = not-true (is_attempted e) t

seen-or-31 : (seen xs : List ℕ) → (seen_before seen xs ≡ Accepted) ⊎ ((x : ℕ) × (seen_before seen xs ≡ Err (DuplicateRecordId x)))
unfolding seen_before
seen-or-31 seen [] = inl refl
seen-or-31 seen (x ∷ xs) = step (seen-or-31 (seen ++ (x ∷ [])) xs) (has seen x)
  where
    step : {v : Verdict} → (v ≡ Accepted) ⊎ ((y : ℕ) × (v ≡ Err (DuplicateRecordId y))) → (b : Bool)
        → (cond b (Err (DuplicateRecordId x)) v ≡ Accepted) ⊎ ((y : ℕ) × (cond b (Err (DuplicateRecordId x)) v ≡ Err (DuplicateRecordId y)))
    step r true = inr (x, refl)
    step r false = r

module _ (l : List Entry) (h d : List ℕ) (b : Banks) where
  legal-of : verdict l h d b ≡ Accepted → Legal l h d b
  unfolding verdict torn
  legal-of e =
      let p31 : (seen_before [] (ids l) ≡ Accepted) × (first_breach (from33 l h d b) ≡ Accepted) = breach-none _ _ e in
      let p33 : (first_fault l h ≡ Accepted) × (first_breach (from32 l h d b) ≡ Accepted) = breach-none _ _ p31.1 in
      let p32 : (differs 0 (committed l) h ≡ Accepted) × (first_breach (from35 l h d b) ≡ Accepted) = breach-none _ _ p33.1 in
      let p35 : (first_lost LostAnAcknowledgedRecord h (acknowledged l) ≡ Accepted) × (first_breach (from36 l h d b) ≡ Accepted) = breach-none _ _ p32.1 in
      let p36 : (first_lost DispatchedWithoutADurableIntent h d ≡ Accepted) × (first_breach (banks_breach b ∷ []) ≡ Accepted) = breach-none _ _ p35.1 in
      let distinct = (none_seen [] (ids l) p31.0).0 in
      record {
        distinct = distinct;
        beginning = nowhere-beginning 0 (committed l) h p32.0;
        untorn = λ x m t. not-both (looked-only is_torn x l distinct t) (none-faulty l h p33.0 x m).1;
        kept = none-lost LostAnAcknowledgedRecord h (acknowledged l) p35.0;
        accounted = none-lost DispatchedWithoutADurableIntent h d p36.0;
        banks = banks-pass b (breach-none (banks_breach b) [] p36.1).0;
      }

  in-committed : Beginning h (committed l) → (x : ℕ) → Memᴰ x h → Memᴰ x (committed l)
  in-committed g x m = rw (← g.joined) (Memᴰ.append_left g.rest m)

  -- what is recovered is committed, so not attempted, and not torn
  sound : Legal l h d b → (x : ℕ) → Memᴰ x h → (passes is_attempted (lookup x l) ≡ false) × (passes is_torn (lookup x l) ≡ false)
  unfolding committed torn
  sound g x m = (
    not-attempted (lookup x l) (looked-only is_committed x l g.distinct (in-committed g.beginning x m)),
    ⊎_elim (λ (t : passes is_torn (lookup x l) ≡ true). absurd (g.untorn x m (looked-in is_torn x l t))) (λ (f : passes is_torn (lookup x l) ≡ false). f) (known (passes is_torn (lookup x l))),
  )

  accepted-of : Legal l h d b → verdict l h d b ≡ Accepted
  unfolding verdict first_breach
  accepted-of g =
      breach-past (seen_before [] (ids l)) (from33 l h d b) (seen_none [] (ids l) g.distinct (λ x m s. Memᴰ.not-nil s))
      ∙ breach-past (first_fault l h) (from32 l h d b) (faulty-none l h (sound g))
      ∙ breach-past (differs 0 (committed l) h) (from35 l h d b) (beginning-nowhere 0 (committed l) h g.beginning)
      ∙ breach-past (first_lost LostAnAcknowledgedRecord h (acknowledged l)) (from36 l h d b) (lost-none LostAnAcknowledgedRecord h (acknowledged l) g.kept)
      ∙ breach-past (first_lost DispatchedWithoutADurableIntent h d) (banks_breach b ∷ []) (lost-none DispatchedWithoutADurableIntent h d g.accounted)
      ∙ breach-past (banks_breach b) [] (pass-banks b g.banks)

  pub accepts-exactly : (verdict l h d b ≡ Accepted) ↔ Legal l h d b
  accepts-exactly = (legal-of, accepted-of)

  pub zero-exactly : (number_in number_of (verdict l h d b) ≡ 0) ↔ Legal l h d b
  zero-exactly = ((λ e. legal-of (number-zero (verdict l h d b) e)), λ g. ap (number_in number_of) (accepted-of g))

  pub twice-first : (Distinct (ids l) → ⊥) → number_in number_of (verdict l h d b) ≡ 31
  unfolding verdict
  twice-first n =
      ⊎_elim
      (λ (e : seen_before [] (ids l) ≡ Accepted). absurd (n (none_seen [] (ids l) e).0))
      (λ (e : (x : ℕ) × (seen_before [] (ids l) ≡ Err (DuplicateRecordId x))). ap (number_in number_of) (breach-here (seen_before [] (ids l)) (from33 l h d b) (DuplicateRecordId e.0) e.1))
      (seen-or-31 [] (ids l))

-- the same of three columns
pick-12 : (w : Bool) (v : Verdict) → cond w v (Err Refused) ≡ Accepted → (w ≡ true) × (v ≡ Accepted)
pick-12 true v e = (refl, e)
pick-12 false v e = absurd (not-accepted Refused e)

module _ (is ss ts h d : List ℕ) (b : Banks) where
  abbrev l : List Entry
  l = ledger_of is ss ts

  columns-legal : verified is ss ts h d b ≡ Accepted → (refused is ss ts ≡ 0) × Legal l h d b
  unfolding verified
  columns-legal e =
      let p : (eqb (refused is ss ts) 0 ≡ true) × (verdict l h d b ≡ Accepted) = pick-12 (eqb (refused is ss ts) 0) (verdict l h d b) e in
      (eqb-true (refused is ss ts) 0 p.0, legal-of l h d b p.1)

  held-is : refused is ss ts ≡ 0 → verified is ss ts h d b ≡ verdict l h d b
  unfolding verified
  held-is e = simp (eq-eqb (refused is ss ts) 0 e)

  pub acceptance : Acceptance is ss ts h d b
  acceptance = record {
    zero-exactly = (
      (λ e. columns-legal (number-zero (verified is ss ts h d b) e)),
      λ g. ap (number_in number_of) (held-is g.0 ∙ accepted-of l h d b g.1),
    );
    twice-first = λ e n.
        let z : Sound is ss ts = refused_none is ss ts e in
        ap (number_in number_of) (held-is e) ∙ twice-first l h d b (λ w. n (subst Distinct (ids-are is ss ts z.states z.torns) w));
  }

  pub accepts-columns : (verified is ss ts h d b ≡ Accepted) ↔ ((refused is ss ts ≡ 0) × Legal (ledger_of is ss ts) h d b)
  accepts-columns = (columns-legal, λ g. held-is g.0 ∙ accepted-of l h d b g.1)
