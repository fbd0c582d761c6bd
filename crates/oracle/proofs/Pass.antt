-- What a turn of each loop shows, and each way out of a scan: one law for each, whose premises stand as the function's own
-- tests, its calls and its invariant give them. A premise from a call takes the call's result r and two facts of it: what the
-- callee ensures and what the test says. Assumes nothing.
use mathlib.Core.Path.{◌≡◌, refl, ap, ap₂, sym, ◌∙◌}
use mathlib.Core.Bool.{Bool, true, false, cond, not, true≢false}
use mathlib.Core.List.{List, [], ◌∷◌}
use mathlib.Core.Logic.{◌⊎◌, inl, inr}
use Prim.Native.Nat.{ℕ, min, ◌+◌, ◌≤◌, ◌<◌}
use native.Mathlib.Nat.{le_of_lt}
use native.Mathlib.Omega.{arith}
use lib.ListN.{length, get_or, take, drop}
use lib.Seq.{length-take-le}
use Rattle.std.proofs.lemmas.List.{length-drop}
use lib.Dec.{eqb, leb}
use borrow.Author.Tests.{eq-eqb, ne_eqb, le-leb, lt-leb, leb-true, leb-false, not-true, not-false}
use Rattle.std.specs.Prelude.{Option, None, Some, Err}
use Rattle.std.specs.Option.{MatchOption, option_eq}
use Rattle.basics.proofs.Scans.{at-step, at-end, take_more}
use Rattle.model.specs.Ledger.{Entry, is_attempted, is_torn, lookup, passes}
use Rattle.model.specs.Columns.{ledger_of}
use Rattle.id_columns.specs.Ids.{has, place_of}
use Rattle.model.specs.Scans.{ids_from}
use Rattle.model.proofs.Rows.{attempted-row, torn-row}
use Rattle.model.proofs.Lookups.{LookedAt, looked-none, looked-at}
use Rattle.oracle.specs.Verdict.{Verdict, Accepted, first_breach, seen_before, fault_of, first_fault, differs, unrecovered, first_lost}
use Rattle.oracle.specs.Scans.{least_faulty}
use Rattle.oracle.specs.declared.Breach.{Breach}
use Rattle.oracle.specs.declared.Breach.TheVariants.{DuplicateRecordId, NotAPrefix, RecoveredWhatWasNeverAttempted, RecoveredATornRecord, LostAnAcknowledgedRecord}
use Rattle.oracle.proofs.Committed.{kept, came, none-from}
use Rattle.oracle.proofs.Least.{verdict_at, least-is-first}

-- ---- first_repeat: the part of a slice that is lent as `&s[..i]` counts i
pub taken-count : (s : List ℕ) (i : ℕ) → i < length s → i ≡ length (take i s)
taken-count s i h = sym (length-take-le i s (le_of_lt h))

module _ (s : List ℕ) (i : ℕ) (e : seen_before [] s ≡ seen_before (take i s) (drop i s)) where
  pub repeat-next : i < length s → (r : Bool) → r ≡ has (take i s) (get_or s i 0) → r ≡ false → seen_before [] s ≡ seen_before (take (i + 1) s) (drop (i + 1) s)
  unfolding seen_before
  repeat-next h r q f = e ∙ at-step (seen_before (take i s)) s i 0 h ∙ simp (sym q ∙ f, take_more s i 0 h)

  pub repeat-here : i < length s → (r : Bool) → r ≡ has (take i s) (get_or s i 0) → r ≡ true → Err (DuplicateRecordId (get_or s i 0)) ≡ seen_before [] s
  unfolding seen_before
  repeat-here h r q t = sym (e ∙ at-step (seen_before (take i s)) s i 0 h ∙ simp (sym q ∙ t))

  pub repeat-end : length s ≤ i → Accepted ≡ seen_before [] s
  unfolding seen_before
  repeat-end h = sym (e ∙ at-end (seen_before (take i s)) s i h)

-- ---- fault_of: p is where the id first stands
fault-by : (l : List Entry) (x : ℕ) (o : Bool) (t : Bool) → passes is_attempted (lookup x l) ≡ o → passes is_torn (lookup x l) ≡ t
    → cond o (Err (RecoveredWhatWasNeverAttempted x)) (cond t (Err (RecoveredATornRecord x)) Accepted) ≡ fault_of l x
unfolding fault_of
fault-by l x o t a b = ap₂ (λ (o t : Bool). cond o (Err (RecoveredWhatWasNeverAttempted x)) (cond t (Err (RecoveredATornRecord x)) Accepted)) (sym a) (sym b)

module _ (is ss ts : List ℕ) (l1 : length ss ≡ length is) (l2 : length ts ≡ length is) (x : ℕ) (p : Option ℕ) (q : p ≡ place_of x is) where
  pub fault-absent : p ≡ None → Accepted ≡ fault_of (ledger_of is ss ts) x
  fault-absent k =
      let e : lookup x (ledger_of is ss ts) ≡ _ = looked-none x is ss ts (sym q ∙ k) in
      fault-by (ledger_of is ss ts) x false false (rw e refl) (rw e refl)

  module _ (i : ℕ) (k : p ≡ Some i) where
    looked : LookedAt x is ss ts i
    looked = looked-at x is ss ts i l1 l2 (sym q ∙ k)

    pub in-states : i < length ss
    in-states = omega (arith, looked.below)

    pub in-torn : i < length ts
    in-torn = omega (arith, looked.below)

    pub fault-attempted : get_or ss i 0 ≡ 0 → Err (RecoveredWhatWasNeverAttempted x) ≡ fault_of (ledger_of is ss ts) x
    fault-attempted a =
        fault-by (ledger_of is ss ts) x true false
        (rw looked.found (attempted-row (get_or is i 0) (get_or ss i 0) (get_or ts i 0) ∙ eq-eqb _ _ a))
        (rw looked.found (torn-row (get_or is i 0) (get_or ss i 0) (get_or ts i 0) ∙ simp (eq-eqb _ _ a)))

    pub fault-torn : (get_or ss i 0 ≡ 0 → ⊥) → get_or ts i 0 ≡ 1 → Err (RecoveredATornRecord x) ≡ fault_of (ledger_of is ss ts) x
    fault-torn a b =
        fault-by (ledger_of is ss ts) x false true
        (rw looked.found (attempted-row (get_or is i 0) (get_or ss i 0) (get_or ts i 0) ∙ ne_eqb _ _ a))
        (rw looked.found (torn-row (get_or is i 0) (get_or ss i 0) (get_or ts i 0) ∙ simp (ne_eqb _ _ a, eq-eqb _ _ b)))

    pub fault-neither : (get_or ss i 0 ≡ 0 → ⊥) → (get_or ts i 0 ≡ 1 → ⊥) → Accepted ≡ fault_of (ledger_of is ss ts) x
    fault-neither a b =
        fault-by (ledger_of is ss ts) x false false
        (rw looked.found (attempted-row (get_or is i 0) (get_or ss i 0) (get_or ts i 0) ∙ ne_eqb _ _ a))
        (rw looked.found (torn-row (get_or is i 0) (get_or ss i 0) (get_or ts i 0) ∙ simp (ne_eqb _ _ a, ne_eqb _ _ b)))

-- ---- first_difference: cs are the committed ids that are left at a position of the history
pub DifferFrom : (committed history : List ℕ) → (position : ℕ) → (cs : List ℕ) → Type 0
DifferFrom all h p cs = differs 0 all h ≡ differs p cs (drop p h)

module _ (all h : List ℕ) where
  pub differ-start : DifferFrom all h 0 all
  unfolding DifferFrom
  differ-start = refl

  module _ (p : ℕ) (cs : List ℕ) (e : DifferFrom all h p cs) where
    pub differ-end : length h ≤ p → Accepted ≡ differs 0 all h
    unfolding DifferFrom differs
    differ-end n = sym (e ∙ at-end (differs p cs) h p n)

    -- a turn: r is the next committed id, if there is one, and n whether it is another than the history's
    module _ (b : p < length h) (left : List ℕ) where
      next : differs 0 all h ≡ differs p cs (get_or h p 0 ∷ drop (p + 1) h)
      unfolding DifferFrom
      next = e ∙ at-step (differs p cs) h p 0 b

      pub differ-here : (r : Option ℕ) → MatchOption r (cs ≡ []) (λ y. cs ≡ y ∷ left) → (n : Bool) → n ≡ not (option_eq eqb r (Some (get_or h p 0))) → n ≡ true
          → Err (NotAPrefix p r (get_or h p 0)) ≡ differs 0 all h
      unfolding differs
      differ-here None k n q t = sym (next ∙ simp k)
      differ-here (Some y) k n q t = sym (next ∙ simp (k, not-true _ (sym q ∙ t)))

      pub differ-on : (r : Option ℕ) → MatchOption r (cs ≡ []) (λ y. cs ≡ y ∷ left) → (n : Bool) → n ≡ not (option_eq eqb r (Some (get_or h p 0))) → n ≡ false → DifferFrom all h (p + 1) left
      unfolding DifferFrom differs
      differ-on None k n q f = absurd (true≢false (sym q ∙ f))
      differ-on (Some y) k n q f = next ∙ simp (k, not-false _ (sym q ∙ f))

-- ---- first_lost and first_unaccounted: r tells whether the id was recovered
module _ (breach : ℕ → Breach) (h : List ℕ) (x : ℕ) (xs : List ℕ) (r : Bool) (q : r ≡ has h x) where
  wanted-held : r ≡ true → first_lost breach h (x ∷ xs) ≡ first_lost breach h xs
  unfolding first_lost unrecovered first_breach
  wanted-held t = simp (sym q ∙ t)

  wanted-lost : r ≡ false → first_lost breach h (x ∷ xs) ≡ Err (breach x)
  unfolding first_lost unrecovered first_breach
  wanted-lost f = simp (sym q ∙ f)

pub lost-none : (breach : ℕ → Breach) (h : List ℕ) → first_lost breach h [] ≡ Accepted
unfolding first_lost first_breach
lost-none breach h = refl

module _ (breach : ℕ → Breach) (d h : List ℕ) (i : ℕ) (e : first_lost breach h d ≡ first_lost breach h (drop i d)) where
  pub sent-next : i < length d → (r : Bool) → r ≡ has h (get_or d i 0) → r ≡ true → first_lost breach h d ≡ first_lost breach h (drop (i + 1) d)
  sent-next b r q t = e ∙ at-step (first_lost breach h) d i 0 b ∙ wanted-held breach h (get_or d i 0) (drop (i + 1) d) r q t

  pub sent-here : i < length d → (r : Bool) → r ≡ has h (get_or d i 0) → r ≡ false → Err (breach (get_or d i 0)) ≡ first_lost breach h d
  sent-here b r q t = sym (e ∙ at-step (first_lost breach h) d i 0 b ∙ wanted-lost breach h (get_or d i 0) (drop (i + 1) d) r q t)

  pub sent-end : length d ≤ i → Accepted ≡ first_lost breach h d
  sent-end b = sym (e ∙ at-end (first_lost breach h) d i b ∙ lost-none breach h)

pub LostFrom : (is ss h : List ℕ) → ℕ → Type 0
LostFrom is ss h i = first_lost LostAnAcknowledgedRecord h (ids_from 2 is ss) ≡ first_lost LostAnAcknowledgedRecord h (ids_from 2 (drop i is) (drop i ss))

module _ (is ss h : List ℕ) where
  pub lost-start : LostFrom is ss h 0
  unfolding LostFrom
  lost-start = refl

  module _ (i : ℕ) (e : LostFrom is ss h i) where
    -- a turn: x and s are the row's id and state
    module _ (x s : ℕ) (t : (i < length is) × (i < length ss) × ((d : ℕ) → x ≡ get_or is i d) × ((d : ℕ) → s ≡ get_or ss i d)) where
      row : ids_from 2 (drop i is) (drop i ss) ≡ ids_from 2 (x ∷ drop (i + 1) is) (s ∷ drop (i + 1) ss)
      row = rw (t.2 0, t.3 0) (at-step (λ (l : List ℕ). ids_from 2 l (drop i ss)) is i 0 t.0 ∙ at-step (ids_from 2 (get_or is i 0 ∷ drop (i + 1) is)) ss i 0 t.1)

      pub lost-skip : s < 2 → LostFrom is ss h (i + 1)
      unfolding LostFrom
      lost-skip z = e ∙ ap (first_lost LostAnAcknowledgedRecord h) (row ∙ kept 2 _ _ x s (lt-leb _ _ z))

      picked : 2 ≤ s → first_lost LostAnAcknowledgedRecord h (ids_from 2 is ss) ≡ first_lost LostAnAcknowledgedRecord h (x ∷ ids_from 2 (drop (i + 1) is) (drop (i + 1) ss))
      unfolding LostFrom
      picked z = e ∙ ap (first_lost LostAnAcknowledgedRecord h) (row ∙ came 2 _ _ x s (le-leb _ _ z))

      module _ (z : 2 ≤ s) (r : Bool) (q : r ≡ has h x) where
        pub lost-next : r ≡ true → LostFrom is ss h (i + 1)
        unfolding LostFrom
        lost-next k = picked z ∙ wanted-held LostAnAcknowledgedRecord h x (ids_from 2 (drop (i + 1) is) (drop (i + 1) ss)) r q k

        pub lost-here : r ≡ false → Err (LostAnAcknowledgedRecord x) ≡ first_lost LostAnAcknowledgedRecord h (ids_from 2 is ss)
        lost-here k = sym (picked z ∙ wanted-lost LostAnAcknowledgedRecord h x (ids_from 2 (drop (i + 1) is) (drop (i + 1) ss)) r q k)

    -- as many rows as the shorter column has
    pub lost-end : i ≡ min (length is) (length ss) → Accepted ≡ first_lost LostAnAcknowledgedRecord h (ids_from 2 is ss)
    unfolding LostFrom
    lost-end b = sym (e ∙ ap (first_lost LostAnAcknowledgedRecord h) (none-from 2 (drop i is) (drop i ss) ends) ∙ lost-none LostAnAcknowledgedRecord h)
      where
        ends : (length (drop i is) ≡ 0) ⊎ (length (drop i ss) ≡ 0)
        ends = shorter (leb (length is) (length ss)) refl
          where
            shorter : (w : Bool) → leb (length is) (length ss) ≡ w → (length (drop i is) ≡ 0) ⊎ (length (drop i ss) ≡ 0)
            shorter true k = inl (omega (arith, leb-true _ _ k, length-drop i is))
            shorter false k = inr (omega (arith, leb-false _ _ k, length-drop i ss))

-- ---- first_fault: r is the least id with a fault
module _ (l : List Entry) (h : List ℕ) (r : Option ℕ) (q : r ≡ least_faulty (fault_of l) h) where
  at_least : verdict_at (fault_of l) r ≡ first_fault l h
  unfolding first_fault
  at_least = ap (verdict_at (fault_of l)) q ∙ sym (least-is-first (fault_of l) h)

  pub first-none : r ≡ None → Accepted ≡ first_fault l h
  first-none k = ap (verdict_at (fault_of l)) (sym k) ∙ at_least

  pub first-least : (x : ℕ) → r ≡ Some x → (v : Verdict) → v ≡ fault_of l x → v ≡ first_fault l h
  first-least x k v e = e ∙ ap (verdict_at (fault_of l)) (sym k) ∙ at_least

pub ruleset passed = (taken-count, repeat-next, repeat-here, repeat-end, fault-absent, in-states, in-torn, fault-attempted, fault-torn, fault-neither, sent-next, sent-here, sent-end, first-none, first-least)
