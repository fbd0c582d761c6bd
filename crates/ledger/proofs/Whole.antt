-- The whole call: what an unrefused call knows, and what the loop leaves.
--     refused-call     a refused call changes nothing
--     entries-even     what is known of the ledger's own columns
--     sound            what is known of the lengths where nothing refuses
--     derived-call     any other call leaves what the marks' entries are
-- Assumes nothing.
use mathlib.Core.Path.{◌≡◌, refl, sym, ap, ◌∙◌}
use mathlib.Core.Bool.{Bool, false, not, ◌||◌}
use mathlib.Core.List.{List, [], ◌∷◌, ◌++◌}
use Prim.Native.Nat.{ℕ, ◌≤◌}
use lib.Dec.{eqb, leb, ltb}
use lib.ListN.{length, take, length-take}
use borrow.Author.Tests.{ne_eqb, eqb-true, not-false, ltb-false}
use Rattle.std.specs.Prelude.{Err as NotDerived}
use Rattle.basics.specs.Tests.{unless, refuse_if, first_of}
use Rattle.basics.proofs.Tests.{first_of-one, first_of-zero, first_of-past, first_of-within, refuse-zero}
use Rattle.refusals.specs.declared.Refusal.{Refusal}
use Rattle.refusals.specs.Numbers.{number_of}
use Rattle.refusals.specs.Nonzero.{refusal-nonzero}
use Rattle.model.specs.Ledger.{Entry}
use Rattle.device.proofs.Pairs.{false_left, false_right}
use Rattle.session.specs.declared.Told.{Told}
use Rattle.session.specs.declared.Counters.{Counters}
use Rattle.session.specs.Log.{Log, Marks}
use Rattle.session.specs.Tests.{size_test, log_uneven_of, marks_uneven_of, log_short, marks_short}
use Rattle.records.specs.declared.Facts.{Facts}
use Rattle.ledger.specs.Ledger.{rows_of, marks_listed, outstanding, ledger_of_run, entries_uneven, codes_known, counts_short, ledger_number, Entered, Ledgered, ledgered, ledgered_by, ledger_call}
use Rattle.records.specs.Columns.{last_barrier}
use Rattle.ledger.specs.Scans.{lent_number, entries_from, derived_by}
use Rattle.ledger.proofs.Entries.{facts_of, entries-are}

-- ---- what an unrefused call knows

pub record Sound (c : Counters) (media copy : ℕ) (l : Log) (m : Marks) (e : Entered) : Type 0 where
  pub sizes : copy ≡ media
  pub changes : length l.changed ≡ length l.kinds
  pub answers : length l.answered ≡ length l.kinds
  pub names : length m.ids ≡ length m.codes
  pub stands : length m.places ≡ length m.codes
  pub entries : entries_uneven (length e.ids) (length e.states) (length e.torn) ≡ false
  pub operations : c.operations ≤ length l.kinds
  pub marks : c.marks ≤ length m.codes

equal : (a b : ℕ) → not (eqb a b) ≡ false → a ≡ b
equal a b h = eqb-true a b (not-false (eqb a b) h)

-- the ledger's own columns
pub entries-even : (e : Entered) → entries_uneven (length e.ids) (length e.states) (length e.torn) ≡ false
    → (length e.states ≡ length e.ids) × (length e.torn ≡ length e.ids)
entries-even e h = (
  equal _ _ (false_left (not (eqb (length e.states) (length e.ids))) (not (eqb (length e.torn) (length e.ids))) h),
  equal _ _ (false_right (not (eqb (length e.states) (length e.ids))) (not (eqb (length e.torn) (length e.ids))) h),
)

module _ (t : Told) (c : Counters) (media copy : List ℕ) (l : Log) (m : Marks) (e : Entered) where
  abbrev uneven : Bool
  uneven = log_uneven_of l || marks_uneven_of m || entries_uneven (length e.ids) (length e.states) (length e.torn)

  abbrev four : List ℕ
  four =
      size_test t.geometry (length media) (length copy)
      ∷ refuse_if uneven 12
      ∷ unless (codes_known c l m) 12
      ∷ refuse_if (counts_short c (length l.kinds) (length m.codes)) 13
      ∷ []

  abbrev room : ℕ
  room = unless (leb (length (ledger_of_run t c media copy l m)) (length e.ids)) 13

  abbrev number : ℕ
  number = ledger_number t c media copy l m (length e.ids) (length e.states) (length e.torn)

  five : number ≡ first_of (four ++ (room ∷ []))
  unfolding ledger_number
  five = refl

  module _ (u : Bool) (eu : u ≡ entries_uneven (length e.ids) (length e.states) (length e.torn)) where
    abbrev lent : ℕ
    lent = lent_number t c (length media) (length copy) l m u

    is-four : lent ≡ first_of four
    unfolding lent_number
    is-four =
        ap (λ (b : Bool). first_of
        (size_test t.geometry (length media) (length copy) ∷ refuse_if (log_uneven_of l || marks_uneven_of m || b) 12 ∷ unless (codes_known c l m) 12
        ∷ refuse_if (counts_short c (length l.kinds) (length m.codes)) 13 ∷ [])) eu

    pub refused-call : (r : Refusal) → number_of r ≡ lent → ledgered (NotDerived (number_of r)) e ≡ ledger_call t c media copy l m e
    unfolding ledger_call
    refused-call r w =
        let h : number_of r ≡ 0 → ⊥ = refusal-nonzero r in
        let q : number_of r ≡ number = w ∙ is-four ∙ sym (five ∙ first_of-within four (room ∷ []) (λ z. h (w ∙ is-four ∙ z))) in
        rw (← q, ne_eqb (number_of r) 0 h)

    module _ (z : 0 ≡ lent) where
      past : number ≡ room
      past = five ∙ first_of-past four (room ∷ []) (sym (z ∙ is-four)) ∙ first_of-one room

      pub sound : Sound c (length media) (length copy) l m e
      unfolding size_test counts_short
      sound =
          let size = size_test t.geometry (length media) (length copy) in
          let codes = unless (codes_known c l m) 12 in
          let short = refuse_if (counts_short c (length l.kinds) (length m.codes)) 13 in
          let one = first_of-zero size (refuse_if uneven 12 ∷ codes ∷ short ∷ []) (sym (z ∙ is-four)) in
          let next = first_of-zero (refuse_if uneven 12) (codes ∷ short ∷ []) one.1 in
          let third = first_of-zero codes (short ∷ []) next.1 in
          let fourth = first_of-zero short [] third.1 in
          let capacity = t.geometry.capacity in
          let s : (not (eqb (length media) capacity) || not (eqb (length copy) capacity)) ≡ false = refuse-zero _ 6 one.0 in
          let un : uneven ≡ false = refuse-zero uneven 11 next.0 in
          let k : (log_short (length l.kinds) || marks_short (length m.codes) || ltb (length l.kinds) c.operations || ltb (length m.codes) c.marks) ≡ false = refuse-zero _ 12 fourth.0 in
          let lu : log_uneven_of l ≡ false = false_left (log_uneven_of l) (marks_uneven_of m) (false_left (log_uneven_of l || marks_uneven_of m) (entries_uneven (length e.ids) (length e.states) (length e.torn)) un) in
          let mu : marks_uneven_of m ≡ false = false_right (log_uneven_of l) (marks_uneven_of m) (false_left (log_uneven_of l || marks_uneven_of m) (entries_uneven (length e.ids) (length e.states) (length e.torn)) un) in
          let ne : entries_uneven (length e.ids) (length e.states) (length e.torn) ≡ false = false_right (log_uneven_of l || marks_uneven_of m) (entries_uneven (length e.ids) (length e.states) (length e.torn)) un in
          let k3 = false_left (log_short (length l.kinds) || marks_short (length m.codes) || ltb (length l.kinds) c.operations) (ltb (length m.codes) c.marks) k in
          let three = not (eqb (length l.offsets) (length l.kinds)) || not (eqb (length l.lens) (length l.kinds)) || not (eqb (length l.digests) (length l.kinds)) in
          record {
            sizes = equal (length copy) capacity (false_right (not (eqb (length media) capacity)) (not (eqb (length copy) capacity)) s)
                ∙ sym (equal (length media) capacity (false_left (not (eqb (length media) capacity)) (not (eqb (length copy) capacity)) s));
            changes = equal _ _ (false_right three (not (eqb (length l.changed) (length l.kinds))) (false_left (three || not (eqb (length l.changed) (length l.kinds))) (not (eqb (length l.answered) (length l.kinds))) lu));
            answers = equal _ _ (false_right (three || not (eqb (length l.changed) (length l.kinds))) (not (eqb (length l.answered) (length l.kinds))) lu);
            names = equal _ _ (false_left (not (eqb (length m.ids) (length m.codes))) (not (eqb (length m.places) (length m.codes))) mu);
            stands = equal _ _ (false_right (not (eqb (length m.ids) (length m.codes))) (not (eqb (length m.places) (length m.codes))) mu);
            entries = ne;
            operations = ltb-false (length l.kinds) c.operations (false_right (log_short (length l.kinds) || marks_short (length m.codes)) (ltb (length l.kinds) c.operations) k3);
            marks = ltb-false (length m.codes) c.marks (false_right (log_short (length l.kinds) || marks_short (length m.codes) || ltb (length l.kinds) c.operations) (ltb (length m.codes) c.marks) k);
          }

      -- the ledger, by the columns counted
      run-entries : ledger_of_run t c media copy l m
          ≡ entries_from (facts_of t.armed (outstanding c media copy) (take c.operations l.kinds) (take c.operations l.answered))
          (take c.operations l.kinds) (take c.operations l.changed) (take c.marks m.codes) (take c.marks m.ids) (take c.marks m.places)
      unfolding ledger_of_run rows_of marks_listed
      run-entries =
          let s = sound in
          let cs : length (take c.operations l.changed) ≡ length (take c.operations l.kinds) = simp (length-take, s.changes) in
          let xs : length (take c.operations l.answered) ≡ length (take c.operations l.kinds) = simp (length-take, s.answers) in
          let is : length (take c.marks m.ids) ≡ length (take c.marks m.codes) = simp (length-take, s.names) in
          let ps : length (take c.marks m.places) ≡ length (take c.marks m.codes) = simp (length-take, s.stands) in
          entries-are t.armed (outstanding c media copy) (take c.operations l.kinds) (take c.operations l.changed) (take c.operations l.answered) cs xs
          (take c.marks m.codes) (take c.marks m.ids) (take c.marks m.places) is ps

      pub derived-call : (out : Bool) → out ≡ outstanding c media copy → (barrier : ℕ) → barrier ≡ last_barrier (take c.operations l.kinds) (take c.operations l.answered)
          → (r : Ledgered)
          → r ≡ derived_by (record { armed = t.armed; outstanding = out; barrier = barrier }) (take c.operations l.kinds) (take c.operations l.changed) (take c.marks m.codes) (take c.marks m.ids) (take c.marks m.places) e
          → r ≡ ledger_call t c media copy l m e
      unfolding ledger_call derived_by
      derived-call out o barrier w r q =
          let f : ◌≡◌ {A = Facts} (record { armed = t.armed; outstanding = out; barrier = barrier }) (facts_of t.armed (outstanding c media copy) (take c.operations l.kinds) (take c.operations l.answered))
          = λ i. record { armed = t.armed; outstanding = o i; barrier = w i } in
          let by : List Entry → Ledgered = λ (x : List Entry). ledgered_by (unless (leb (length x) (length e.ids)) 13) x e in
          q
          ∙ ap (λ (x : Facts). by (entries_from x (take c.operations l.kinds) (take c.operations l.changed) (take c.marks m.codes) (take c.marks m.ids) (take c.marks m.places))) f
          ∙ ap by (sym run-entries)
          ∙ ap (λ (n : ℕ). ledgered_by n (ledger_of_run t c media copy l m) e) (sym past)
