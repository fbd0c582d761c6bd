-- What a caller may rely on.
--     columns-back       the columns of a list of entries hold that list
--     columns-sound      and are a ledger's: `model` does not refuse them
--     rows_back          where they stand before the rest of longer columns, the first rows hold that list
--     reads-back         where `ledger` answers n entries, the first n rows hold the ledger of the run, and are not refused
--     refused-nothing    a refused call answers its number and leaves the columns
-- Assumes nothing.
use mathlib.Core.Path.{◌≡◌, refl, sym, ap, ap₂, subst, ◌∙◌}
use mathlib.Core.Bool.{Bool, true, false}
use mathlib.Core.List.{List, [], ◌∷◌, map}
use Prim.Native.Nat.{ℕ}
use lib.Dec.{eqb}
use lib.ListN.{length, take, drop, length-map}
use lib.Seq.{take_at}
use borrow.Author.Tests.{eq-eqb, ne_eqb}
use Rattle.basics.specs.Tests.{flag, unless, first_of}
use Rattle.model.specs.Ledger.{Entry, code_of}
use Rattle.model.specs.Columns.{ledger_of, all_up_to, refused}
use Rattle.model.specs.declared.Durability.{Durability}
use Rattle.model.specs.declared.Durability.TheVariants.{Attempted, PossiblyDurable, Acknowledged}
use Rattle.model.proofs.Sanity.{state-decoded}
use Rattle.session.specs.declared.Told.{Told}
use Rattle.session.specs.declared.Counters.{Counters}
use Rattle.session.specs.Log.{Log, Marks}
use Rattle.std.specs.Prelude.{Ok as Entries, Err as NotDerived}
use Rattle.ledger.specs.Ledger.{ledger_of_run, ledger_number, Entered, Derived, entered_of, entered, Ledgered, ledgered, ledgered_by, ledger_call}

-- ---- the columns of a list of entries

abbrev ids_of : List Entry → List ℕ
ids_of l = map (λ (x : Entry). x.id) l

abbrev states_of : List Entry → List ℕ
states_of l = map (λ (x : Entry). code_of x.state) l

abbrev torn_of : List Entry → List ℕ
torn_of l = map (λ (x : Entry). flag x.mark) l

mark-back : (b : Bool) → eqb (flag b) 1 ≡ b
mark-back true = refl
mark-back false = refl

pub columns-back : (l : List Entry) → ledger_of (ids_of l) (states_of l) (torn_of l) ≡ l
unfolding ledger_of
columns-back [] = refl
columns-back (x ∷ xs) =
    let s = state-decoded x.state in
    let b = mark-back x.mark in
    ap₂ (λ (y : Entry) (ys : List Entry). y ∷ ys) (λ i. record { id = x.id; state = s i; mark = b i }) (columns-back xs)

one_state : (s : Durability) (rest : List ℕ) → all_up_to 2 rest ≡ true → all_up_to 2 (code_of s ∷ rest) ≡ true
unfolding all_up_to
one_state Attempted rest e = e
one_state PossiblyDurable rest e = e
one_state Acknowledged rest e = e

states-known : (l : List Entry) → all_up_to 2 (states_of l) ≡ true
unfolding all_up_to
states-known [] = refl
states-known (x ∷ xs) = one_state x.state (states_of xs) (states-known xs)

one-torn : (b : Bool) (rest : List ℕ) → all_up_to 1 rest ≡ true → all_up_to 1 (flag b ∷ rest) ≡ true
unfolding all_up_to
one-torn true rest e = e
one-torn false rest e = e

torn-known : (l : List Entry) → all_up_to 1 (torn_of l) ≡ true
unfolding all_up_to
torn-known [] = refl
torn-known (x ∷ xs) = one-torn x.mark (torn_of xs) (torn-known xs)

pub columns-sound : (l : List Entry) → refused (ids_of l) (states_of l) (torn_of l) ≡ 0
unfolding refused unless first_of
columns-sound l =
    let i : length (ids_of l) ≡ length l = length-map l (λ (x : Entry). x.id) in
    let s : length (states_of l) ≡ length (ids_of l) = length-map l (λ (x : Entry). code_of x.state) ∙ sym i in
    let t : length (torn_of l) ≡ length (ids_of l) = length-map l (λ (x : Entry). flag x.mark) ∙ sym i in
    simp (eq-eqb (length (states_of l)) (length (ids_of l)) s, eq-eqb (length (torn_of l)) (length (ids_of l)) t, states-known l, torn-known l)

-- ---- what a call leaves

-- the first n rows
abbrev pub first_rows : (n : ℕ) → Entered → Entered
first_rows n e = entered_of (take n e.ids) (take n e.states) (take n e.torn)

abbrev pub ledger_in : Entered → List Entry
ledger_in e = ledger_of e.ids e.states e.torn

abbrev pub refused_in : Entered → ℕ
refused_in e = refused e.ids e.states e.torn

rows-entered : (l : List Entry) (e : Entered) → first_rows (length l) (entered l e) ≡ entered_of (ids_of l) (states_of l) (torn_of l)
rows-entered l e =
    let i = take_at (ids_of l) (drop (length l) e.ids) (length l) (length-map l (λ (x : Entry). x.id)) in
    let s = take_at (states_of l) (drop (length l) e.states) (length l) (length-map l (λ (x : Entry). code_of x.state)) in
    let t = take_at (torn_of l) (drop (length l) e.torn) (length l) (length-map l (λ (x : Entry). flag x.mark)) in
    (λ q. entered_of (i q) (s q) (t q))

pub rows_back : (l : List Entry) (e : Entered) → (ledger_in (first_rows (length l) (entered l e)) ≡ l) × (refused_in (first_rows (length l) (entered l e)) ≡ 0)
rows_back l e = (ap ledger_in (rows-entered l e) ∙ columns-back l, ap refused_in (rows-entered l e) ∙ columns-sound l)

-- what holds of a reply
abbrev Held : List Entry → Derived → Entered → Type 0
Held l (Entries n) e = (ledger_in (first_rows n e) ≡ l) × (refused_in (first_rows n e) ≡ 0)
Held l (NotDerived number) e = Unit {0}

held : (number : ℕ) (l : List Entry) (e : Entered) (b : Bool) → eqb number 0 ≡ b → Held l (ledgered_by number l e).reply (ledgered_by number l e).columns
held number l e true z = rw z (rows_back l e)
held number l e false z = rw z tt

module _ (t : Told) (c : Counters) (media copy : List ℕ) (l : Log) (m : Marks) (e : Entered) where
  pub reads-back : (n : ℕ) (after : Entered) → ledger_call t c media copy l m e ≡ ledgered (Entries n) after
      → (ledger_in (first_rows n after) ≡ ledger_of_run t c media copy l m) × (refused_in (first_rows n after) ≡ 0)
  unfolding ledger_call
  reads-back n after q =
      let number = ledger_number t c media copy l m (length e.ids) (length e.states) (length e.torn) in
      let run = ledger_of_run t c media copy l m in
      subst (λ (x : Ledgered). Held run x.reply x.columns) q (held number run e (eqb number 0) refl)

  pub refused-nothing : (ledger_number t c media copy l m (length e.ids) (length e.states) (length e.torn) ≡ 0 → ⊥)
      → ledger_call t c media copy l m e
      ≡ ledgered (NotDerived (ledger_number t c media copy l m (length e.ids) (length e.states) (length e.torn))) e
  unfolding ledger_call
  refused-nothing h = rw (ne_eqb _ 0 h)
