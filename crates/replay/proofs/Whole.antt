-- The ways that `replay` goes: refused, or run.
--     replay-refuses     a refusal leaves all that was lent
--     never-refused      a start is not refused where `replay` is not
--     replay-runs        what is left is the plain run
-- Assumes nothing.
use mathlib.Core.Path.{◌≡◌, refl, sym, ap, ◌∙◌}
use mathlib.Core.Bool.{Bool, true, false, ◌||◌}
use mathlib.Core.List.{List, [], ◌∷◌, ◌++◌}
use Prim.Native.Nat.{ℕ, zero, suc, ◌≤◌}
use native.Mathlib.Nat.{le_trans}
use native.Mathlib.Omega.{arith}
use lib.ListN.{length, take, drop}
use lib.Dec.{leb, ltb}
use borrow.Author.Tests.{ne_eqb, ltb-false, leb-true, le-leb}
use Rattle.basics.specs.Tests.{unless, refuse_if, first_of}
use Rattle.basics.proofs.Tests.{first_of-stop}
use Rattle.device.specs.Media.{new_media}
use Rattle.device.proofs.Pairs.{false_left, false_right}
use Rattle.model.specs.Columns.{all_up_to}
use Rattle.session.specs.declared.Told.{Told}
use Rattle.session.specs.declared.Counters.{Counters}
use Rattle.std.specs.Prelude.{Ok as Fresh, Err as NotStarted, Ok as Entries, Err as NotDerived}
use Rattle.session.specs.Log.{Log, Marks}
use Rattle.session.specs.Tests.{start_number, start_test}
use Rattle.session.specs.Start.{Started, fresh, Opened, opened, started}
use Rattle.ledger.specs.Ledger.{Derived, Entered, entered, ledgered, ledgered_by, ledger_call}
use Rattle.plain.specs.Plain.{Run}
use Rattle.plain.specs.Ledger.{ledger}
use Rattle.threaded.specs.Threaded.{Session, Threaded, threaded, session_ledgered}
use Rattle.threaded.specs.Claim.{SameAsPlain}
use Rattle.threaded.proofs.Same.{same, start-fresh}
use Rattle.script.specs.Columns.{Columns}
use Rattle.script.specs.Held.{calls_in}
use Rattle.rows.specs.Rows.{rows_uneven_of, lengths_number, contents_number, rows_number, begins_from}
use Rattle.rows.proofs.Numbers.{Even, evens, lengths-known, kinds-known, long-enough}
use Rattle.steps.specs.Step.{session_of}
use Rattle.runner.specs.declared.Ended.{Ended}
use Rattle.runner.specs.Run.{tasks_in, Outcome, ran_rows, Leaves, left_of, leaves}
use Rattle.runner.proofs.Lines.{tasks-calls}
use Rattle.runner.proofs.Listed.{carried_on, listed, no-range, few-answers, answers-fit}
use Rattle.replay.specs.Replay.{Lent, lent, list_of, run_of, uneven_of, short_of, number_for, replay_number, opening, leaves as leaves_as, replayed, replay_call}
use Rattle.replay.specs.Sized.{Sized}
use Rattle.replay.proofs.Begins.{ledger-many}

module _ (t : Told) (rows : ℕ) (k : Columns) (x : Lent) where
  abbrev run : Run
  run = run_of t rows k x

  abbrev lengths : ℕ
  lengths = lengths_number t.geometry (length x.media) (length x.copy) (uneven_of x || rows_uneven_of k)

  -- the kinds tell how many entries there will be
  abbrev begun : ℕ
  begun = begins_from 0 (take rows k.kinds)

  many-are : lengths ≡ 0 → (b : Bool) → all_up_to 4 (take rows k.kinds) ≡ b
      → contents_number 4 rows k (short_of rows (length (ledger run)) x) ≡ contents_number 4 rows k (short_of rows begun x)
  unfolding contents_number first_of unless
  many-are z false e = rw e
  many-are z true e =
      let even = (evens t.geometry (length x.media) (length x.copy) (uneven_of x) false 4 rows k z).columns-even in
      ap (λ (n : ℕ). contents_number 4 rows k (short_of rows n x)) (ledger-many t (new_media (length x.media)) rows k even e)

  same_number : (n : ℕ) → lengths ≡ n → replay_number t rows k x ≡ number_for t rows begun k x
  unfolding rows_number
  same_number zero z = ap (λ (n : ℕ). first_of (lengths ∷ n ∷ [])) (many-are z (all_up_to 4 (take rows k.kinds)) refl)
  same_number (suc n) z = first_of-stop lengths _ (λ w. omega arith) ∙ sym (first_of-stop lengths _ (λ w. omega arith))

  -- the ledger's columns as they were asked
  pub asked-number : (begins : ℕ) (uneven : Bool) → uneven ≡ uneven_of x
      → rows_number t.geometry (length x.media) (length x.copy) uneven (short_of rows begins x) 4 rows k ≡ number_for t rows begins k x
  asked-number begins uneven e = ap (λ (b : Bool). rows_number t.geometry (length x.media) (length x.copy) b (short_of rows begins x) 4 rows k) e

  module _ (begins refused : ℕ) (m : begins ≡ begun) (e : refused ≡ number_for t rows begins k x) where
    number_is : replay_number t rows k x ≡ refused
    number_is = same_number _ refl ∙ sym (e ∙ ap (λ (n : ℕ). number_for t rows n k x) m)

    pub replay-refuses : (refused ≡ 0 → ⊥) → replayed (NotDerived refused) x ≡ replay_call t rows k x
    unfolding replay_call
    replay-refuses h = rw (number_is, ne_eqb refused 0 h)

    module _ (free : refused ≡ 0) where
      passes : replay_number t rows k x ≡ 0
      passes = number_is ∙ free

      even : Even t.geometry (length x.media) (length x.copy) (uneven_of x) (short_of rows (length (ledger run)) x) 4 rows k
      even = lengths-known t.geometry (length x.media) (length x.copy) (uneven_of x) (short_of rows (length (ledger run)) x) 4 rows k passes

      known : all_up_to 4 (take rows k.kinds) ≡ true
      known = kinds-known t.geometry (length x.media) (length x.copy) (uneven_of x) (short_of rows (length (ledger run)) x) 4 rows k passes

      long : short_of rows (length (ledger run)) x ≡ false
      long = long-enough t.geometry (length x.media) (length x.copy) (uneven_of x) (short_of rows (length (ledger run)) x) 4 rows k passes

      room : rows ≤ length x.answers
      room = ltb-false (length x.answers) rows (false_left (ltb (length x.answers) rows) (ltb (length x.entries.ids) (length (ledger run))) long)

      entries_fit : length (ledger run) ≤ length x.entries.ids
      entries_fit =
          ltb-false (length x.entries.ids) (length (ledger run))
          (false_right (ltb (length x.answers) rows) (ltb (length x.entries.ids) (length (ledger run))) long)

      -- ---- the start

      start-passes : Sized x.log x.marks → start_test t.geometry (length x.media) (length x.copy) x.log x.marks ≡ 0
      unfolding start_number refuse_if first_of
      start-passes z =
          rw (
            even.geometry-passes,
            even.sizes-pass,
            z.kinds-are,
            z.offsets_are,
            z.lens-are,
            z.digests-are,
            z.changed-are,
            z.answered-are,
            z.codes-are,
            z.ids-are,
            z.places-are,
          )

      abbrev began : Opened
      began = started t x.media (length x.copy) x.log x.marks

      module _ (z : Sized x.log x.marks) where
        opens : began ≡ opened (Fresh fresh) (new_media (length x.media))
        opens = (start-fresh t x.media x.copy x.log x.marks (start-passes z)).0

        pub never-refused : (n : ℕ) (media₁ : List ℕ) → opened (NotStarted n) media₁ ≡ began → ⊥
        never-refused n media₁ o =
            let w : ◌≡◌ {A = Started} (NotStarted n) (Fresh fresh) = ap (λ (y : Opened). y.reply) (o ∙ opens) in
            let v : ◌≡◌ {A = ℕ} 0 1 = cc in
            omega arith

        -- ---- the run

        abbrev all : Threaded
        all = threaded t (opening x) (list_of rows k)

        plain-same : SameAsPlain t (opening x) (list_of rows k)
        plain-same = same t (opening x) (list_of rows k) (start-fresh t x.media x.copy x.log x.marks (start-passes z)).1

        entries-pass : first_of (refuse_if (uneven_of x) 12 ∷ unless (leb (length (ledger run)) (length x.entries.ids)) 13 ∷ []) ≡ 0
        unfolding first_of refuse_if unless
        entries-pass = rw (even.others, le-leb (length (ledger run)) (length x.entries.ids) entries_fit)

        replay-is : replay_call t rows k x ≡ replayed (Entries (length (ledger run))) (leaves_as run all.session x)
        unfolding replay_call
        replay-is = rw passes

        -- the rows run are the calls
        few : (kind : ℕ) → leb kind 4 ≡ true → leb kind 5 ≡ true
        few kind h = let b = leb-true kind 4 h in le-leb kind 5 (omega arith)

        rows_are : ran_rows t true (opening x) (tasks_in rows k) ≡ carried_on all
        rows_are =
            ap (ran_rows t true (opening x)) (tasks-calls 4 rows k few known) ∙ listed t (opening x) (calls_in rows k) (no-range rows k known)

        pub replay-runs : (fr : Counters) (media₁ : List ℕ) → opened (Fresh fr) media₁ ≡ began → (r : Ended) (media₂ copy₂ answers₂ : List ℕ) (l₂ : Log) (m₂ : Marks)
            → left_of r answers₂ media₂ copy₂ l₂ m₂ ≡ leaves (ran_rows t true (session_of fr media₁ x.copy x.log x.marks) (tasks_in rows k)) x.answers
            → (d : Derived) (e₂ : Entered) → ledgered d e₂ ≡ ledger_call t r.counters media₂ copy₂ l₂ m₂ x.entries
            → replayed d (lent answers₂ media₂ copy₂ l₂ m₂ e₂) ≡ replay_call t rows k x
        replay-runs fr media₁ o r media₂ copy₂ answers₂ l₂ m₂ u d e₂ v =
            let a : fr ≡ fresh = fresh-inside fr (ap (λ (y : Opened). y.reply) (o ∙ opens)) in
            let b : media₁ ≡ new_media (length x.media) = ap (λ (y : Opened). y.media) (o ∙ opens) in
            let s : left_of r answers₂ media₂ copy₂ l₂ m₂ ≡ leaves (carried_on all) x.answers =
            u ∙ (λ i. leaves (ran_rows t true (session_of (a i) (b i) x.copy x.log x.marks) (tasks_in rows k)) x.answers)
            ∙ ap (λ (w : Outcome). leaves w x.answers) rows_are in
            let last : session_of r.counters media₂ copy₂ l₂ m₂ ≡ all.session = ap (λ (y : Leaves). y.session) s in
            let fit : length all.answers ≤ length x.answers = le_trans (few-answers t (opening x) rows k) room in
            let answers : answers₂ ≡ run.answers ++ drop (length run.answers) x.answers =
            ap (λ (y : Leaves). y.answers) s ∙ answers-fit (carried_on all) x.answers fit
            ∙ ap (λ (w : List ℕ). w ++ drop (length w) x.answers) plain-same.answers in
            let media : media₂ ≡ run.media = ap (λ (y : Session). y.media) last ∙ plain-same.media in
            let entries : ledgered d e₂ ≡ ledgered (Entries (length (ledger run))) (entered (ledger run) x.entries) =
            v ∙ ap (λ (y : Session). session_ledgered t y x.entries) last ∙ plain-same.derived x.entries
            ∙ ap (λ (n : ℕ). ledgered_by n (ledger run) x.entries) entries-pass in
            (λ i. replayed (entries i).reply (lent (answers i) (media i) (last i).copy (last i).log (last i).marks (entries i).columns)) ∙ sym replay-is
          where
            fresh-inside : (c : Counters) → ◌≡◌ {A = Started} (Fresh c) (Fresh fresh) → c ≡ fresh
            fresh-inside c w = cc
