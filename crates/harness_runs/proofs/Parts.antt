-- A run of a sweep from its parts: refused by its number, or the rows and the ledger. Assumes nothing.
use mathlib.Core.Path.{◌≡◌, refl, sym, ap, ◌∙◌}
use mathlib.Core.Bool.{true, false}
use mathlib.Core.List.{List}
use Prim.Native.Nat.{ℕ}
use lib.ListN.{length, take, replicate}
use borrow.Author.Tests.{ne_eqb}
use Rattle.device.specs.Media.{new_media}
use Rattle.model.specs.Columns.{all_up_to}
use Rattle.session.specs.Armed.{Armed}
use Rattle.session.specs.declared.Told.{Told}
use Rattle.session.specs.declared.Counters.{Counters}
use Rattle.session.specs.Log.{Log, log_of, Marks, marks_of}
use Rattle.session.specs.Start.{fresh}
use Rattle.ledger.specs.Ledger.{Derived, Entered, Ledgered, ledgered, ledger_call}
use Rattle.threaded.specs.Threaded.{Session}
use Rattle.script.specs.declared.Head.{Head}
use Rattle.script.specs.Columns.{Columns}
use Rattle.script.specs.Held.{calls_in}
use Rattle.rows.proofs.Numbers.{kinds-known}
use Rattle.steps.specs.Writer.{Wrote, wrote}
use Rattle.steps.specs.Step.{session_of, Task}
use Rattle.runner.specs.declared.Ended.{Ended}
use Rattle.runner.specs.Run.{tasks_in, ran_rows, Leaves, left_of, leaves}
use Rattle.runner.proofs.Lines.{tasks-calls, wrote_by, writes}
use Rattle.sweeps.specs.Sweep.{told_by}
use Rattle.harness_runs.specs.Running.{Ran, NotRun, zeros, ended_by, run_left, left_by, ledgered_with, opening, run_number, run_call}

-- a session's own columns of zeros
pub zeros-are : (n : ℕ) → replicate n 0 ≡ zeros n
unfolding zeros
zeros-are n = refl

module _ (h : Head) (a : Armed) (rows : ℕ) (k : Columns) (media copy ks os ls : List ℕ) (e : Entered) (refused : ℕ)
    (n : refused ≡ run_number h rows k (length media) (length copy)) where
  pub run-refused : (refused ≡ 0 → ⊥) → run_left (NotRun refused) media copy ks os ls e ≡ run_call h a rows k media copy ks os ls e
  unfolding run_call
  run-refused z = rw (← n, ne_eqb refused 0 z)

  module _ (none : refused ≡ 0) where
    abbrev told : Told
    told = told_by h a

    abbrev first : Session
    first = opening media copy ks os ls

    abbrev wrote-all : Wrote
    wrote-all = wrote told h.carries_on first (calls_in rows k)

    known : all_up_to 5 (take rows k.kinds) ≡ true
    known = kinds-known h.geometry (length media) (length copy) false false 5 rows k (sym n ∙ none)

    run_is : run_call h a rows k media copy ks os ls e ≡ ledgered_with told wrote-all e
    unfolding run_call
    run_is = rw (← n, none)

    rows_are : wrote_by (ran_rows told h.carries_on first (tasks_in rows k)) ≡ wrote-all
    rows_are =
        ap (λ (ts : List Task). wrote_by (ran_rows told h.carries_on first ts)) (tasks-calls 5 rows k (λ kind z. z) known)
        ∙ writes told h.carries_on first (calls_in rows k)

    pub run_ends : (big small : List ℕ) → big ≡ zeros 1024 → small ≡ zeros 512 → (t : Told) → t ≡ told → (c : Counters) (media₁ : List ℕ) → c ≡ fresh → media₁ ≡ new_media (length media)
        → (r : Ended) (a₀ a₂ media₂ copy₂ : List ℕ) (l₂ : Log) (m₂ : Marks)
        → left_of r a₂ media₂ copy₂ l₂ m₂ ≡ leaves (ran_rows t h.carries_on (session_of c media₁ copy (log_of ks os ls big big big) (marks_of small small small)) (tasks_in rows k)) a₀
        → (d : Derived) (e₂ : Entered) → ledgered d e₂ ≡ ledger_call t r.counters media₂ copy₂ l₂ m₂ e → (reply : Ran) → reply ≡ ended_by r.counters r.failed d
        → run_left reply media₂ copy₂ l₂.kinds l₂.offsets l₂.lens e₂ ≡ run_call h a rows k media copy ks os ls e
    run_ends big small zb zs t et c media₁ ec em r a₀ a₂ media₂ copy₂ l₂ m₂ u d e₂ v reply w =
        let s : left_of r a₂ media₂ copy₂ l₂ m₂ ≡ leaves (ran_rows told h.carries_on first (tasks_in rows k)) a₀ =
        u ∙ λ i. leaves (ran_rows (et i) h.carries_on (session_of (ec i) (em i) copy (log_of ks os ls (zb i) (zb i) (zb i)) (marks_of (zs i) (zs i) (zs i))) (tasks_in rows k)) a₀ in
        let last : ◌≡◌ {A = Wrote} (record { session = session_of r.counters media₂ copy₂ l₂ m₂; failed = r.failed }) wrote-all =
        ap (λ (y : Leaves). record { session = y.session; failed = y.failed }) s ∙ rows_are in
        let derived : ledgered d e₂ ≡ ledger_call told r.counters media₂ copy₂ l₂ m₂ e = v ∙ ap (λ (x : Told). ledger_call x r.counters media₂ copy₂ l₂ m₂ e) et in
        ap (λ (y : Ran). run_left y media₂ copy₂ l₂.kinds l₂.offsets l₂.lens e₂) w
        ∙ ap (λ (y : Ledgered). left_by (record { session = session_of r.counters media₂ copy₂ l₂ m₂; failed = r.failed }) y) derived
        ∙ ap (λ (y : Wrote). ledgered_with told y e) last ∙ sym run_is
