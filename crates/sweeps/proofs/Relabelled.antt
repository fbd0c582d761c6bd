-- "First: watchdog, none or count 0, at index = operation count gives the fault-free run relabelled."
--     relabelled-run     what is shown of it is the fault-free run's, ledger included, but for the injection
-- Assumes nothing.
use mathlib.Core.Path.{◌≡◌, refl, sym, ap, ◌∙◌}
use mathlib.Core.Bool.{Bool, true, false, not, ◌&&◌, true≢false}
use mathlib.Core.List.{List, [], ◌∷◌, map}
use Prim.Native.Nat.{ℕ, suc, ◌+◌, ◌≤◌}
use native.Mathlib.Nat.{min-le_left}
use native.Mathlib.Omega.{arith}
use lib.ListN.{length, take, length-take}
use lib.Dec.{eqb}
use borrow.Author.Tests.{eqb-true, ne_eqb}
use Rattle.inject.specs.declared.Injection.{Injection}
use Rattle.session.specs.declared.Told.{Told}
use Rattle.session.specs.declared.Counters.{Counters}
use Rattle.std.specs.Prelude.{None as Nothing, Some as At}
use Rattle.records.specs.Records.{ledger_by}
use Rattle.ledger.specs.Ledger.{Row, rows_from, rows_of, marks_listed, asked, ledger_of_run}
use Rattle.threaded.specs.Threaded.{Session, session_ledger}
use Rattle.threaded.proofs.Seen.{Seen, seeing, see, ledger-seen}
use Rattle.script.specs.declared.Head.{Head}
use Rattle.script.specs.Calls.{Call}
use Rattle.held.specs.Held.{is_watchdog, is_relabelled}
use Rattle.landing.specs.Landed.{ran}
use Rattle.lines.specs.Lines.{Shown}
use Rattle.sweeps.specs.Sweep.{told_by, shown_by, held_run, point_run}

module _ (h : Head) (j : Injection) (c : Counters) (media copy : List ℕ) where
  abbrev hit : Told
  hit = told_by h (At j)

  abbrev free : Told
  free = told_by h Nothing

  -- of rows before the armed operation the same is seen, whether or not it is armed
  rows_seen : (i : ℕ) (ks cs xs : List ℕ) → i + length ks ≤ j.op
      → map (see (asked hit c media copy)) (rows_from i ks cs xs) ≡ map (see (asked free c media copy)) (rows_from i ks cs xs)
  unfolding rows_from
  rows_seen i [] cs xs m = refl
  rows_seen i (k ∷ ks) [] xs m = refl
  rows_seen i (k ∷ ks) (d ∷ cs) [] m = refl
  rows_seen i (k ∷ ks) (d ∷ cs) (x ∷ xs) m =
      let later : eqb j.op i ≡ false = ne_eqb j.op i (λ e. omega (arith, e, m)) in
      rw later
      (ap (λ (l : List Seen). see (asked free c media copy) (record { index = i; kind = k; change = d; answer = x }) ∷ l) (rows_seen (suc i) ks cs xs (omega (arith, m))))

-- a run in which nothing was armed on an operation that it recorded
ledger-same : (h : Head) (j : Injection) (f : Session) → j.op ≡ f.counters.operations → session_ledger (told_by h (At j)) f ≡ session_ledger (told_by h Nothing) f
unfolding ledger_of_run rows_of
ledger-same h j f e =
    let c : Counters = f.counters in
    let ks : List ℕ = take c.operations f.log.kinds in
    let few : length ks ≤ c.operations = rw (length-take c.operations f.log.kinds) (min-le_left c.operations (length f.log.kinds)) in
    ledger-seen (asked (told_by h (At j)) c f.media f.copy) _ (marks_listed c f.marks)
    ∙ ap (λ (l : List Seen). ledger_by seeing l (marks_listed c f.marks))
    (rows_seen h j c f.media f.copy 0 ks (take c.operations f.log.changed) (take c.operations f.log.answered) (omega (arith, few, e)))
    ∙ sym (ledger-seen (asked (told_by h Nothing) c f.media f.copy) _ (marks_listed c f.marks))

last_of : (a b c : Bool) → (a && b && c) ≡ true → c ≡ true
last_of true true c e = e
last_of true false c e = absurd (true≢false (sym e))
last_of false b c e = absurd (true≢false (sym e))

pub relabelled-run : (h : Head) (xs : List Call) (f : Session) (j : Injection) → is_relabelled j f.counters.operations ≡ true
    → point_run h xs f j ≡ record { injection = At j; stop = f.counters.stop; operations = f.counters.operations; ledger = (shown_by h Nothing f).ledger }
unfolding held_run
relabelled-run h xs f j e =
    let at : j.op ≡ f.counters.operations =
    eqb-true j.op f.counters.operations (last_of (is_watchdog j.interruption) (not (ran j.progress)) (eqb j.op f.counters.operations) e) in
    rw e (λ i. record { injection = At j; stop = f.counters.stop; operations = f.counters.operations; ledger = ledger-same h j f at i })
