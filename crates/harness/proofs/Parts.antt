-- A sweep opened, from its parts. Assumes nothing.
use mathlib.Core.Path.{◌≡◌, refl, sym, ap, ◌∙◌}
use mathlib.Core.Bool.{Bool, true, false, not, ◌&&◌}
use mathlib.Core.List.{List}
use Prim.Native.Nat.{ℕ, zero, suc, min}
use native.Mathlib.Omega.{arith}
use lib.ListN.{length, take}
use borrow.Author.Tests.{ne_eqb}
use Rattle.landing.specs.declared.Stop.{Stop}
use Rattle.std.specs.Prelude.{Result, Ok as Points, Err as NotCounted, None as Nothing}
use Rattle.inject.specs.Answers.{counted}
use Rattle.ledger.specs.Ledger.{Entered, entered_of}
use Rattle.script.specs.declared.Head.{Head}
use Rattle.script.specs.Calls.{Call}
use Rattle.script.specs.Columns.{Columns}
use Rattle.script.specs.Held.{calls_in}
use Rattle.rows.specs.Ready.{Ready}
use Rattle.basics.proofs.Lists.{take-lower}
use Rattle.rows.proofs.Numbers.{ready}
use Rattle.harness_runs.specs.Running.{Ran, Ended, NotRun, zeros, RunLeft, run_left, run_number, run_call, no_entries}
use Rattle.sweeps.specs.Decided.{range_behind}
use Rattle.harness.specs.Opening.{Opened, Runs, NotSwept, open_count, open_points, open_left, opened_with, open_call}

-- ---- the crash points of the fault-free run

module _ (h : Head) (operations : ℕ) (xs : List Call) (ks os ls : List ℕ) (behind : Bool) (b : behind ≡ range_behind 0 xs) where
  pub points-26 : (not h.carries_on && behind) ≡ true → NotSwept 26 ≡ open_points h operations xs ks os ls
  unfolding open_points
  points-26 t = rw (← b, t)

  module _ (f : (not h.carries_on && behind) ≡ false) (n : ℕ) (m : n ≡ min operations (length ks)) (eo : length os ≡ length ks) (el : length ls ≡ length ks)
      (c : Result ℕ ℕ) (e : c ≡ counted h.geometry (take n ks) (take n os) (take n ls)) where
    points-are : open_count operations c ≡ open_points h operations xs ks os ls
    unfolding open_points
    points-are =
        let pk : take n ks ≡ take operations ks = ap (λ (j : ℕ). take j ks) m ∙ take-lower operations ks in
        let po : take n os ≡ take operations os = ap (λ (j : ℕ). take j os) (m ∙ ap (min operations) (sym eo)) ∙ take-lower operations os in
        let pl : take n ls ≡ take operations ls = ap (λ (j : ℕ). take j ls) (m ∙ ap (min operations) (sym el)) ∙ take-lower operations ls in
        let all : c ≡ counted h.geometry (take operations ks) (take operations os) (take operations ls) = e ∙ λ i. counted h.geometry (pk i) (po i) (pl i) in
        rw (← b, f, ← all)

    pub points-counted : (p : ℕ) → c ≡ Points p → Runs operations p ≡ open_points h operations xs ks os ls
    points-counted p q = ap (open_count operations) (sym q) ∙ points-are

    pub points-refused : (p : ℕ) → c ≡ NotCounted p → NotSwept p ≡ open_points h operations xs ks os ls
    points-refused p q = ap (open_count operations) (sym q) ∙ points-are

-- ---- the sweep opened

run-refused-is : (h : Head) (rows : ℕ) (k : Columns) (media copy ks os ls : List ℕ) (n : ℕ) → run_number h rows k (length media) (length copy) ≡ suc n
    → run_call h Nothing rows k media copy ks os ls no_entries ≡ run_left (NotRun (suc n)) media copy ks os ls no_entries
unfolding run_call
run-refused-is h rows k media copy ks os ls n z = rw (z, ne_eqb (suc n) 0 (λ w. omega arith))

module _ (h : Head) (rows : ℕ) (k : Columns) (media copy ks os ls : List ℕ) (blank : List ℕ) (zb : blank ≡ zeros 512)
    (r : Ran) (media₁ copy₁ ks₁ os₁ ls₁ : List ℕ) (e₁ : Entered) (e : run_left r media₁ copy₁ ks₁ os₁ ls₁ e₁ ≡ run_call h Nothing rows k media copy ks os ls (entered_of blank blank blank)) where
  ran-is : run_left r media₁ copy₁ ks₁ os₁ ls₁ e₁ ≡ run_call h Nothing rows k media copy ks os ls no_entries
  ran-is = e ∙ ap (λ (b : List ℕ). run_call h Nothing rows k media copy ks os ls (entered_of b b b)) zb

  opened-is : (q : Ran) → r ≡ q → opened_with h (calls_in rows k) (run_left q media₁ copy₁ ks₁ os₁ ls₁ e₁) ≡ open_call h rows k media copy ks os ls
  unfolding open_call
  opened-is q p = ap (λ (x : Ran). opened_with h (calls_in rows k) (run_left x media₁ copy₁ ks₁ os₁ ls₁ e₁)) (sym p) ∙ ap (opened_with h (calls_in rows k)) ran-is

  pub open-refused : (n : ℕ) → r ≡ NotRun n → open_left (NotSwept n) media₁ copy₁ ks₁ os₁ ls₁ ≡ open_call h rows k media copy ks os ls
  open-refused n p = opened-is (NotRun n) p

  module _ (stop : Stop) (operations count : ℕ) (failed : Bool) (p : r ≡ Ended stop operations count failed) where
    pub open-failed : failed ≡ true → open_left (NotSwept 24) media₁ copy₁ ks₁ os₁ ls₁ ≡ open_call h rows k media copy ks os ls
    open-failed f = rw f at (opened-is (Ended stop operations count failed) p)

    pub open-runs : failed ≡ false → (o : Opened) → o ≡ open_points h operations (calls_in rows k) ks₁ os₁ ls₁
        → open_left o media₁ copy₁ ks₁ os₁ ls₁ ≡ open_call h rows k media copy ks os ls
    open-runs f o q =
        ap (λ (x : Opened). open_left x media₁ copy₁ ks₁ os₁ ls₁) q
        ∙ (rw f at (opened-is (Ended stop operations count failed) p))

    -- a run that was not refused
    not-refused : (n : ℕ) → run_number h rows k (length media) (length copy) ≡ n → n ≡ 0
    not-refused zero z = refl
    not-refused (suc n) z = absurd (differ (sym p ∙ ap (λ (x : RunLeft). x.reply) (ran-is ∙ run-refused-is h rows k media copy ks os ls n z)))
      where
        differ : Ended stop operations count failed ≡ NotRun (suc n) → ⊥
        differ w = let v : ◌≡◌ {A = ℕ} 0 1 = cc in omega arith

    pub open-ready : Ready rows k
    open-ready = ready h.geometry (length media) (length copy) false false 5 rows k (not-refused _ refl)
