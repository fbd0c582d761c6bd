-- The line of a run from its parts.
--     verdict-line                     the line of `judge` on a history
--     judged-by                        the line of `judge` on the suggested history
--     judged-refused, judged-listed    the same: no history is suggested, or one
--     judged-way, swept-way            the line of a ledger, by program
--     rows-line                        the line of a ledger that is the first rows of columns of 512
--     on-part                          a run on a part of the media
--     armed-is                         the line of a run by how it ended
--     placed-is                        the line of the run at a place by what is armed there
-- Assumes nothing.
use mathlib.Core.Path.{◌≡◌, refl, sym, ap, ap₂, ◌∙◌}
use mathlib.Core.Bool.{Bool, true, false}
use mathlib.Core.List.{List, [], ◌∷◌}
use Prim.Native.Nat.{ℕ, min}
use lib.ListN.{length, take, drop, replicate}
use lib.Seq.{take_at}
use lib.Dec.{eqb, leb}
use borrow.Author.Tests.{eqb-true}
use Rattle.basics.specs.Replies.{number_in}
use Rattle.basics.specs.Tests.{unless, first_of}
use Rattle.basics.proofs.Tests.{first_of-zero}
use Rattle.basics.proofs.Lists.{take-few}
use Rattle.landing.specs.declared.Stop.{Stop}
use Rattle.std.specs.Prelude.{Result, Err as ListRefused, Ok as ListIs, None as Absent, Err as NotWritten}
use Rattle.model.specs.Ledger.{Entry}
use Rattle.model.specs.Columns.{ledger_of, refused}
use Rattle.model.specs.Answers.{Written, written_unless}
use Rattle.oracle.specs.Verdict.{Verdict, number_of, verdict, verified}
use Rattle.session.specs.Armed.{Armed}
use Rattle.ledger.specs.Ledger.{Entered, entered_of}
use Rattle.script.specs.declared.Head.{Head}
use Rattle.script.specs.Columns.{Columns}
use Rattle.lines.specs.Answers.{Line, Put, put}
use Rattle.history.specs.History.{suggested, suggested_written}
use Rattle.lines.specs.Lines.{judged_line}
use Rattle.sweep_lines.specs.Answers.{sweep_put}
use Rattle.armed_runs.specs.Places.{Placed, placed_at}
use Rattle.harness_runs.specs.Running.{Ran, zeros, run_left, run_call, ran_on}
use Rattle.text_of_runs.specs.Claim.{rows_to}
use Rattle.run_lines.specs.RunLine.{judged_of, history_test, judge_put, line_put, RunEnd, run_end, end_of, line_ended, armed_put, line_placed, run_line_call}

-- a line as it was put
abbrev pub lined : Line → (out : List ℕ) → Put
lined r out = record { reply = r; out = out }

-- ---- the line of `judge`

module _ (place : ℕ) (is ss ts : List ℕ) (at : ℕ) (out : List ℕ) where
  abbrev held : List Entry
  held = ledger_of is ss ts

  -- the line on the first rows of a column
  abbrev line_on : (history : List ℕ) → Put
  line_on history = put 0 (judged_line place (number_in number_of (verified is ss ts history [] Absent)) history) at out

  -- the line by what `suggested` answers and leaves
  abbrev line_by : Result ℕ ℕ → (column : List ℕ) → Put
  line_by (ListIs count) column = line_on (take count column)
  line_by (ListRefused number) column = lined (NotWritten number) out

  -- the verdict's number, and its line
  pub verdict-line : (history : List ℕ) (v : Verdict) → v ≡ verified is ss ts history [] Absent → (n : ℕ) → n ≡ number_in number_of v → (p : Put)
      → p ≡ put 0 (judged_line place n history) at out → p ≡ line_on history
  verdict-line history v e n q p h = h ∙ ap (λ (x : ℕ). put 0 (judged_line place x history) at out) (q ∙ ap (number_in number_of) e)

  refused-line : (n : ℕ) → eqb n 0 ≡ false → (bytes : List ℕ) → lined (NotWritten n) out ≡ put n bytes at out
  unfolding first_of
  refused-line n e bytes = rw (e, e)

  listed-line : history_test is ss ts ≡ 0 → line_on (suggested held) ≡ put (history_test is ss ts) (judged_of place held) at out
  unfolding verified
  listed-line z =
      let sound : refused is ss ts ≡ 0 = (first_of-zero (refused is ss ts) (unless (leb (length (suggested held)) 512) 13 ∷ []) z).0 in
      let v : verified is ss ts (suggested held) [] Absent ≡ verdict held (suggested held) [] Absent = rw sound in
      ap₂ (λ (n : ℕ) (w : Verdict). put n (judged_line place (number_in number_of w) (suggested held)) at out) (sym z) v

  line-cases : (b : Bool) → eqb (history_test is ss ts) 0 ≡ b → (column : List ℕ)
      → line_by (written_unless (history_test is ss ts) (suggested held) column).answer (written_unless (history_test is ss ts) (suggested held) column).column
      ≡ put (history_test is ss ts) (judged_of place held) at out
  line-cases true e column =
      rw e
      (ap line_on (take_at (suggested held) (drop (length (suggested held)) column) (length (suggested held)) refl)
      ∙ listed-line (eqb-true (history_test is ss ts) 0 e))
  line-cases false e column = rw e (refused-line (history_test is ss ts) e (judged_of place held))

  module _ (column : List ℕ) (long : length column ≡ 512) (r : Result ℕ ℕ) (left : List ℕ)
      (w : ◌≡◌ {A = Written} (record { answer = r; column = left }) (suggested_written is ss ts column)) where
    line-is : line_by r left ≡ judge_put place is ss ts at out
    unfolding judge_put suggested_written
    line-is =
        let n : suggested_written is ss ts column ≡ written_unless (history_test is ss ts) (suggested held) column =
        ap (λ (m : ℕ). written_unless (first_of (refused is ss ts ∷ unless (leb (length (suggested held)) m) 13 ∷ [])) (suggested held) column) long in
        ap (λ (x : Written). line_by x.answer x.column) (w ∙ n) ∙ line-cases (eqb (history_test is ss ts) 0) refl column

    pub judged-by : (count : ℕ) → r ≡ ListIs count → line_on (take count left) ≡ judge_put place is ss ts at out
    judged-by count e = ap (λ (x : Result ℕ ℕ). line_by x left) (sym e) ∙ line-is

    pub judged-refused : (number : ℕ) → r ≡ ListRefused number → lined (NotWritten number) out ≡ judge_put place is ss ts at out
    judged-refused number e = ap (λ (x : Result ℕ ℕ). line_by x left) (sym e) ∙ line-is

    pub judged-listed : (count : ℕ) → r ≡ ListIs count → length left ≡ 512 → (n : ℕ) → n ≡ min count 512 → (p : Put)
        → p ≡ line_on (take n left) → p ≡ judge_put place is ss ts at out
    judged-listed count e l n m p h = h ∙ ap line_on (take-few left 512 count n l m) ∙ judged-by count e

-- ---- the line of a ledger

module _ (place : ℕ) (a : Armed) (s : Stop) (operations : ℕ) (is ss ts : List ℕ) (at : ℕ) (out : List ℕ) where
  pub judged-way : (p : Put) → p ≡ judge_put place is ss ts at out → p ≡ line_put true place a s operations (entered_of is ss ts) at out
  unfolding line_put
  judged-way p h = h

  pub swept-way : (p : Put) → p ≡ sweep_put place a s operations is ss ts at out → p ≡ line_put false place a s operations (entered_of is ss ts) at out
  unfolding line_put
  swept-way p h = h

  pub rows-line : (judged : Bool) (count : ℕ) → length is ≡ 512 → length ss ≡ 512 → length ts ≡ 512 → (n : ℕ) → n ≡ min count 512 → (p : Put)
      → p ≡ line_put judged place a s operations (entered_of (take n is) (take n ss) (take n ts)) at out
      → p ≡ line_put judged place a s operations (rows_to count (entered_of is ss ts)) at out
  rows-line judged count li ls lt n m p h =
      let ei : take n is ≡ take count is = take-few is 512 count n li m in
      let es : take n ss ≡ take count ss = take-few ss 512 count n ls m in
      let et : take n ts ≡ take count ts = take-few ts 512 count n lt m in
      h ∙ λ i. line_put judged place a s operations (entered_of (ei i) (es i) (et i)) at out

-- ---- the run

-- a run on as much of the media and the copy as there is
pub on-part : (h : Head) (a : Armed) (rows : ℕ) (k : Columns) (media copy : List ℕ) (e : Entered) → length media ≡ 16384 → length copy ≡ 16384
    → (n : ℕ) → n ≡ min h.geometry.capacity 16384 → (r : Ran) (media₁ copy₁ ks os ls : List ℕ) (e₁ : Entered)
    → (let column : List ℕ = replicate 1024 0 in run_left r media₁ copy₁ ks os ls e₁ ≡ run_call h a rows k (take n media) (take n copy) column column column e)
    → run_end r e₁ ≡ end_of (run_call h a rows k (take h.geometry.capacity media) (take h.geometry.capacity copy) (zeros 1024) (zeros 1024) (zeros 1024) e)
unfolding zeros
on-part h a rows k media copy e lm lc n q r media₁ copy₁ ks os ls e₁ p =
    let column : List ℕ = replicate 1024 0 in
    ap end_of p
    ∙ ap₂ (λ (x y : List ℕ). end_of (run_call h a rows k x y column column column e)) (take-few media 16384 h.geometry.capacity n lm q)
    (take-few copy 16384 h.geometry.capacity n lc q)

module _ (judged : Bool) (place : ℕ) (a : Armed) (h : Head) (rows : ℕ) (k : Columns) (at : ℕ) (out : List ℕ) (r : Ran) (e : Entered)
    (ran : run_end r e ≡ end_of (ran_on h a rows k)) where
  pub armed-is : line_ended judged place a r e at out ≡ armed_put judged place a h rows k at out
  unfolding armed_put
  armed-is = ap (λ (x : RunEnd). line_ended judged place a x.reply x.entries at out) ran

-- the run on columns of zeros
pub on-zeros : (h : Head) (a : Armed) (rows : ℕ) (k : Columns) (r : Ran) (e : Entered)
    → let short : List ℕ = replicate 512 0 in
    let media : List ℕ = replicate 16384 0 in
    run_end r e ≡ end_of (run_call h a rows k (take h.geometry.capacity media) (take h.geometry.capacity media) (zeros 1024) (zeros 1024) (zeros 1024) (entered_of short short short))
    → run_end r e ≡ end_of (ran_on h a rows k)
unfolding ran_on zeros
on-zeros h a rows k r e p = p

-- ---- the run at a place

module _ (judged : Bool) (place : ℕ) (h : Head) (rows : ℕ) (k : Columns) (ks os ls : List ℕ) (at : ℕ) (out : List ℕ) (p : Placed)
    (e : p ≡ placed_at place h.geometry ks os ls) where
  pub placed-is : line_placed judged place p h rows k at out ≡ run_line_call judged place h rows k ks os ls at out
  unfolding run_line_call
  placed-is = ap (λ (x : Placed). line_placed judged place x h rows k at out) e
