-- The line at a place is document 01's, unless it does not fit.
--     line_at         the line of the run at a place
-- Assumes nothing.
use mathlib.Core.Path.{◌≡◌, refl, sym, ap, ◌∙◌}
use mathlib.Core.Bool.{Bool, true, false, cond}
use mathlib.Core.List.{List, []}
use Prim.Native.Nat.{ℕ}
use lib.ListN.{length, take, length-replicate}
use Rattle.basics.specs.Replies.{number_in}
use Rattle.model.specs.Answers.{Written}
use Rattle.std.specs.Prelude.{None as Absent}
use Rattle.oracle.specs.Verdict.{number_of, verified}
use Rattle.session.specs.Armed.{Armed}
use Rattle.ledger.specs.Ledger.{Entered}
use Rattle.script.specs.declared.Head.{Head}
use Rattle.script.specs.Columns.{Columns}
use Rattle.lines.specs.Lines.{judged_line}
use Rattle.history.specs.History.{suggested_written}
use Rattle.lines.specs.Answers.{put}
use Rattle.armed_runs.specs.Places.{Placed}
use Rattle.harness_runs.specs.Running.{Ran, zeros, RunLeft, ran_on}
use Rattle.harness.specs.Opening.{OpenLeft}
use Rattle.text_of_runs.specs.Claim.{RunPrinted, PlacePrinted}
use Rattle.run_lines.specs.RunLine.{judge_put, line_put, line_ended, armed_put, line_placed, run_line_call}
use Rattle.run_lines.proofs.Parts.{judged-by}

pub zeros-long : (n : ℕ) → length (zeros n) ≡ n
unfolding zeros
zeros-long n = length-replicate {A = ℕ} n 0

-- ---- the line of a run that was printed

module _ (place : ℕ) (armed : Armed) (ran : RunLeft) (sweep judge : List ℕ) (p : RunPrinted place armed ran sweep judge) (at : ℕ) (out : List ℕ) where
  judge-put : judge_put place p.rows.ids p.rows.states p.rows.torn at out ≡ put 0 judge at out
  judge-put =
      let column : List ℕ = zeros 512 in
      let w : Written = suggested_written p.rows.ids p.rows.states p.rows.torn column in
      let s = p.suggests column (zeros-long 512) in
      sym (judged-by place p.rows.ids p.rows.states p.rows.torn at out column (zeros-long 512) w.answer w.column refl (length p.history) s.0)
      ∙ ap (λ (h : List ℕ). put 0 (judged_line place (number_in number_of (verified p.rows.ids p.rows.states p.rows.torn h [] Absent)) h) at out) s.1
      ∙ ap (λ (bytes : List ℕ). put 0 bytes at out) p.judged

  line-put : (judged : Bool) → line_put judged place armed p.stop p.operations p.rows at out ≡ put 0 (cond judged judge sweep) at out
  unfolding line_put
  line-put true = judge-put
  line-put false = p.swept at out

  pub ended-put : (judged : Bool) → line_ended judged place armed ran.reply ran.entries at out ≡ put 0 (cond judged judge sweep) at out
  ended-put judged =
      ap (λ (x : Ran). line_ended judged place armed x ran.entries at out) p.ended
      ∙ ap (λ (e : Entered). line_put judged place armed p.stop p.operations e at out) (sym p.rows_are)
      ∙ line-put judged

-- ---- the line at a place

pub line_at : (judged : Bool) (place : ℕ) (h : Head) (rows : ℕ) (k : Columns) (o : OpenLeft) (operations : ℕ) (sweep judge : List ℕ)
    → PlacePrinted h rows k o operations place sweep judge → (at : ℕ) (out : List ℕ)
    → run_line_call judged place h rows k (take operations o.kinds) (take operations o.offsets) (take operations o.lens) at out
    ≡ put 0 (cond judged judge sweep) at out
unfolding run_line_call armed_put
line_at judged place h rows k o operations sweep judge p at out =
    ap (λ (x : Placed). line_placed judged place x h rows k at out) p.placed
    ∙ ended-put place p.armed (ran_on h p.armed rows k) sweep judge p.prints at out judged
