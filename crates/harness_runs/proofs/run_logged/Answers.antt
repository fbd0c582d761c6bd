-- `harness_runs::run_logged` meets its contract: refused by its number, or the rows and the ledger. Assumes nothing.
use mathlib.Core.Path.{refl, sym, ap}
use Prim.Native.Nat.{ℕ}
use Rattle.std.specs.Prelude.{Result}
use Rattle.basics.specs.Replies.{numbered}
use Rattle.refusals.specs.declared.Refusal.{Refusal}
use Rattle.refusals.specs.Numbers.{number_of}
use Rattle.std.proofs.Common.{rules}
use Rattle.refusals.specs.Nonzero.{refusal-nonzero}
use Rattle.ledger.specs.Ledger.{entered_of}
use Rattle.script.specs.Lent.{columns_seen}
use Rattle.harness_runs.specs.Running.{ended_by}
use Rattle.harness_runs.proofs.Parts.{zeros-are, run-refused, run_ends}
use Rattle.harness_runs.proofs.run_logged.Goals as goal

pub returns-in_err-rows_refusal : goal.returns-in_err-rows_refusal
returns-in_err-rows_refusal c =
    let t = run-refused c.args.writer.now.head c.args.armed c.args.writer.now.rows (columns_seen c.args.writer.now.calls) c.args.media.now c.args.copy.now c.args.kinds.now c.args.offsets.now c.args.lens.now (entered_of c.args.entries.now.ids c.args.entries.now.states c.args.entries.now.torn) _ c.in_err-rows_refusal.ensures (refusal-nonzero _) in
    search rules

pub returns-in_err-count : goal.returns-in_err-count
returns-in_err-count c =
    let t = run_ends c.args.writer.now.head c.args.armed c.args.writer.now.rows (columns_seen c.args.writer.now.calls) c.args.media.now c.args.copy.now c.args.kinds.now c.args.offsets.now c.args.lens.now (entered_of c.args.entries.now.ids c.args.entries.now.states c.args.entries.now.torn) _ c.in_ok-rows_refusal.ensures refl _ _ (zeros-are 1024) (zeros-are 512) _ c.told_by-told.ensures _ _ c.fresh.ensures c.fill_erased.ensures _ _ _ _ _ _ _ c.run_ledgered-derived.ensures.left _ _ c.run_ledgered-derived.ensures.derived _
    (sym (ap (λ (r : Result ℕ Refusal). ended_by c.run_ledgered-derived.result.0.counters c.run_ledgered-derived.result.0.failed (numbered number_of r)) c.in_err-count.was)) in
    search rules

pub returns : goal.returns
returns c =
    run_ends c.args.writer.now.head c.args.armed c.args.writer.now.rows (columns_seen c.args.writer.now.calls) c.args.media.now c.args.copy.now c.args.kinds.now c.args.offsets.now c.args.lens.now (entered_of c.args.entries.now.ids c.args.entries.now.states c.args.entries.now.torn) _ c.in_ok-rows_refusal.ensures refl _ _ (zeros-are 1024) (zeros-are 512) _ c.told_by-told.ensures _ _ c.fresh.ensures c.fill_erased.ensures _ _ _ _ _ _ _ c.run_ledgered-derived.ensures.left _ _ c.run_ledgered-derived.ensures.derived _
    (sym (ap (λ (r : Result ℕ Refusal). ended_by c.run_ledgered-derived.result.0.counters c.run_ledgered-derived.result.0.failed (numbered number_of r)) c.in_ok-count.was))
