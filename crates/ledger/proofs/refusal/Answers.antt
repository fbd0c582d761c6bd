-- `ledger::refusal` meets its contract: 7, then 12, then 13. Assumes nothing.
use lib.ListN.{length}
use Rattle.std.proofs.Common.{rules}
use Rattle.refusals.specs.Nonzero.{refusal-nonzero}
use Rattle.session.specs.Lent.{log_seen, marks_seen}
use Rattle.ledger.proofs.Numbers.{lent-size, lent-columns}
use Rattle.ledger.proofs.refusal.Goals as goal

pub returns-in_err-size_refusal : goal.returns-in_err-size_refusal
returns-in_err-size_refusal c =
    let a = c.args in
    let t = lent-size a.told a.counters (length a.media.now) (length a.copy.now) (log_seen a.log.now) (marks_seen a.marks.now) a.uneven _ (refusal-nonzero _) c.in_err-size_refusal.ensures in
    search rules

pub returns : goal.returns
returns c =
    let a = c.args in
    lent-columns a.told a.counters (length a.media.now) (length a.copy.now) (log_seen a.log.now) (marks_seen a.marks.now) a.uneven c.in_ok-size_refusal.ensures
    _ _ _ _ c.uneven.ensures c.uneven-2.ensures c.codes_known.ensures c.counts_short-short.ensures _ c.columns_refusal.ensures
