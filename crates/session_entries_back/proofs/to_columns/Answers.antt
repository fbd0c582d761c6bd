-- `session_entries_back::to_columns` meets its contract: refused, or every entry goes over. Assumes nothing.
use mathlib.Core.Path.{◌≡◌, sym, ap, ◌∙◌}
use native.Mathlib.Numerals.{add-one}
use native.Mathlib.Omega.{arith}
use lib.ListN.{length, get_or}
use Rattle.std.proofs.Common.{rules}
use Rattle.refusals.specs.Nonzero.{refusal-nonzero}
use Rattle.session.specs.Log.{Log, logged}
use Rattle.session.specs.Lent.{log_in}
use Rattle.session_entries.specs.Entries.{no_entry, with_entries, moved_number}
use Rattle.session_entries.proofs.Returned.{refused-columns, columns-all}
use Rattle.session_entries_back.proofs.to_columns.Goals as goal

pub returns-in_err-moved_number-clause-left : goal.returns-in_err-moved_number-clause-left
returns-in_err-moved_number-clause-left c =
    let log = c.args.log.now in
    let e = c.in_err-moved_number.ensures ∙ ap (λ (l : Log). moved_number l (length log) (length c.args.to.now.kinds.now)) c.seen.ensures in
    (search rules, sym (refused-columns log (log_in c.args.to.now) (λ z. refusal-nonzero _ (e ∙ z))))

pub loop-index-preserved : goal.loop-index-preserved
loop-index-preserved c =
    let log = c.args.log.now in
    let i = c.loop-index.index in
    let e = c.record.ensures in
    let s = c.loop-index.invariant.same in
    record {
      same = (e.same.0 ∙ s.0, e.same.1 ∙ s.1, e.same.2 ∙ s.2, e.same.3 ∙ s.3, e.same.4 ∙ s.4, e.same.5 ∙ s.5);
      rows =
          e.left ∙ ap (λ (l : Log). logged l i (get_or log i no_entry)) c.loop-index.invariant.rows
          ∙ sym (ap (with_entries log (log_in c.args.to.now)) (add-one i));
    }

pub returns-clause-left : goal.returns-clause-left
returns-clause-left c =
    let log = c.args.log.now in
    let l = log_in c.args.to.now in
    let z = c.in_ok-moved_number.ensures ∙ ap (λ (k : Log). moved_number k (length log) (length c.args.to.now.kinds.now)) c.seen.ensures in
    let n : c.loop-index.index ≡ length log = omega (arith, c.loop-index-test.false, c.loop-index.auto.index-end) in
    (z, c.loop-index.invariant.rows ∙ ap (with_entries log l) n ∙ sym (columns-all log l (sym z)))
