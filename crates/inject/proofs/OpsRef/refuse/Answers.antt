-- `inject::OpsRef::refuse` meets its contract: each way out is one row of the definition's tests, or four of them. Assumes nothing.
use Rattle.std.proofs.Common.{rules}
use Rattle.storage.specs.Nonzero.{error-nonzero}
use Rattle.inject.proofs.Refusals.{stop-geometry, stop-columns, stop-many, passed}
use Rattle.inject.proofs.OpsRef.refuse.Goals as goal
use Rattle.inject.proofs.OpsRef.refuse.Goals.{then-not-even-via-then-not-even, then-not-even-via-else-not-even+then-not-all_known}

pub returns-in_err-check : goal.returns-in_err-check
returns-in_err-check c =
    let o = c.args.self.now in
    let t = stop-geometry c.args.geometry o.kinds.now o.offsets.now o.lens.now c.args.equal _ c.in_err-check.ensures (error-nonzero _) in search rules

pub returns-then-not-even : goal.returns-then-not-even
returns-then-not-even c =
    stop-columns _ _ _ _ _ c.in_ok-check.ensures
    (elim c.then-not-even.branch [
      | then-not-even-via-then-not-even w ↦ rw w.if-not-even.true
      | then-not-even-via-else-not-even+then-not-all_known w ↦ rw (w.if-not-even.false, ← w.all_known.ensures, w.if-not-all_known.true)
    ])

pub returns-then-operations-gt-MOST : goal.returns-then-operations-gt-MOST
returns-then-operations-gt-MOST c = stop-many _ _ _ _ _ c.in_ok-check.ensures (rw (c.if-not-even.false, ← c.all_known.ensures, c.if-not-all_known.false)) c.if-operations-gt-MOST.true

pub returns : goal.returns
returns c = passed _ _ _ _ _ c.in_ok-check.ensures (rw (c.if-not-even.false, ← c.all_known.ensures, c.if-not-all_known.false)) c.if-operations-gt-MOST.false
