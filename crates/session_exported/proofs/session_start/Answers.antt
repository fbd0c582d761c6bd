-- `session_exported::session_start` meets its contract: the answer told which case it is, and the counters of a fresh one were put in place. Assumes nothing.
use mathlib.Core.Path.{sym, ap, ◌∙◌}
use Rattle.std.specs.Prelude.{Err}
use Rattle.basics.specs.Replies.{numbered}
use Rattle.refusals.specs.Numbers.{number_of}
use Rattle.session_exported.proofs.SessionNumbers.{start-fresh, start-refused}
use Rattle.session_exported.proofs.session_start.Goals as goal

pub returns-in-Ok : goal.returns-in-Ok
returns-in-Ok c = start-fresh _ _ c.told_of-given.ensures _ _ _ _ _ _ c.start.ensures _ _ _ (ap (numbered number_of) c.in-Ok.is) c.keep.ensures

pub returns-in-Err : goal.returns-in-Err
returns-in-Err c =
    start-refused _ _ c.told_of-given.ensures _ _ _ _ _ _ c.start.ensures _ _ (ap (numbered number_of) c.in-Err.is ∙ ap Err (sym c.number.ensures))
