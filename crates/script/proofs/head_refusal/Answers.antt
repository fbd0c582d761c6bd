-- `script::head_refusal` meets its contract: the geometry's own number comes first, and then the capacity's. Assumes nothing.
use borrow.Author.Rules.{rules}
use Rattle.storage.specs.Nonzero.{error-nonzero}
use Rattle.script.proofs.Heads.{head-units, head-large, head_sound}
use Rattle.script.proofs.head_refusal.Goals as goal

pub returns-in_err-check : goal.returns-in_err-check
returns-in_err-check c = let t = head-units c.args.geometry _ (error-nonzero _) c.in_err-check.ensures in search rules

pub returns-then-geometry-gt-MOST_CAPACITY : goal.returns-then-geometry-gt-MOST_CAPACITY
returns-then-geometry-gt-MOST_CAPACITY c = search (rules, head-large)

pub returns : goal.returns
returns c = search (rules, head_sound)
