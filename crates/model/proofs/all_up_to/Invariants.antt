-- `model::all_up_to` meets its contract: the flag and the codes not yet read say together what the whole column says. Assumes nothing.
use mathlib.Core.Path.{◌≡◌}
use mathlib.Core.Bool.{◌&&◌}
use lib.ListN.{drop}
use Rattle.model.specs.Columns.{all_up_to}
use Rattle.model.proofs.all_up_to.Given as goal

abbrev pub invariant-loop-code : goal.invariant-loop-code
invariant-loop-code l = all_up_to l.top l.codes ≡ (l.sound && all_up_to l.top (drop l.code-index l.codes))
