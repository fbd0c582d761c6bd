-- `inject::all_known` meets its contract: `known` is the test of each code. Assumes nothing.
use Rattle.std.proofs.Common.{ltb, refl, rules}
use Rattle.std.proofs.lemmas.List.Recursion.{and_is}
use Rattle.inject.specs.Ops.{known}
use Rattle.inject.proofs.all_known.Goals as goal

pub returns : goal.returns
unfolding known
returns c = and_is known (λ kind. ltb kind 3) refl (λ _ _. refl) c.args.kinds.now 0 _ (search rules) (search rules)
