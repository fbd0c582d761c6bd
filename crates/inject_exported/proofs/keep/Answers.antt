-- `inject_exported::keep` meets its contract: each of the four calls stores one of the point's numbers. Assumes nothing.
use Rattle.inject.proofs.Numbers.{interruption-tag}
use Rattle.inject_exported.specs.Inject.{point_in}
use Rattle.inject_exported.proofs.keep.Goals as goal

pub returns : goal.returns
unfolding point_in
returns c = let t = interruption-tag c.args.injection.interruption in cc
