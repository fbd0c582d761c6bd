-- `inject::group::Group::size` meets its contract: the none points, the byte points and the whole points. Assumes nothing.
use mathlib.Core.Path.{sym}
use native.Mathlib.Omega.{arith}
use Rattle.inject.proofs.Groups.{length-grouped}
use Rattle.inject.proofs.group.Group.size.Goals as goal

pub returns : goal.returns
returns c = (sym (length-grouped c.args.self), let s = c.args.self.small in omega arith)
