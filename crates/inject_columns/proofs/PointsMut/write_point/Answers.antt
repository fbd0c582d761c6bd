-- `inject_columns::PointsMut::write_point` meets its contract: the four stores are one row. Assumes nothing.
use mathlib.Core.Path.{refl}
use Rattle.inject.proofs.Numbers.{interruption-tag}
use Rattle.inject_columns.specs.Steps.{laid}
use Rattle.inject_columns.proofs.PointsMut.write_point.Goals as goal

pub returns-clause-written : goal.returns-clause-written
unfolding laid
returns-clause-written c = rw (c.code.ensures, c.byte_count.ensures, interruption-tag c.args.injection.interruption) refl
