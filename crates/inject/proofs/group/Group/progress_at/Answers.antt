-- `inject::group::Group::progress_at` meets its contract: the place lies among the none points, the byte points or the whole points. Assumes nothing.
use mathlib.Core.Path.{sym}
use native.Mathlib.Omega.{arith}
use Rattle.inject.proofs.Groups.{grouped-none, grouped-bytes, grouped-whole, bytes_fit}
use Rattle.inject.proofs.group.Group.progress_at.Goals as goal

pub returns-then-place-nones : goal.returns-then-place-nones
returns-then-place-nones c = sym (grouped-none _ _ c.if-place-nones.true)

pub overflow_mul-bytes : goal.overflow_mul-bytes
overflow_mul-bytes c = omega (arith, bytes_fit c.args.self _ c.if-step-self.true)

pub overflow_cast-result : goal.overflow_cast-result
overflow_cast-result c = omega (arith, bytes_fit c.args.self _ c.if-step-self.true)

pub returns-then-step-self : goal.returns-then-step-self
returns-then-step-self c = sym (grouped-bytes _ _ c.if-place-nones.false c.if-step-self.true)

pub returns : goal.returns
returns c = sym (grouped-whole _ _ c.requires c.if-place-nones.false c.if-step-self.false)
