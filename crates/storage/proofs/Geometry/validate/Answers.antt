-- `storage::Geometry::validate` meets its contract: each way out is one row of the definition's tests. Assumes nothing.
use mathlib.Core.Path.{◌≡◌, sym, ◌∙◌}
use mathlib.Core.Bool.{true}
use Prim.Native.Nat.{◌%◌}
use native.Mathlib.Omega.{arith}
use lib.Dec.{eqb}
use Rattle.std.proofs.Common.{rules}
use Rattle.storage.specs.Nonzero.{error-nonzero}
use Rattle.storage.proofs.Checks.{span-refused}
use Rattle.storage.proofs.Spans.{span-offset, span-length, span-end, span-legal}
use Rattle.storage.proofs.Geometry.validate.Goals as goal
use Rattle.storage.proofs.Geometry.validate.Goals.{Else-not-is_multiple, Else-not-is_multiple-2}

-- the offset and the length passed theirs
offset-whole : (c : goal.Else-not-is_multiple) → eqb (c.args.offset % c.args.unit) 0 ≡ true
offset-whole c = sym c.is_multiple.ensures ∙ c.if-not-is_multiple.false

length_whole : (c : goal.Else-not-is_multiple-2) → eqb (c.args.len % c.args.unit) 0 ≡ true
length_whole c = sym c.is_multiple-2.ensures ∙ c.if-not-is_multiple-2.false

pub returns-in_err-check : goal.returns-in_err-check
returns-in_err-check c = let t = span-refused c.args.self c.args.unit c.args.offset c.args.len _ (error-nonzero _) c.in_err-check.ensures in search rules

pub returns-then-not-is_multiple : goal.returns-then-not-is_multiple
returns-then-not-is_multiple c = sym (span-offset _ _ _ _ (sym c.in_ok-check.ensures) (sym c.is_multiple.ensures ∙ c.if-not-is_multiple.true))

pub returns-then-not-is_multiple-2 : goal.returns-then-not-is_multiple-2
returns-then-not-is_multiple-2 c =
    sym (span-length _ _ _ _ (sym c.in_ok-check.ensures) (offset-whole (goal.at.returns-then-not-is_multiple-2 c).Else-not-is_multiple)
    (sym c.is_multiple-2.ensures ∙ c.if-not-is_multiple-2.true))

pub returns-then-end-self : goal.returns-then-end-self
returns-then-end-self c =
    sym (span-legal _ _ _ _ (sym c.in_ok-check.ensures) (offset-whole (goal.at.returns-then-end-self c).Else-not-is_multiple) (length_whole (goal.at.returns-then-end-self c).Else-not-is_multiple-2)
    (omega arith) c.if-end-self.true)

pub returns-else-end-self : goal.returns-else-end-self
returns-else-end-self c = sym (span-end _ _ _ _ (sym c.in_ok-check.ensures) (offset-whole (goal.at.returns-else-end-self c).Else-not-is_multiple) (length_whole (goal.at.returns-else-end-self c).Else-not-is_multiple-2) c.if-end-self.false)
