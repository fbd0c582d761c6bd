-- `basics::first_of` meets its contract: it stops at the first number, or passes to the next. Assumes nothing.
use mathlib.Core.Path.{sym, ◌∙◌}
use Rattle.basics.proofs.Tests.{first_of-stop, first_of-pass, first_of-one}
use Rattle.basics.proofs.first_of.Goals as goal

pub returns-then-number-ne0 : goal.returns-then-number-ne0
returns-then-number-ne0 c = sym (first_of-stop _ _ c.if-number-ne0.true)

pub returns-else-number-ne0 : goal.returns-else-number-ne0
returns-else-number-ne0 c = sym (first_of-pass _ _ c.if-number-ne0.false ∙ first_of-one _)
