-- `script::alone_line` meets its contract: the letter is `N` or `S`, or no line of one field has it. Assumes nothing.
use mathlib.Core.Path.{sym, ◌∙◌}
use borrow.Author.Rules.{rules}
use Rattle.script.proofs.Letters.{alone-end, alone-other, alone-faulty}
use Rattle.script.proofs.alone_line.Goals as goal
use Rattle.script.proofs.alone_line.Goals.{then-kind-eq78, else-kind-eq78}

pub returns-then-other : goal.returns-then-other
returns-then-other c = alone-faulty _ _ _ c.requires (sym c.other_letter-other.ensures ∙ c.if-other.true)

pub returns : goal.returns
returns c =
    let alone = sym c.other_letter-other.ensures ∙ c.if-other.false in
    rw c.bare_row.ensures
    (elim c.if-kind-eq78.branch [
      | then-kind-eq78 w ↦ rw w.code-is (alone-end _ _ _ c.requires (search rules))
      | else-kind-eq78 w ↦ rw w.code-is (alone-other _ _ _ c.requires alone (search rules))
    ])
