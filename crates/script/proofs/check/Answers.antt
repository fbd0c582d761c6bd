-- `script::check` meets its contract: line 1 and its tests, then the lines after it, each refusal in its order. Assumes nothing.
use mathlib.Core.Path.{sym, ◌∙◌}
use borrow.Author.Rules.{rules}
use Rattle.refusals.specs.Nonzero.{refusal-nonzero}
use Rattle.script.proofs.Placed.{unplaced, placed}
use Rattle.script.proofs.Passes.{passes, whole-test, whole-fault, whole-sound}
use Rattle.script.proofs.check.Goals as goal

pub returns-then-text-gt-MOST_TEXT : goal.returns-then-text-gt-MOST_TEXT
returns-then-text-gt-MOST_TEXT c = search (rules, passes)

pub returns-in_default : goal.returns-in_default
returns-in_default c = rw c.malformed.ensures (search (rules, passes))

pub returns-in_err-map_err : goal.returns-in_err-map_err
returns-in_err-map_err c =
    let p = placed 1 c.head_refusal.result c.map_err.result _ c.map_err.ensures.cases (λ n e q. search rules) _ c.in_err-map_err.was in
    let t = whole-test _ c.if-text-gt-MOST_TEXT.false _ _ c.in-Some.ensures _ (refusal-nonzero _) (p.0 ∙ c.head_refusal.ensures) in
    search (rules, p, t)

pub returns-in_err-calls : goal.returns-in_err-calls
returns-in_err-calls c =
    let z = sym (unplaced c.head_refusal.result c.map_err.result _ c.map_err.ensures.cases _ c.in_ok-map_err.was) ∙ c.head_refusal.ensures in
    let t = whole-fault _ c.if-text-gt-MOST_TEXT.false _ _ c.in-Some.ensures z _ c.in_err-calls.ensures in
    search rules

pub returns : goal.returns
returns c =
    let z = sym (unplaced c.head_refusal.result c.map_err.result _ c.map_err.ensures.cases _ c.in_ok-map_err.was) ∙ c.head_refusal.ensures in
    whole-sound _ c.if-text-gt-MOST_TEXT.false _ _ c.in-Some.ensures z _ _ c.in_ok-calls.ensures
