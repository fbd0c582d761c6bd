-- `held::same_marks` meets its contract: `eq` of the marks that count, of each run those below what is compared. Assumes nothing.
use mathlib.Core.Path.{◌≡◌, ap, ap₂, ◌∙◌}
use Prim.Native.Nat.{ℕ}
use native.Mathlib.Omega.{arith}
use Rattle.std.proofs.Common.{refl, rules, tests}
use Rattle.std.proofs.lemmas.Iterator.{YieldsList-from_range, YieldsList-from_map_by}
use Rattle.std.proofs.lemmas.Iterator.Consumers.{YieldsList-from_filter, YieldsList-at}
use Rattle.session.specs.Log.{marks_of}
use Rattle.ledger.specs.Ledger.{marks_listed}
use Rattle.held.specs.Held.{recorded_in, same, same_mark, below}
use Rattle.held.specs.Scans.{marked_as}
use Rattle.held.proofs.Alike.{mark-true, mark-self, mark-eq}
use Rattle.held.proofs.Compared.{compared}
use Rattle.held.proofs.Marks.{mark_row, is_below, marks-given}
use Rattle.held.proofs.same_marks.Goals as goal

pub returns : goal.returns
returns c =
    let f = recorded_in c.args.free.now.recorded in
    let r = recorded_in c.args.run.now.recorded in
    compared marked_as same_mark mark-true mark-self _ mark-eq (λ a b. b ≡ a) _ _ _ c.eq.ensures.ran (λ it q. q) _ _
    (YieldsList-from_filter _ (is_below c.end_of-free_end.result)
    (YieldsList-at c.filter-free_marks.ensures.source (YieldsList-from_map_by _ marked_as (mark_row f) (YieldsList-at c.map.ensures.source (YieldsList-from_range 0 f.counters.marks f.counters.marks refl (omega arith))) c.map.ensures.closure (λ x b q k. search rules)))
    c.filter-free_marks.ensures.closure (λ x b q k. search (rules, tests)))
    (YieldsList-from_filter _ (is_below c.end_of-end.result)
    (YieldsList-at c.filter-marks.ensures.source (YieldsList-from_map_by _ marked_as (mark_row r) (YieldsList-at c.map-2.ensures.source (YieldsList-from_range 0 r.counters.marks r.counters.marks refl (omega arith))) c.map-2.ensures.closure (λ x b q k. search rules)))
    c.filter-marks.ensures.closure (λ x b q k. search (rules, tests)))
    ∙ ap₂ (same same_mark)
    (marks-given f c.args.free.now.fits _ ∙ ap (λ (n : ℕ). below n (marks_listed f.counters (marks_of f.codes f.ids f.places))) c.end_of-free_end.ensures)
    (marks-given r c.args.run.now.fits _ ∙ ap (λ (n : ℕ). below n (marks_listed r.counters (marks_of r.codes r.ids r.places))) c.end_of-end.ensures)
