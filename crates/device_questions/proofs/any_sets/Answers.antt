-- `device_questions::any_sets` meets its contract: `found` says whether one of the bytes passed has a 1 where its cell has 0. Assumes nothing.
use mathlib.Core.Path.{◌≡◌, sym, ◌∙◌}
use mathlib.Core.Bool.{◌||◌}
use Prim.Native.Nat.{◌+◌}
use native.Mathlib.Omega.{arith}
use lib.ListN.{length, take}
use borrow.Author.Rules.{rules}
use Rattle.std.proofs.lemmas.List.{length_push}
use Rattle.std.proofs.lemmas.Slice.Zip.{zip_turn, zip_end}
use Rattle.device.specs.Media.{any_pair, sets_a_bit}
use Rattle.device.proofs.Pairs.{any-more, any-all}
use Rattle.device_questions.proofs.any_sets.Goals as goal

pub loop-cell-init : goal.loop-cell-init
unfolding any_pair
loop-cell-init c = search rules

pub loop-cell-preserved : goal.loop-cell-preserved
loop-cell-preserved c =
    let xs = c.args.cells.now in
    let ys = c.args.src.now in
    let passed = c.loop-cell.yielded in
    let n = length passed in
    let t = zip_turn xs ys passed c.into_iter-cell-iterator.result c.loop-cell.cell-iterator c.next.new.self _ (search rules) (search rules) c.loop-cell.yielded_by _ c.in-Some.is c.next.ensures.steps in
    let more : (c.loop-cell.found || sets_a_bit c.in-Some.cell.now c.in-Some.wanted.now) ≡ any_pair sets_a_bit (take (n + 1) xs) (take (n + 1) ys) =
    rw (c.loop-cell.invariant, t.2 0, t.3 0) (sym (any-more sets_a_bit xs ys n t.0 t.1)) in
    rw (length_push passed (c.in-Some.cell, c.in-Some.wanted)) more

pub returns : goal.returns
returns c =
    let xs = c.args.cells.now in
    let ys = c.args.src.now in
    let n = length c.loop-cell.yielded in
    let t = zip_end xs ys c.loop-cell.yielded c.into_iter-cell-iterator.result c.loop-cell.cell-iterator c.next.new.self _ (search rules) (search rules) c.loop-cell.yielded_by c.in-None.is c.next.ensures.steps in
    c.loop-cell.invariant ∙ any-all sets_a_bit xs ys n (omega (arith, t)) (omega (arith, t))
