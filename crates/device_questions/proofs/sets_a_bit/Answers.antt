-- `device_questions::sets_a_bit` meets its contract: some byte has a 1 where its cell has 0 exactly if one of a block or one behind the
-- blocks has. Assumes nothing.
use mathlib.Core.Path.{◌≡◌, sym, ap, ◌∙◌}
use mathlib.Core.Bool.{Bool, ◌||◌}
use Prim.Native.Nat.{ℕ, ◌/◌}
use mathlib.Core.List.{List}
use lib.ListN.{length}
use Rattle.std.proofs.Common.{rules, tests}
use Rattle.std.specs.Simd.{first_chunks}
use Rattle.std.proofs.lemmas.Iterator.{YieldsList-from_slice, YieldsList-from_zip}
use Rattle.std.proofs.lemmas.Iterator.Search.{any_from_yields_List}
use Rattle.device.specs.Media.{any_pair, sets_a_bit}
use Rattle.device.proofs.Pairs.{found, passed, pair-blocks}
use Rattle.device_questions.proofs.sets_a_bit.Goals as goal
use Rattle.device_questions.proofs.sets_a_bit.Goals.{After-any}

-- some byte of this pair of blocks
abbrev blocks_set : List ℕ × List ℕ → Bool
blocks_set p = any_pair sets_a_bit p.0 p.1

-- some byte of a block or one behind the blocks
in_blocks : (c : goal.After-any) → any_pair sets_a_bit c.args.cells.now c.args.src.now
    ≡ (c.any.result || any_pair sets_a_bit c.as_chunks.result.1.now c.as_chunks-2.result.1.now)
in_blocks c =
    let cells = c.args.cells.now in
    let src = c.args.src.now in
    let k = length cells / 128 in
    let m : length src / 128 ≡ k = ap (λ (n : ℕ). n / 128) (sym c.requires) in
    let told = any_from_yields_List blocks_set c.any.new.self _ _ c.any.ensures.ran
    (YieldsList-from_zip {xs = first_chunks 128 k cells} {ys = first_chunks 128 (length src / 128) src} (YieldsList-from_slice _ cc) (YieldsList-from_slice _ cc))
    (λ x b q k. search (rules, tests)) in
    pair-blocks sets_a_bit 128 k cells src
    ∙ rw (told, c.as_chunks.ensures.back, c.as_chunks-2.ensures.back, m)

pub returns-then-any : goal.returns-then-any
returns-then-any c = c.if-any.true ∙ sym (found _ _ _ (in_blocks (goal.at.returns-then-any c).After-any) c.if-any.true)

pub returns-else-any : goal.returns-else-any
returns-else-any c = c.any_sets.ensures ∙ sym (passed _ _ _ (in_blocks (goal.at.returns-else-any c).After-any) c.if-any.false)
