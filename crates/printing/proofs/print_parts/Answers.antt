-- `printing::print_parts` meets its contract: what is handed over are the lines up to this one. Assumes nothing.
use mathlib.Core.Path.{◌≡◌, refl, sym}
use mathlib.Core.Bool.{Bool}
use mathlib.Core.List.{List, flatten}
use Prim.Native.Nat.{ℕ, ◌<◌}
use native.Mathlib.Omega.{arith}
use lib.ListN.{length, take, drop}
use lib.Seq.{length-take-le}
use borrow.Author.Rules.{rules}
use Rattle.text_parts.specs.Parts.{lines_for, Lines, part_left, part_of}
use Rattle.printing.proofs.Counts.{parts-for, one_line, none_yet, never-short, nothing_yet, Turn, turn, sent_on, cut_off, to_end, stopped, ended}
use Rattle.printing.proofs.print_parts.Goals as goal

-- what the part at hand adds
turn_of : (judged : Bool) (text out : List ℕ) (from printed lines bytes left : ℕ) (new : List ℕ)
    → length out ≡ 262144 → from < length (lines_for judged text) → printed ≡ length (flatten (take from (lines_for judged text)))
    → part_left (Lines lines bytes left) new ≡ part_of (drop from (lines_for judged text)) out
    → Turn (lines_for judged text) from printed lines bytes left new
turn_of judged text out from printed lines bytes left new room inside so_far e =
    turn (lines_for judged text) _ (parts-for judged text) out room from _ new e lines bytes left refl inside printed so_far

pub loop-lines-init : goal.loop-lines-init
loop-lines-init g c = (search rules, one_line g.P.InParts.judged c.args.text.now, none_yet (lines_for g.P.InParts.judged c.args.text.now), nothing_yet _ (lines_for g.P.InParts.judged c.args.text.now))

pub returns-in_default : goal.returns-in_default
returns-in_default g c =
    absurd
    (never-short (lines_for g.P.InParts.judged c.args.text.now) _ (parts-for g.P.InParts.judged c.args.text.now) c.loop-lines.out c.loop-lines.invariant.0
    c.loop-lines.from _ _ c.in_default.ensures _ refl)

pub overflow_add-next : goal.overflow_add-next
overflow_add-next g c =
    let t = turn_of g.P.InParts.judged c.args.text.now _ _ _ _ _ _ _ c.loop-lines.invariant.0 c.loop-lines.invariant.1 c.loop-lines.invariant.2 c.in-Ok.ensures in
    omega (arith, t.few)

pub overflow_add-sum : goal.overflow_add-sum
overflow_add-sum g c =
    let t = turn_of g.P.InParts.judged c.args.text.now _ _ _ _ _ _ _ c.loop-lines.invariant.0 c.loop-lines.invariant.1 c.loop-lines.invariant.2 c.in-Ok.ensures in
    omega (arith, t.short)

pub slice_bounds-out-end : goal.slice_bounds-out-end
slice_bounds-out-end g c =
    let t = turn_of g.P.InParts.judged c.args.text.now _ _ _ _ _ _ _ c.loop-lines.invariant.0 c.loop-lines.invariant.1 c.loop-lines.invariant.2 c.in-Ok.ensures in
    omega (arith, t.in_buffer)

pub slice_bounds-hand_over-end : goal.slice_bounds-hand_over-end
slice_bounds-hand_over-end g c =
    let t = turn_of g.P.InParts.judged c.args.text.now _ _ _ _ _ _ _ c.loop-lines.invariant.0 c.loop-lines.invariant.1 c.loop-lines.invariant.2 c.in-Ok.ensures in
    sym (length-take-le _ _ (omega (arith, t.in_buffer)))

pub returns-then-left-eq0 : goal.returns-then-left-eq0
returns-then-left-eq0 g c =
    let t = turn_of g.P.InParts.judged c.args.text.now _ _ _ _ _ _ _ c.loop-lines.invariant.0 c.loop-lines.invariant.1 c.loop-lines.invariant.2 c.in-Ok.ensures in
    let h = c.loop-lines.invariant in
    let all = t.last c.if-left-eq0.true in
    record {
      told = ended (lines_for g.P.InParts.judged c.args.text.now) _ _ all t.counted;
      written =
          to_end (lines_for g.P.InParts.judged c.args.text.now) _ _ _ _ all t.counted
          (sent_on _ _ _ _ _ _ _ h.3 c.hand_over.ensures c.if-not-hand_over.false t.joined);
    }

pub returns-then-not-hand_over-clause-told : goal.returns-then-not-hand_over-clause-told
returns-then-not-hand_over-clause-told g c = stopped (lines_for g.P.InParts.judged c.args.text.now) _ _ c.loop-lines.invariant.1 c.loop-lines.invariant.2

pub returns-then-not-hand_over-clause-written : goal.returns-then-not-hand_over-clause-written
returns-then-not-hand_over-clause-written g c =
    let t = turn_of g.P.InParts.judged c.args.text.now _ _ _ _ _ _ _ c.loop-lines.invariant.0 c.loop-lines.invariant.1 c.loop-lines.invariant.2 c.in-Ok.ensures in
    cut_off (lines_for g.P.InParts.judged c.args.text.now) _ _ _ _ _ _ _ _ c.loop-lines.invariant.3 c.hand_over.ensures t.joined c.loop-lines.invariant.2

pub loop-lines-smaller : goal.loop-lines-smaller
loop-lines-smaller g c =
    let t = turn_of g.P.InParts.judged c.args.text.now _ _ _ _ _ _ _ c.loop-lines.invariant.0 c.loop-lines.invariant.1 c.loop-lines.invariant.2 c.in-Ok.ensures in
    omega (arith, c.loop-lines.invariant.1, t.more)

pub loop-lines-preserved : goal.loop-lines-preserved
loop-lines-preserved g c =
    let t = turn_of g.P.InParts.judged c.args.text.now _ _ _ _ _ _ _ c.loop-lines.invariant.0 c.loop-lines.invariant.1 c.loop-lines.invariant.2 c.in-Ok.ensures in
    (search rules, t.not_last c.if-left-eq0.false, t.counted, sent_on _ _ _ _ _ _ _ c.loop-lines.invariant.3 c.hand_over.ensures c.if-not-hand_over.false t.joined)
