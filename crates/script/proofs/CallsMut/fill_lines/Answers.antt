-- `script::CallsMut::fill_lines` meets its contract. The loop has stored the first `i` calls, which are those of the lines before `at`, and
-- their bytes, of which there are `used`. Assumes nothing.
use native.Mathlib.Omega.{arith}
use borrow.Author.Rules.{rules}
use Rattle.script.specs.Lent.{columns_in}
use Rattle.script.proofs.Fills.{Roomy, same-long, fill_start, fill_end, fill-faulty, fill-room, fill-same, fill-next}
use Rattle.script.proofs.CallsMut.fill_lines.Goals as goal
use Rattle.script.proofs.CallsMut.fill_lines.Goals.{In-Some}

-- where a line was read there is room for its row and its bytes
room : (c : goal.In-Some) → Roomy (columns_in c.loop-at.self) c.loop-at.i c.loop-at.used c.in-Some.row.size
room c = fill-room _ _ _ _ _ _ _ _ c.requires c.loop-at.invariant.3 c.loop-at.invariant.2 c.loop-at-test.true
    _ _ c.in-Some.ensures

pub loop-at-init : goal.loop-at-init
loop-at-init c = (search rules, search rules, same-long _, fill_start _ _ _ _ _ _ _ _ _ c.requires)

pub returns-in_default-clause-left : goal.returns-in_default-clause-left
returns-in_default-clause-left c = fill-faulty _ _ _ _ _ _ _ _ c.requires c.loop-at.invariant.3 c.loop-at.invariant.2 c.loop-at-test.true c.in_default.ensures

pub overflow_add-free : goal.overflow_add-free
overflow_add-free c = omega (arith, (room (goal.at.overflow_add-free c).In-Some).few)

pub bounds-self-i : goal.bounds-self-i
bounds-self-i c = (room (goal.at.bounds-self-i c).In-Some).kinds

pub bounds-self-i-in-loop-at : goal.bounds-self-i-in-loop-at
bounds-self-i-in-loop-at c = (room (goal.at.bounds-self-i-in-loop-at c).In-Some).firsts

pub bounds-self-i-in-loop-at-2 : goal.bounds-self-i-in-loop-at-2
bounds-self-i-in-loop-at-2 c = (room (goal.at.bounds-self-i-in-loop-at-2 c).In-Some).seconds

pub bounds-self-i-in-loop-at-3 : goal.bounds-self-i-in-loop-at-3
bounds-self-i-in-loop-at-3 c = (room (goal.at.bounds-self-i-in-loop-at-3 c).In-Some).thirds

pub overflow_cast-self : goal.overflow_cast-self
overflow_cast-self c = omega (arith, (room (goal.at.overflow_cast-self c).In-Some).few)

pub bounds-self-i-in-loop-at-4 : goal.bounds-self-i-in-loop-at-4
bounds-self-i-in-loop-at-4 c = (room (goal.at.bounds-self-i-in-loop-at-4 c).In-Some).starts

pub store_bytes-requires : goal.store_bytes-requires
store_bytes-requires c = (omega arith, (room (goal.at.store_bytes-requires c).In-Some).pool)

pub loop-at-preserved : goal.loop-at-preserved
loop-at-preserved c =
    let loop = c.loop-at in
    let test = c.loop-at-test.true in
    let t = c.in-Some.ensures in (
      t.inside,
      search rules,
      fill-same _ _ _ _ _ _ _ _ c.requires loop.invariant.3 loop.invariant.2 test _ _ t _ c.store_bytes.ensures,
      fill-next _ _ _ _ _ _ _ _ c.requires loop.invariant.3 loop.invariant.2 test _ _ t _ c.store_bytes.ensures,
    )

pub returns-clause-left : goal.returns-clause-left
returns-clause-left c = fill_end _ _ _ _ _ _ _ _ c.requires c.loop-at.invariant.3 c.loop-at.invariant.2 c.loop-at-test.false
