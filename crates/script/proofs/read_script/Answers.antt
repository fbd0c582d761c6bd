-- `script::read_script` meets its contract: the check of the script, then the room, then the rows; each refusal leaves the columns. Assumes nothing.
use mathlib.Core.Path.{◌≡◌, ap, sym, ◌∙◌}
use borrow.Author.Rules.{rules}
use Rattle.refusals.specs.Nonzero.{refusal-nonzero}
use Rattle.script.specs.Columns.{Columns, room_test}
use Rattle.script.specs.Lent.{columns_in}
use Rattle.script.proofs.Placed.{unplaced, placed}
use Rattle.script.proofs.Rooms.{rooms, read-no-room, read-ready, read_done}
use Rattle.script.proofs.read_script.Goals as goal
use Rattle.script.proofs.read_script.Goals.{In_ok-map_err}

pub returns-in_err-script-clause-left : goal.returns-in_err-script-clause-left
returns-in_err-script-clause-left c = search (rules, rooms)

pub returns-in_err-map_err-clause-left : goal.returns-in_err-map_err-clause-left
returns-in_err-map_err-clause-left c =
    let s = c.in_ok-script.script in
    let p = placed 0 c.room_refusal.result c.map_err.result _ c.map_err.ensures.cases (λ n e q. search rules) _ c.in_err-map_err.was in
    let t = read-no-room _ _ _ _ _ c.in_ok-script.ensures _ _ (refusal-nonzero _) (p.0 ∙ c.room_refusal.ensures ∙ ap (λ (k : Columns). room_test k s.calls s.bytes) c.seen.ensures) in
    search (rules, p, t)

-- there is room
room : (c : In_ok-map_err) → 0 ≡ room_test (columns_in c.args.calls.now) c.in_ok-script.script.calls c.in_ok-script.script.bytes
room c =
    let s = c.in_ok-script.script in
    sym (unplaced c.room_refusal.result c.map_err.result _ c.map_err.ensures.cases _ c.in_ok-map_err.was) ∙ c.room_refusal.ensures ∙ ap (λ (k : Columns). room_test k s.calls s.bytes) c.seen.ensures

pub fill_lines-requires : goal.fill_lines-requires
fill_lines-requires c = read-ready _ _ _ _ _ c.in_ok-script.ensures _ (room (goal.at.fill_lines-requires c).In_ok-map_err)

pub returns-clause-left : goal.returns-clause-left
returns-clause-left c = read_done _ _ _ _ _ c.in_ok-script.ensures _ (room (goal.at.returns-clause-left c).In_ok-map_err) _ c.fill_lines.ensures.left
