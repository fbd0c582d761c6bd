-- `text_parts::fill` meets its contract: what is left to put, with what was put, is all of it. Assumes nothing.
use mathlib.Core.Path.{◌≡◌}
use Prim.Native.Nat.{◌-◌, ◌≤◌}
use Rattle.pieces.specs.Cursors.{SameOut}
use Rattle.text_parts.specs.Inner.{line_of, fill_runs}
use Rattle.text_parts.proofs.fill.Given as goal

-- the runs from this one on, put from here on, are all the runs put from the start
abbrev pub invariant-loop-place : goal.invariant-loop-place
invariant-loop-place g l =
    SameOut l.initial.to l.to
    × (fill_runs (line_of g.P.Program.judged l.opened) (l.runs - l.place) l.place l.to.at l.to.out.now ≡ fill_runs (line_of g.P.Program.judged l.opened) (l.runs - l.first) l.first l.initial.to.at l.initial.to.out.now)
    × (l.first ≤ l.place) × (l.place ≤ l.runs)
