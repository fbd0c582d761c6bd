-- Document 01, "Scripts and the two programs": "A 26 at any point refuses the whole sweep." Whether one does is read off the script before any crash
-- point runs, and each crash point is then the script's run with its injection. Definitions only; assumes nothing.
use Rattle.std.specs.Prelude.{Bool, false, not, ◌&&◌, ◌||◌, cond, List, [], ◌∷◌, map, ℕ, suc, ltb}
use Rattle.inject.specs.declared.Injection.{Injection}
use Rattle.session.specs.Armed.{Armed}
use Rattle.std.specs.Prelude.{None as Nothing, Some as At}
use Rattle.script.specs.declared.Head.{Head}
use Rattle.script.specs.Calls.{Call, begin, end, mark, program, erase, barrier}
use Rattle.script.specs.Script.{Script, script, refused}
use Rattle.threaded.specs.Threaded.{Session}
use Rattle.steps.specs.Writer.{Wrote}
use Rattle.lines.specs.Lines.{Shown}
use Rattle.sweeps.specs.Sweep.{run_by, shown_by, points_of, Swept, runs, not_swept}

-- some range is marked behind: it begins or ends before an operation whose line comes before its own. `operations` lines have come before.
unfoldable pub range_behind : (operations : ℕ) → List Call → Bool
range_behind n [] = false
range_behind n (begin id ∷ xs) = range_behind n xs
range_behind n (end ∷ xs) = range_behind n xs
range_behind n (mark id from to ∷ xs) = ltb from n || ltb to n || range_behind n xs
range_behind n (program offset bytes ∷ xs) = range_behind (suc n) xs
range_behind n (erase offset count ∷ xs) = range_behind (suc n) xs
range_behind n (barrier ∷ xs) = range_behind (suc n) xs

-- A writer that carries on marks the same ranges in every run. One that stops at its first error never reaches such a range in the run
-- that a watchdog cuts at the operation where the range begins or ends: the fault-free run has a mark there that this run has not.
abbrev pub meets26 : Head → List Call → Bool
meets26 h xs = not h.carries_on && range_behind 0 xs

-- the script's run with at most one injection, as it is printed
abbrev pub run_shown : Head → List Call → Armed → Shown
run_shown h xs a = shown_by h a (run_by h xs a).session

-- the fault-free run, then the run of each crash point
abbrev pub runs_shown : Head → List Call → (f : Session) → List Shown
runs_shown h xs f = run_shown h xs Nothing ∷ map (λ (j : Injection). run_shown h xs (At j)) (points_of h f)

-- the sweep, with 26 decided by the script alone
abbrev pub decided_by : Head → List Call → (fault_free : Wrote) → Swept
decided_by h xs w = cond w.failed (not_swept 24 0) (cond (meets26 h xs) (not_swept 26 0) (runs (runs_shown h xs w.session)))

abbrev pub decided_script : Script → Swept
decided_script (script h xs) = decided_by h xs (run_by h xs Nothing)
decided_script (refused number line) = not_swept number line
