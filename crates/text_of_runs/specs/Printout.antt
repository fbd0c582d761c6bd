-- Document 01, "Scripts and the two programs": what `sweep` and `judge` print, line by line. Definitions only; assumes nothing.
use Rattle.std.specs.Prelude.{List, [], ◌∷◌, ℕ, suc, length}
use Rattle.lines.specs.Lines.{Shown, sweep_line, judge_line, runs_line, refused_text}
use Rattle.sweeps.specs.Sweep.{Swept, runs, not_swept, swept_of}

-- the lines of runs, from a place on
unfoldable pub lines_of_runs : ((place : ℕ) → Shown → List ℕ) → (place : ℕ) → List Shown → List (List ℕ)
lines_of_runs f place [] = []
lines_of_runs f place (r ∷ rs) = f place r ∷ lines_of_runs f (suc place) rs

-- "`runs`, count; then per run .."; "A refused script prints only `refused`, number, line."
abbrev pub lines_by : ((place : ℕ) → Shown → List ℕ) → Swept → List (List ℕ)
lines_by f (runs rs) = runs_line (length rs) ∷ lines_of_runs f 0 rs
lines_by f (not_swept number line) = refused_text number line ∷ []

unfoldable pub sweep_lines : (text : List ℕ) → List (List ℕ)
sweep_lines text = lines_by sweep_line (swept_of text)

unfoldable pub judge_lines : (text : List ℕ) → List (List ℕ)
judge_lines text = lines_by judge_line (swept_of text)
