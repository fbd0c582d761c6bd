-- Document 01, "Scripts and the two programs": the text of `sweep` and `judge`. Definitions only; assumes nothing.
use Rattle.std.specs.Prelude.{cond, List, [], ◌∷◌, ◌++◌, map, ℕ, suc, length, None as Nothing, Some as At, None as Absent}
use Rattle.basics.specs.Replies.{number_in}
use Rattle.inject.specs.declared.Progress.{Progress}
use Rattle.inject.specs.declared.Progress.TheVariants.{None, Bytes, Whole}
use Rattle.inject.specs.declared.Interruption.{Interruption}
use Rattle.inject.specs.declared.Interruption.TheVariants.{PowerLoss, Watchdog, Failure}
use Rattle.landing.specs.declared.Stop.{Stop}
use Rattle.landing.specs.declared.Stop.TheVariants.{Running, PowerLost, CoreReset}
use Rattle.model.specs.declared.Durability.{Durability}
use Rattle.model.specs.declared.Durability.TheVariants.{Attempted, PossiblyDurable, Acknowledged}
use Rattle.model.specs.Ledger.{Entry, is_torn}
use Rattle.oracle.specs.Verdict.{number_of, verdict}
use Rattle.session.specs.Armed.{Armed}
use Rattle.text.specs.Numbers.{decimal_of}
use Rattle.script.specs.Print.{joined}
use Rattle.history.specs.History.{suggested}
use Rattle.pieces.specs.Pieces.{letter}

-- a run as it is printed: its injection, the session's stop, operations recorded, and the ledger
pub record Shown : Type 0 where
  pub injection : Armed
  pub stop : Stop
  pub operations : ℕ
  pub ledger : List Entry

-- "kind (`-`, `p`, `w`, `f`)"
abbrev pub letter_of : Interruption → ℕ
letter_of PowerLoss = 112
letter_of Watchdog = 119
letter_of Failure = 102

-- "progress (`n`, count, `a` for whole ..)"
abbrev pub progress_field : Progress → List ℕ
progress_field None = letter 110
progress_field (Bytes count) = decimal_of count
progress_field Whole = letter 97

-- kind, index and progress; "both `-` in run 0" (`-` is 45)
abbrev pub point_fields : Armed → List (List ℕ)
point_fields Nothing = letter 45 ∷ letter 45 ∷ letter 45 ∷ []
point_fields (At j) = letter (letter_of j.interruption) ∷ decimal_of j.op ∷ progress_field j.progress ∷ []

-- "the session's stop (`-`, `p`, `w`)"
abbrev pub stop_field : Stop → List ℕ
stop_field Running = letter 45
stop_field PowerLost = letter 112
stop_field CoreReset = letter 119

-- "an id with `a`, `d` or `k` (states 0, 1, 2) and `t` if torn per record"
abbrev pub state_letter : Durability → ℕ
state_letter Attempted = 97
state_letter PossiblyDurable = 100
state_letter Acknowledged = 107

abbrev pub entry_field : Entry → List ℕ
entry_field e = decimal_of e.id ++ (state_letter e.state ∷ cond (is_torn e) (letter 116) [])

-- a line of fields, with its LF
abbrev pub line : List (List ℕ) → List ℕ
line fields = joined fields ++ letter 10

-- "its place among the runs .., kind, index, progress, the session's stop, operations recorded, and an id .. per record"
unfoldable pub sweep_line : (place : ℕ) → Shown → List ℕ
sweep_line place r =
    line (decimal_of place ∷ (point_fields r.injection ++ (stop_field r.stop ∷ decimal_of r.operations ∷ map entry_field r.ledger)))

-- "place, verdict and the suggested history .. a field each"
abbrev pub judged_line : (place number : ℕ) → (history : List ℕ) → List ℕ
judged_line place number history = line (decimal_of place ∷ decimal_of number ∷ map decimal_of history)

-- "It passes nothing dispatched and no bank count."
unfoldable pub judge_line : (place : ℕ) → Shown → List ℕ
judge_line place r = judged_line place (number_in number_of (verdict r.ledger (suggested r.ledger) [] Absent)) (suggested r.ledger)

-- "`runs`, count"
abbrev pub runs_line : (count : ℕ) → List ℕ
runs_line count = line ((114 ∷ 117 ∷ 110 ∷ 115 ∷ []) ∷ decimal_of count ∷ [])

-- the lines of runs, from a place on
unfoldable pub lines_from : ((place : ℕ) → Shown → List ℕ) → (place : ℕ) → List Shown → List ℕ
lines_from f place [] = []
lines_from f place (r ∷ rs) = f place r ++ lines_from f (suc place) rs

abbrev pub sweep_text : List Shown → List ℕ
sweep_text rs = runs_line (length rs) ++ lines_from sweep_line 0 rs

abbrev pub judge_text : List Shown → List ℕ
judge_text rs = runs_line (length rs) ++ lines_from judge_line 0 rs

-- "A refused script prints only `refused`, number, line."
abbrev pub refused_text : (number line : ℕ) → List ℕ
refused_text number at = line ((114 ∷ 101 ∷ 102 ∷ 117 ∷ 115 ∷ 101 ∷ 100 ∷ []) ∷ decimal_of number ∷ decimal_of at ∷ [])
