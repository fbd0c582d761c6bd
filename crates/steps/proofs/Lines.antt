-- A script's lines without a range are the plain run's calls.
--     Same, lines_same     each line does what its call does
-- Assumes nothing.
use mathlib.Core.Path.{◌≡◌, refl, sym}
use mathlib.Core.Bool.{true, true≢false}
use mathlib.Core.List.{List, [], ◌∷◌}
use Rattle.session.specs.declared.Told.{Told}
use Rattle.plain.specs.Plain
use Rattle.threaded.specs.Threaded.{Session, answered}
use Rattle.script.specs.Calls.{Call, begin, end, mark, program, erase, barrier}
use Rattle.steps.specs.Writer.{line_answered}
use Rattle.steps.specs.Calls.{no_range, plain_calls}

-- lines beside calls, one by one
pub data Same : List Call → List Plain.Call → Type 0 where
  none : Same [] []
  more : (x : Call) (c : Plain.Call) (xs : List Call) (cs : List Plain.Call) → ((t : Told) (s : Session) → line_answered t s x ≡ answered t s c)
      → Same xs cs → Same (x ∷ xs) (c ∷ cs)

pub lines_same : (xs : List Call) → no_range xs ≡ true → Same xs (plain_calls xs)
unfolding no_range plain_calls line_answered answered
lines_same [] e = none
lines_same (begin id ∷ xs) e = more _ _ xs (plain_calls xs) (λ t s. refl) (lines_same xs e)
lines_same (end ∷ xs) e = more _ _ xs (plain_calls xs) (λ t s. refl) (lines_same xs e)
lines_same (mark id from to ∷ xs) e = absurd (true≢false (sym e))
lines_same (program offset bytes ∷ xs) e = more _ _ xs (plain_calls xs) (λ t s. refl) (lines_same xs e)
lines_same (erase offset count ∷ xs) e = more _ _ xs (plain_calls xs) (λ t s. refl) (lines_same xs e)
lines_same (barrier ∷ xs) e = more _ _ xs (plain_calls xs) (λ t s. refl) (lines_same xs e)
