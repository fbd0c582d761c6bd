-- The code's table of endings is the definition by cases, and what the table means. Assumes nothing.
use mathlib.Core.Path.{◌≡◌, refl}
use mathlib.Core.Bool.{Bool, true, false}
use mathlib.Core.List.{List, [], ◌∷◌}
use Prim.Native.Nat.{ℕ, ◌<◌}
use lib.Dec.{lit<}
use lib.ListN.{get_or}
use Rattle.inject.specs.declared.Interruption.{Interruption}
use Rattle.inject.specs.declared.Interruption.TheVariants.{PowerLoss, Watchdog, Failure}
use Rattle.landing.specs.declared.Stop.{Stop}
use Rattle.landing.specs.declared.Stop.TheVariants.{Running, PowerLost, CoreReset}
use Rattle.landing.specs.Ending.{Ending, row_of, ending_of}

pub row_below : (i : Interruption) (b : Bool) → row_of i b < 6
row_below PowerLoss false = lit< tt
row_below PowerLoss true = lit< tt
row_below Watchdog false = lit< tt
row_below Watchdog true = lit< tt
row_below Failure false = lit< tt
row_below Failure true = lit< tt

abbrev row : ℕ → Stop → Ending
row a s = record { answer = a; stop = s }

-- the table as the code has it
abbrev pub table : List Ending
table = row 21 PowerLost ∷ row 0 PowerLost ∷ row 22 CoreReset ∷ row 22 CoreReset ∷ row 23 Running ∷ row 23 Running ∷ []

pub table-right : (i : Interruption) (b : Bool) (d : Ending) → get_or table (row_of i b) d ≡ ending_of i b
table-right PowerLoss false d = refl
table-right PowerLoss true d = refl
table-right Watchdog false d = refl
table-right Watchdog true d = refl
table-right Failure false d = refl
table-right Failure true d = refl
