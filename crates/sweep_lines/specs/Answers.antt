-- A run's line of `sweep` written into a lent buffer from a place on. Definitions only; assumes nothing.
use Rattle.std.specs.Prelude.{List, ℕ}
use Rattle.landing.specs.declared.Stop.{Stop}
use Rattle.model.specs.Columns.{ledger_of, refused}
use Rattle.session.specs.Armed.{Armed}
use Rattle.lines.specs.Lines.{Shown, sweep_line}
use Rattle.lines.specs.Answers.{Put, put}

-- a run whose ledger three columns hold
abbrev pub shown_of : Armed → Stop → (operations : ℕ) → (ids states torn : List ℕ) → Shown
shown_of armed stop operations is ss ts = record { injection = armed; stop = stop; operations = operations; ledger = ledger_of is ss ts }

-- its line of `sweep`; columns that hold no ledger are refused with 12
unfoldable pub sweep_put : (place : ℕ) → Armed → Stop → (operations : ℕ) → (ids states torn : List ℕ) → (at : ℕ) → (out : List ℕ) → Put
sweep_put place armed stop operations is ss ts at out = put (refused is ss ts) (sweep_line place (shown_of armed stop operations is ss ts)) at out
