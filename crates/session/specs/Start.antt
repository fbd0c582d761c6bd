-- Document 01, "Demand 3" and "Numbers from the input": what a start answers, and what it leaves. Definitions only; assumes nothing.
use Rattle.std.specs.Prelude.{false, cond, List, Result, Ok as Fresh, Err as NotStarted, ℕ, length, eqb}
use Rattle.device.specs.Media.{new_media}
use Rattle.landing.specs.declared.Stop.TheVariants.{Running}
use Rattle.session.specs.declared.Told.{Told}
use Rattle.session.specs.declared.Counters.{Counters}
use Rattle.session.specs.Log.{Log, Marks}
use Rattle.session.specs.Tests.{start_test}

-- "Fresh is a session whose start was not refused, before any call": nothing taken, not stopped, nothing fired or withheld
abbrev pub fresh : Counters
fresh = record { operations = 0; marks = 0; stop = Running; fired = false; place = 0; withheld = 0 }

-- what a start answers: the fresh counters, or the number that refuses
abbrev pub Started : Type 0
Started = Result Counters ℕ

-- what a start leaves: its reply and the media. The copy, the log and the marks stay as they are.
pub record Opened : Type 0 where
  pub reply : Started
  pub media : List ℕ

abbrev pub opened : Started → List ℕ → Opened
opened r m = record { reply = r; media = m }

abbrev pub opened_by : (number : ℕ) → (media : List ℕ) → Opened
opened_by number media = cond (eqb number 0) (opened (Fresh fresh) (new_media (length media))) (opened (NotStarted number) media)

-- "a start leaves a new device's media"; a refused one leaves them as they were
unfoldable pub started : Told → (media : List ℕ) (copy : ℕ) → Log → Marks → Opened
started t media copy l m = opened_by (start_test t.geometry (length media) copy l m) media
