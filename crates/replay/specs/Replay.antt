-- Document 01, "Demand 3": what `replay` answers, and what it leaves: the plain run. Definitions only; assumes nothing.
use Rattle.std.specs.Prelude.{Ok as Entries, Err as NotDerived, Bool, ◌||◌, cond, List, ◌++◌, ℕ, length, drop, eqb, ltb}
use Rattle.device.specs.Media.{new_media}
use Rattle.session.specs.declared.Told.{Told}
use Rattle.session.specs.Log.{Log, Marks}
use Rattle.session.specs.Start.{fresh}
use Rattle.ledger.specs.Ledger.{Derived, Entered, entries_uneven, entered}
use Rattle.plain.specs.Plain.{Call, Run, plain}
use Rattle.plain.specs.Ledger.{ledger}
use Rattle.threaded.specs.Threaded.{Session, threaded}
use Rattle.script.specs.Columns.{Columns}
use Rattle.script.specs.Held.{calls_in}
use Rattle.rows.specs.Rows.{rows_number}
use Rattle.steps.specs.Calls.{plain_calls}

-- all else that is lent: the answers, what a session is lent, and the ledger's columns
pub record Lent : Type 0 where
  pub answers : List ℕ
  pub media : List ℕ
  pub copy : List ℕ
  pub log : Log
  pub marks : Marks
  pub entries : Entered

abbrev pub lent : (answers media copy : List ℕ) → Log → Marks → Entered → Lent
lent a d k l m e = record { answers = a; media = d; copy = k; log = l; marks = m; entries = e }

-- the calls that the rows ask for; kinds above 4 are refused, so that none is a range
abbrev pub list_of : (rows : ℕ) → Columns → List Call
list_of rows k = plain_calls (calls_in rows k)

-- the plain run of the calls, on a new device's media
abbrev pub run_of : Told → (rows : ℕ) → Columns → Lent → Run
run_of t rows k x = plain t (new_media (length x.media)) (list_of rows k)

-- ---- the tests: "the lowest number comes first", 1 to 3, 7, 12, 13

-- "columns of one list unequal": the ledger's; the rows' are tested with the rows. The log's and the marks' are arrays of a session's limits.
abbrev pub uneven_of : Lent → Bool
uneven_of x = entries_uneven (length x.entries.ids) (length x.entries.states) (length x.entries.torn)

-- answers shorter than the rows, or a ledger shorter than so many entries
abbrev pub short_of : (rows entries : ℕ) → Lent → Bool
short_of rows entries x = ltb (length x.answers) rows || ltb (length x.entries.ids) entries

abbrev pub number_for : Told → (rows entries : ℕ) → Columns → Lent → ℕ
number_for t rows entries k x =
    rows_number t.geometry (length x.media) (length x.copy) (uneven_of x) (short_of rows entries x) 4 rows k

-- what refuses a list of calls, with as many entries as the plain run's ledger has
abbrev pub replay_number : Told → (rows : ℕ) → Columns → Lent → ℕ
replay_number t rows k x = number_for t rows (length (ledger (run_of t rows k x))) k x

-- ---- what it leaves

-- a session on a new device's media, before any call
abbrev pub opening : Lent → Session
opening x = record { counters = fresh; media = new_media (length x.media); copy = x.copy; log = x.log; marks = x.marks }

-- answers, media and ledger are the plain run's; copy, log and marks are as the session's last call left them
abbrev pub leaves : (run : Run) → (last : Session) → Lent → Lent
leaves r s x =
    lent (r.answers ++ drop (length r.answers) x.answers) r.media s.copy s.log s.marks (entered (ledger r) x.entries)

pub record Replayed : Type 0 where
  pub reply : Derived
  pub lent : Lent

abbrev pub replayed : Derived → Lent → Replayed
replayed r x = record { reply = r; lent = x }

abbrev pub replayed_by : (number : ℕ) → Run → Session → Lent → Replayed
replayed_by number r s x = cond (eqb number 0) (replayed (Entries (length (ledger r))) (leaves r s x)) (replayed (NotDerived number) x)

-- a refused call changes nothing
unfoldable pub replay_call : Told → (rows : ℕ) → Columns → Lent → Replayed
replay_call t rows k x = replayed_by (replay_number t rows k x) (run_of t rows k x) (threaded t (opening x) (list_of rows k)).session x
