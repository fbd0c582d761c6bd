-- Document 01, "session.rs (974)": the ledger of a session, from what the start was told, the counters and all that was lent.
-- Definitions only; assumes nothing.
use Rattle.std.specs.Prelude.{Bool, not, ◌&&◌, ◌||◌, cond, List, [], ◌∷◌, ◌++◌, map, ℕ, suc, length, take, drop, eqb, leb, ltb, Result}
use Rattle.std.specs.Prelude.{Ok as Entries, Err as NotDerived}
use Rattle.basics.specs.Tests.{flag, unless, refuse_if, first_of}
use Rattle.basics.specs.Parts.{part}
use Rattle.device.specs.Media.{any_pair, unequal}
use Rattle.model.specs.Ledger.{Entry, code_of}
use Rattle.model.specs.Columns.{all_up_to}
use Rattle.model.specs.declared.LedgerMut.{LedgerMut}
use Rattle.session.specs.declared.Told.{Told}
use Rattle.session.specs.declared.Counters.{Counters}
use Rattle.session.specs.Log.{Log, Marks}
use Rattle.session.specs.Tests.{size_test, log_uneven_of, log_short, marks_uneven_of, marks_short}
use Rattle.session.specs.Armed.{armed_on, is_armed}
use Rattle.records.specs.Records.{Label, begin, end, RecordMark, Asked, ledger_by}

-- ---- what the columns hold

-- an operation as the log has it: its index, kind (0 a program, 1 an erase, 2 a barrier), and whether a cell changed and it answered 0
pub record Row : Type 0 where
  pub index : ℕ
  pub kind : ℕ
  pub change : ℕ
  pub answer : ℕ

unfoldable pub rows_from : (index : ℕ) → (kinds changed answered : List ℕ) → List Row
rows_from i [] cs xs = []
rows_from i (k ∷ ks) [] xs = []
rows_from i (k ∷ ks) (c ∷ cs) [] = []
rows_from i (k ∷ ks) (c ∷ cs) (a ∷ xs) = record { index = i; kind = k; change = c; answer = a } ∷ rows_from (suc i) ks cs xs

-- the operations counted
unfoldable pub rows_of : Counters → Log → List Row
rows_of c l = rows_from 0 (take c.operations l.kinds) (take c.operations l.changed) (take c.operations l.answered)

abbrev pub label_of : (code id : ℕ) → Label
label_of code id = cond (eqb code 1) (begin id) end

unfoldable pub marks_from : (codes ids places : List ℕ) → List RecordMark
marks_from [] is ps = []
marks_from (c ∷ cs) [] ps = []
marks_from (c ∷ cs) (i ∷ is) [] = []
marks_from (c ∷ cs) (i ∷ is) (p ∷ ps) = record { label = label_of c i; place = p } ∷ marks_from cs is ps

-- the marks counted
unfoldable pub marks_listed : Counters → Marks → List RecordMark
marks_listed c m = marks_from (take c.marks m.codes) (take c.marks m.ids) (take c.marks m.places)

-- ---- what the record's rule asks of an operation

-- "Bytes that did not land are withheld if, at the end of the run, the media differ there from what the write would have left; an erase,
-- if its unlanded part is not all 0xFF": the copy holds what the write would have left, 0xFF for an erase
unfoldable pub outstanding : Counters → (media copy : List ℕ) → Bool
outstanding c media copy = any_pair unequal (part media c.place c.withheld) (part copy c.place c.withheld)

-- one injection, so one operation can have bytes withheld: the one that it is armed on
abbrev pub asked : Told → Counters → (media copy : List ℕ) → Asked Row
asked t c media copy = record {
  writes = λ (r : Row). not (eqb r.kind 2);
  changed = λ (r : Row). eqb r.change 1;
  withheld = λ (r : Row). is_armed (armed_on t.armed r.index) && outstanding c media copy;
  orders = λ (r : Row). eqb r.kind 2 && eqb r.answer 1;
}

-- the ledger of a session
unfoldable pub ledger_of_run : Told → Counters → (media copy : List ℕ) → Log → Marks → List Entry
ledger_of_run t c media copy l m = ledger_by (asked t c media copy) (rows_of c l) (marks_listed c m)

-- ---- the tests, lowest number first: 7, 12, 13

-- "columns of one list unequal (ledger ..)"
abbrev pub entries_uneven : (ids states torn : ℕ) → Bool
entries_uneven i s t = not (eqb s i) || not (eqb t i)

-- "an operation or mark code without a meaning", among those counted; the two answers of yes or no are such codes too
unfoldable pub codes_known : Counters → Log → Marks → Bool
codes_known c l m =
    all_up_to 2 (take c.operations l.kinds) && all_up_to 1 (take c.operations l.changed)
    && all_up_to 1 (take c.operations l.answered) && all_up_to 1 (take c.marks m.codes)

-- "a session's shorter than its limits (1,024 operations, 512 marks)", or than its counts
unfoldable pub counts_short : Counters → (kinds codes : ℕ) → Bool
counts_short c kinds codes = log_short kinds || marks_short codes || ltb kinds c.operations || ltb codes c.marks

unfoldable pub ledger_number : Told → Counters → (media copy : List ℕ) → Log → Marks → (ids states torn : ℕ) → ℕ
ledger_number t c media copy l m ids states torn =
    first_of
    (size_test t.geometry (length media) (length copy)
    ∷ refuse_if (log_uneven_of l || marks_uneven_of m || entries_uneven ids states torn) 12
    ∷ unless (codes_known c l m) 12
    ∷ refuse_if (counts_short c (length l.kinds) (length m.codes)) 13
    ∷ unless (leb (length (ledger_of_run t c media copy l m)) ids) 13
    ∷ [])

-- ---- what `ledger` leaves

-- the three columns of a ledger
pub record Entered : Type 0 where
  pub ids : List ℕ
  pub states : List ℕ
  pub torn : List ℕ

abbrev pub entered_of : (ids states torn : List ℕ) → Entered
entered_of i s t = record { ids = i; states = s; torn = t }

-- what the lent columns hold
abbrev pub entered_in : LedgerMut → Entered
entered_in e = entered_of e.ids.now e.states.now e.torn.now

abbrev pub entries_uneven_in : Entered → Bool
entries_uneven_in e = entries_uneven (length e.ids) (length e.states) (length e.torn)

-- the columns with a ledger at their beginning; the rest is left alone
abbrev pub entered : List Entry → Entered → Entered
entered l e =
    entered_of (map (λ (x : Entry). x.id) l ++ drop (length l) e.ids) (map (λ (x : Entry). code_of x.state) l ++ drop (length l) e.states)
    (map (λ (x : Entry). flag x.mark) l ++ drop (length l) e.torn)

-- how many entries the ledger has, or document 01's number that refuses
abbrev pub Derived : Type 0
Derived = Result ℕ ℕ

-- the reply and the columns
pub record Ledgered : Type 0 where
  pub reply : Derived
  pub columns : Entered

abbrev pub ledgered : Derived → Entered → Ledgered
ledgered r e = record { reply = r; columns = e }

abbrev pub ledgered_by : (number : ℕ) → List Entry → Entered → Ledgered
ledgered_by number l e = cond (eqb number 0) (ledgered (Entries (length l)) (entered l e)) (ledgered (NotDerived number) e)

-- a refused call changes nothing
unfoldable pub ledger_call : Told → Counters → (media copy : List ℕ) → Log → Marks → Entered → Ledgered
ledger_call t c media copy l m e =
    ledgered_by (ledger_number t c media copy l m (length e.ids) (length e.states) (length e.torn)) (ledger_of_run t c media copy l m) e
