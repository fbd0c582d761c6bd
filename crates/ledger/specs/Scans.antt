-- What the private functions of `src/` answer. No public contract cites these. Assumes nothing.
use Rattle.std.specs.Prelude.{Bool, ◌||◌, cond, List, [], ◌∷◌, ℕ, ◌+◌, length, set, eqb, leb, count_by}
use Rattle.basics.specs.Tests.{flag, unless, refuse_if, first_of}
use Rattle.model.specs.Ledger.{Entry, code_of}
use Rattle.session.specs.declared.Told.{Told}
use Rattle.session.specs.declared.Counters.{Counters}
use Rattle.session.specs.Log.{Log, Marks}
use Rattle.session.specs.Tests.{size_test, log_uneven_of, marks_uneven_of}
use Rattle.records.specs.declared.Facts.{Facts}
use Rattle.records.specs.Columns.{entry_at}
use Rattle.ledger.specs.Ledger.{codes_known, counts_short, Entered, entered_of, Ledgered, ledgered_by}

-- ---- the tests

-- all but that of the room for the ledger; `uneven` says whether its own columns are unequal
unfoldable pub lent_number : Told → Counters → (media copy : ℕ) → Log → Marks → (uneven : Bool) → ℕ
lent_number t c media copy l m uneven =
    first_of
    (size_test t.geometry media copy
    ∷ refuse_if (log_uneven_of l || marks_uneven_of m || uneven) 12
    ∷ unless (codes_known c l m) 12
    ∷ refuse_if (counts_short c (length l.kinds) (length m.codes)) 13
    ∷ [])

-- how many marks are begins
abbrev pub begins : (codes : List ℕ) → ℕ
begins ms = count_by (λ (m : ℕ). eqb m 1) ms

-- ---- the marks, one after the other

-- where the next mark stands
abbrev pub next_of : (last : ℕ) → (places : List ℕ) → ℕ
next_of last [] = last
next_of last (p ∷ ps) = p

-- the columns, with so many entries at their beginning
pub record Filled : Type 0 where
  pub count : ℕ
  pub columns : Entered

abbrev pub filled : (count : ℕ) → Entered → Filled
filled n e = record { count = n; columns = e }

-- one entry more
abbrev pub enter : Entry → Filled → Filled
enter x f =
    filled (f.count + 1)
    (entered_of (set f.columns.ids f.count x.id) (set f.columns.states f.count (code_of x.state))
    (set f.columns.torn f.count (flag x.mark)))

-- a mark: a begin has an entry, an end has none
abbrev pub entering : Facts → (kinds changed : List ℕ) → (code id from to : ℕ) → Filled → Filled
entering f ks cs code id from to x = cond (eqb code 1) (enter (entry_at f ks cs id from to) x) x

unfoldable pub fill_from : Facts → (kinds changed codes ids places : List ℕ) → Filled → Filled
fill_from f ks cs [] is ps x = x
fill_from f ks cs (m ∷ ms) [] ps x = x
fill_from f ks cs (m ∷ ms) (i ∷ is) [] x = x
fill_from f ks cs (m ∷ ms) (i ∷ is) (p ∷ ps) x = fill_from f ks cs ms is ps (entering f ks cs m i p (next_of (length ks) ps) x)

-- the entries of the marks, in order
unfoldable pub entries_from : Facts → (kinds changed codes ids places : List ℕ) → List Entry
entries_from f ks cs [] is ps = []
entries_from f ks cs (m ∷ ms) [] ps = []
entries_from f ks cs (m ∷ ms) (i ∷ is) [] = []
entries_from f ks cs (m ∷ ms) (i ∷ is) (p ∷ ps) =
    cond (eqb m 1) (entry_at f ks cs i p (next_of (length ks) ps) ∷ entries_from f ks cs ms is ps) (entries_from f ks cs ms is ps)

-- what they leave in the columns; 13 where those are too short
unfoldable pub derived_by : Facts → (kinds changed codes marks places : List ℕ) → Entered → Ledgered
derived_by f ks cs ms is ps e =
    ledgered_by (unless (leb (length (entries_from f ks cs ms is ps)) (length e.ids)) 13) (entries_from f ks cs ms is ps) e
