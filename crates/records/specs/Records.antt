-- Document 01, "session.rs (974)": records, and the state of each, over any list of operations. What a record's rule asks of an
-- operation is four tests, so that the same rule reads a session's log and the plain run. Definitions only; assumes nothing.
use Rattle.std.specs.Prelude.{Bool, true, false, ◌&&◌, ◌||◌, cond, List, [], ◌∷◌, ◌++◌, map, ℕ, ◌-◌, length, take, drop}
use Rattle.model.specs.Ledger.{Entry}
use Rattle.model.specs.declared.Durability.TheVariants.{Attempted, PossiblyDurable, Acknowledged}

-- some element passes a test
unfoldable pub any : {A : Type 0} → (A → Bool) → List A → Bool
any test [] = false
any test (x ∷ xs) = test x || any test xs

-- "Record marks hold an id or "end" and the operation count."
pub data Label : Type 0 where
  begin : ℕ → Label
  end : Label

pub record RecordMark : Type 0 where
  pub label : Label
  pub place : ℕ

-- what the rule asks of an operation: whether it is a program or an erase, whether it changed a cell, whether some of its bytes
-- are withheld, and whether it is a barrier that answered 0
pub record Asked (A : Type 0) : Type 0 where
  pub writes : A → Bool
  pub changed : A → Bool
  pub withheld : A → Bool
  pub orders : A → Bool

-- a record: its id, its operations, and those recorded behind them
pub record Kept (A : Type 0) : Type 0 where
  pub id : ℕ
  pub own : List A
  pub later : List A

-- ".. to the next, or to the last operation"
abbrev pub next_place : (last : ℕ) → List RecordMark → ℕ
next_place last [] = last
next_place last (m ∷ ms) = m.place

module _ {A : Type 0} where
  -- "A record runs from its mark to the next": a begin has a record, an end has none. "If the next mark stands earlier, the record is
  -- empty", and so it is where its mark stands past the operations.
  unfoldable pub record_at : (ops : List A) → Label → (from to : ℕ) → List (Kept A)
  record_at ops (begin id) from to = record { id = id; own = take (to - from) (drop from ops); later = drop (to - from) (drop from ops) } ∷ []
  record_at ops end from to = []

  unfoldable pub records_to : (last : ℕ) → (ops : List A) → List RecordMark → List (Kept A)
  records_to last ops [] = []
  records_to last ops (m ∷ ms) = record_at ops m.label m.place (next_place last ms) ++ records_to last ops ms

  -- the records of a run, in the order of their marks
  abbrev pub records_of : (ops : List A) → List RecordMark → List (Kept A)
  records_of ops ms = records_to (length ops) ops ms

  -- what stands behind the last element that passes a test; all of it where none does
  unfoldable pub behind : (A → Bool) → List A → List A
  behind test [] = []
  behind test (x ∷ xs) = cond (any test (x ∷ xs)) (behind test xs) (x ∷ xs)

-- "State: attempted if nothing in the record changed a cell; else possibly durable and torn if something is withheld; else
-- acknowledged if a barrier that answered 0 follows its last program or erase; else possibly durable."
unfoldable pub judged : (id : ℕ) → (changed withheld followed : Bool) → Entry
judged id false withheld followed = record { id = id; state = Attempted; mark = false }
judged id true true followed = record { id = id; state = PossiblyDurable; mark = true }
judged id true false true = record { id = id; state = Acknowledged; mark = false }
judged id true false false = record { id = id; state = PossiblyDurable; mark = false }

module _ {A : Type 0} where
  -- ".. a barrier that answered 0 follows its last program or erase": there is a program or erase, and such a barrier behind the last,
  -- in the record or after it
  abbrev pub followed : Asked A → Kept A → Bool
  followed q r = any q.writes r.own && any q.orders (behind q.writes r.own ++ r.later)

  unfoldable pub entry_by : Asked A → Kept A → Entry
  entry_by q r = judged r.id (any q.changed r.own) (any q.withheld r.own) (followed q r)

  -- the ledger: the records in order, each with its state and torn
  unfoldable pub ledger_by : Asked A → (ops : List A) → List RecordMark → List Entry
  ledger_by q ops ms = map (entry_by q) (records_of ops ms)
