-- A record whose operations are rows of columns: where it starts and stops, what its own rows say, and its entry by the rule of
-- Records. Rows are counted as far as every column goes. Definitions only; assumes nothing.
use Rattle.std.specs.Prelude.{Bool, false, not, ◌&&◌, cond, List, [], ◌∷◌, ℕ, suc, ◌+◌, ◌-◌, Option, None, Some, min, length, take, drop, eqb, leb, ltb}
use Rattle.basics.specs.Tests.{flag}
use Rattle.model.specs.Ledger.{Entry, code_of}
use Rattle.inject.specs.declared.Injection.{Injection}
use Rattle.records.specs.declared.Facts.{Facts}
use Rattle.records.specs.declared.Codes.{Codes}
use Rattle.records.specs.Records.{any, judged}

-- ---- places

-- one past the last element that passes a test; 0 where none does
unfoldable pub last_place : {A : Type 0} → (A → Bool) → List A → ℕ
last_place test [] = 0
last_place test (x ∷ xs) = cond (any test (x ∷ xs)) (suc (last_place test xs)) 0

abbrev pub yes : Bool → Bool
yes b = b

abbrev pub is_one : ℕ → Bool
is_one code = eqb code 1

abbrev pub is_write : (kind : ℕ) → Bool
is_write kind = not (eqb kind 2)

-- whether each operation is a barrier that answered 0
unfoldable pub ordering : (kinds answered : List ℕ) → List Bool
ordering [] xs = []
ordering (k ∷ ks) [] = []
ordering (k ∷ ks) (x ∷ xs) = (eqb k 2 && eqb x 1) ∷ ordering ks xs

-- one past the last such barrier
abbrev pub last_barrier : (kinds answered : List ℕ) → ℕ
last_barrier ks xs = last_place yes (ordering ks xs)

-- ---- a record

-- of two numbers the higher
unfoldable pub higher : ℕ → ℕ → ℕ
higher a b = cond (ltb a b) b a

-- whether the operation that the injection is armed on is among those from start to stop
abbrev pub armed_in : Option Injection → (start stop : ℕ) → Bool
armed_in None start stop = false
armed_in (Some j) start stop = leb start j.op && ltb j.op stop

-- whether the last barrier that answered 0 stands behind a record's last program or erase: `written` is one past that one, counted from
-- the record's start, 0 where there is none, and `barrier` one past the barrier
abbrev pub followed_at : (start written barrier : ℕ) → Bool
followed_at start written barrier = ltb 0 written && ltb (start + written) barrier

-- a record with the operations from start to stop
unfoldable pub entry_in : Facts → (kinds changed : List ℕ) → (id start stop : ℕ) → Entry
entry_in f ks cs id start stop =
    judged id (any is_one (take (stop - start) (drop start cs))) (f.outstanding && armed_in f.armed start stop)
    (followed_at start (last_place is_write (take (stop - start) (drop start ks))) f.barrier)

-- a record whose mark stands at `from`, the next one at `to`, of n operations
abbrev pub entry_among : (n : ℕ) → Facts → (kinds changed : List ℕ) → (id from to : ℕ) → Entry
entry_among n f ks cs id from to = entry_in f ks cs id (min from n) (higher (min from n) (min to n))

abbrev pub entry_at : Facts → (kinds changed : List ℕ) → (id from to : ℕ) → Entry
entry_at f ks cs id from to = entry_among (min (length ks) (length cs)) f ks cs id from to

-- state and torn as the columns hold them
abbrev pub codes_of : Entry → Codes
codes_of e = record { state = code_of e.state; torn = flag e.mark }
