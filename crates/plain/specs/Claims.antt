-- Document 01, "Demand 3": what is claimed of every list of calls, uncut or cut once by power loss or watchdog, at any index with any
-- progress. `Plain` has the plain run and `Ledger` its ledger; the theorems are in proofs/Theorems.antt. Definitions only; assumes nothing.
use Rattle.std.specs.Prelude.{◌↔◌, ◌≡◌, Bool, true, false, not, ◌||◌, cond, List, [], ◌∷◌, ◌++◌, map, ℕ, suc, ◌≤◌, ◌<◌, min, length, take, get_or, None as Nothing, Some as At}
use Rattle.storage.specs.declared.Geometry.{Geometry}
use Rattle.inject.specs.declared.Interruption.TheVariants.{Failure}
use Rattle.inject.specs.declared.Injection.{Injection}
use Rattle.model.specs.Ledger.{Entry, is_acknowledged, is_committed, is_torn, picked, committed}
use Rattle.id_columns.specs.Ids.{Distinct}
use Rattle.oracle.specs.Verdict.{Banks, Accepted, verdict}
use Rattle.oracle_legal.specs.Legal.{AbsentOrOne}
use Rattle.session.specs.declared.Told.{Told}
use Rattle.session.specs.Armed.{Armed, cut_by}
use Rattle.records.specs.Records.{RecordMark, Kept}
use Rattle.records.specs.Events.{records_in}
use Rattle.plain.specs.Plain.{Call, Op, Run, as_cut, plain}
use Rattle.plain.specs.Ledger.{records, ledger, begun, in_order}
use Rattle.plain.specs.Events.{events}

-- "at most one cut: power loss or watchdog"
abbrev pub CutOnce : Armed → Type 0
CutOnce Nothing = Unit {0}
CutOnce (At j) = j.interruption ≡ Failure → ⊥

-- ---- the law that 2 to 4 follow from

-- a mark at p stands at min p n
unfoldable pub capped_at : ℕ → RecordMark → RecordMark
capped_at n m = record { label = m.label; place = min m.place n }

-- `s` is `u` cut by j: the first operations, then the one at its index as cut, and nothing more; each mark at min p (index + 1)
pub record Truncated (g : Geometry) (j : Injection) (d : Op) (u s : Run) : Type 0 where
  pub ops-are : s.ops ≡ take j.op u.ops ++ (as_cut g j (get_or u.ops j.op d) ∷ [])
  pub marks-are : s.marks ≡ map (capped_at (suc j.op)) u.marks

-- ---- 2: "Only the last committed record can be torn."

-- a torn one has nothing behind it
abbrev pub TornLast : List Entry → Type 0
TornLast [] = Unit {0}
TornLast (e ∷ es) = (is_torn e ≡ true → es ≡ []) × TornLast es

abbrev pub OnlyTheLast : List Entry → Type 0
OnlyTheLast l = TornLast (picked is_committed l)

-- ---- 3: the accepted histories

-- some entry is acknowledged
unfoldable pub any_acknowledged : List Entry → Bool
any_acknowledged [] = false
any_acknowledged (e ∷ es) = is_acknowledged e || any_acknowledged es

-- the place of the last acknowledged entry of a list, from 1; 0 if there is none
unfoldable pub last_acknowledged : List Entry → ℕ
last_acknowledged [] = 0
last_acknowledged (e ∷ es) = cond (any_acknowledged (e ∷ es)) (suc (last_acknowledged es)) 0

-- how many of a list are not torn
abbrev pub untorn : List Entry → ℕ
untorn es = length (picked (λ (e : Entry). not (is_torn e)) es)

-- a history is "the first n committed ids for an n from the last acknowledged one's place to the number not torn"
pub record FirstOfCommitted (l : List Entry) (history : List ℕ) : Type 0 where
  pub n : ℕ
  pub least : last_acknowledged (picked is_committed l) ≤ n
  pub most : n ≤ untorn (picked is_committed l)
  pub first : history ≡ take n (committed l)

-- with nothing dispatched and the bank count absent or one, the verdict accepts exactly these; "and there is such an n"
pub record AcceptsExactly (l : List Entry) : Type 0 where
  pub exactly : (b : Banks) → AbsentOrOne b → (history : List ℕ) → (verdict l history [] b ≡ Accepted) ↔ FirstOfCommitted l history
  pub one-at-least : last_acknowledged (picked is_committed l) ≤ untorn (picked is_committed l)

-- ---- 4: later cuts keep

-- no record has a program or erase after a barrier of its own
abbrev pub AllInOrder : List (Kept Op) → Type 0
AllInOrder [] = Unit {0}
AllInOrder (r ∷ rs) = (in_order r.own ≡ true) × AllInOrder rs

-- record by record: the same id, and what is acknowledged in the first ledger is acknowledged in the second
abbrev pub Keeps : List Entry → List Entry → Type 0
Keeps [] [] = Unit {0}
Keeps [] (b ∷ ys) = ⊥
Keeps (a ∷ xs) [] = ⊥
Keeps (a ∷ xs) (b ∷ ys) = (a.id ≡ b.id) × (is_acknowledged a ≡ true → is_acknowledged b ≡ true) × Keeps xs ys

-- ---- the claims about the plain run, for every told, first media and list of calls

pub record Claims (t : Told) (media : List ℕ) (xs : List Call) : Type 0 where
  -- "A record holds the operations taken from a taken begin to the next taken mark or the list's end.": by the order of events
  pub records-are : records (plain t media xs) ≡ records_in (events t media xs)
  pub only-the-last : CutOnce t.armed → OnlyTheLast (ledger (plain t media xs))
  pub accepts-exactly : CutOnce t.armed → Distinct (begun (plain t media xs).marks) → AcceptsExactly (ledger (plain t media xs))
  pub later-cuts-keep : (j k : Injection) → CutOnce (At j) → CutOnce (At k) → j.op < k.op
      → AllInOrder (records (plain (cut_by t Nothing) media xs))
      → Keeps (ledger (plain (cut_by t (At j)) media xs)) (ledger (plain (cut_by t (At k)) media xs))
  pub uncut-keeps : (j : Injection) → CutOnce (At j) → AllInOrder (records (plain (cut_by t Nothing) media xs))
      → Keeps (ledger (plain (cut_by t (At j)) media xs)) (ledger (plain (cut_by t Nothing) media xs))
