-- What holds of every ledger of a run.
--     ledger-few         there are at most as many entries as marks, so that columns of 512 have room for every session's ledger
--     torn-possibly      a torn record is possibly durable
--     unarmed-whole      with nothing armed no record is torn
--     unwritten          a record without a program or erase is not acknowledged; `lone-barrier`: nor is a barrier alone
-- Assumes nothing.
use mathlib.Core.Path.{◌≡◌, refl, ap, ◌∙◌}
use mathlib.Core.Bool.{Bool, true, false, ◌&&◌}
use mathlib.Core.List.{List, [], ◌∷◌, ◌++◌, map}
use Prim.Native.Nat.{ℕ, zero, suc, ◌≤◌, zero-le, suc-le-suc}
use native.Mathlib.Nat.{le_trans}
use native.Mathlib.Omega.{arith}
use lib.ListN.{length, take, length-map}
use Rattle.model.specs.Ledger.{Entry, is_acknowledged}
use Rattle.model.specs.declared.Durability.TheVariants.{PossiblyDurable}
use Rattle.session.specs.declared.Told.{Told}
use Rattle.std.specs.Prelude.{None as Nothing}
use Rattle.session.specs.declared.Counters.{Counters}
use Rattle.session.specs.Log.{Log, Marks}
use Rattle.session.specs.Armed.{Armed, armed_on, is_armed}
use Rattle.records.specs.Records.{any, Label, begin, end, RecordMark, Asked, Kept, next_place, record_at, records_to, judged, entry_by, ledger_by}
use Rattle.ledger.specs.Ledger.{Row, rows_from, rows_of, marks_from, marks_listed, outstanding, asked, ledger_of_run}

-- ---- how many

module _ {A : Type 0} where
  record-few : (ops : List A) (x : Label) (from to n : ℕ) (rest : List (Kept A)) → length rest ≤ n → length (record_at ops x from to ++ rest) ≤ suc n
  unfolding record_at
  record-few ops (begin id) from to n rest h = suc-le-suc h
  record-few ops end from to n rest h = omega arith

  records-few : (last : ℕ) (ops : List A) (ms : List RecordMark) → length (records_to last ops ms) ≤ length ms
  unfolding records_to
  records-few last ops [] = zero-le
  records-few last ops (m ∷ ms) =
      record-few ops m.label m.place (next_place last ms) (length ms) (records_to last ops ms) (records-few last ops ms)

  take-few : (n : ℕ) (l : List A) → length (take n l) ≤ n
  take-few zero l = zero-le
  take-few (suc n) [] = zero-le
  take-few (suc n) (x ∷ xs) = suc-le-suc (take-few n xs)

marks-few : (ms is ps : List ℕ) → length (marks_from ms is ps) ≤ length ms
unfolding marks_from
marks-few [] is ps = zero-le
marks-few (m ∷ ms) [] ps = zero-le
marks-few (m ∷ ms) (i ∷ is) [] = zero-le
marks-few (m ∷ ms) (i ∷ is) (p ∷ ps) = suc-le-suc (marks-few ms is ps)

pub ledger-few : (t : Told) (c : Counters) (media copy : List ℕ) (l : Log) (m : Marks) → length (ledger_of_run t c media copy l m) ≤ c.marks
unfolding ledger_of_run ledger_by marks_listed
ledger-few t c media copy l m =
    let rows = rows_of c l in
    let marks = marks_listed c m in
    let records = records_to (length rows) rows marks in
    rw (length-map records (entry_by (asked t c media copy)))
    (le_trans (records-few (length rows) rows marks)
    (le_trans (marks-few (take c.marks m.codes) (take c.marks m.ids) (take c.marks m.places)) (take-few c.marks m.codes)))

-- ---- torn

pub torn-possibly : (id : ℕ) (a b f : Bool) → (judged id a b f).mark ≡ true → (judged id a b f).state ≡ PossiblyDurable
unfolding judged
torn-possibly id false b f e = let z : false ≡ true = e in cc
torn-possibly id true true f e = refl
torn-possibly id true false true e = let z : false ≡ true = e in cc
torn-possibly id true false false e = let z : false ≡ true = e in cc

whole : (id : ℕ) (a f : Bool) → (judged id a false f).mark ≡ false
unfolding judged
whole id false f = refl
whole id true true = refl
whole id true false = refl

never : (o : Bool) (rs : List Row) → any (λ (r : Row). is_armed (armed_on Nothing r.index) && o) rs ≡ false
unfolding any
never o [] = refl
never o (r ∷ rs) = never o rs

module _ (t : Told) (c : Counters) (media copy : List ℕ) (e : t.armed ≡ Nothing) where
  entry_whole : (r : Kept Row) → (entry_by (asked t c media copy) r).mark ≡ false
  unfolding entry_by
  entry_whole r =
      let o = outstanding c media copy in
      let w : any (λ (x : Row). is_armed (armed_on t.armed x.index) && o) r.own ≡ false =
      ap (λ (a : Armed). any (λ (x : Row). is_armed (armed_on a x.index) && o) r.own) e ∙ never o r.own in
      rw w (whole r.id _ _)

  entries-whole : (rs : List (Kept Row)) → any (λ (x : Entry). x.mark) (map (entry_by (asked t c media copy)) rs) ≡ false
  unfolding any
  entries-whole [] = refl
  entries-whole (r ∷ rs) = rw (entry_whole r) (entries-whole rs)

  pub unarmed-whole : (l : Log) (m : Marks) → any (λ (x : Entry). x.mark) (ledger_of_run t c media copy l m) ≡ false
  unfolding ledger_of_run ledger_by
  unarmed-whole l m = entries-whole (records_to (length (rows_of c l)) (rows_of c l) (marks_listed c m))

-- ---- without a program or erase

not-acknowledged : (id : ℕ) (a b : Bool) → is_acknowledged (judged id a b false) ≡ false
unfolding judged
not-acknowledged id false b = refl
not-acknowledged id true true = refl
not-acknowledged id true false = refl

pub unwritten : {A : Type 0} (q : Asked A) (r : Kept A) → any q.writes r.own ≡ false → is_acknowledged (entry_by q r) ≡ false
unfolding entry_by
unwritten q r n = rw n (not-acknowledged r.id (any q.changed r.own) (any q.withheld r.own))

-- a barrier that answered 0, with a cell said to be changed, and a mark before it
pub lone-barrier : (t : Told) (c : Counters) (media copy : List ℕ) → t.armed ≡ Nothing
    → ledger_by (asked t c media copy) (rows_from 0 (2 ∷ []) (1 ∷ []) (1 ∷ [])) (marks_from (1 ∷ []) (7 ∷ []) (0 ∷ []))
    ≡ record { id = 7; state = PossiblyDurable; mark = false } ∷ []
unfolding rows_from marks_from ledger_by records_to record_at entry_by judged any
lone-barrier t c media copy e = rw e
