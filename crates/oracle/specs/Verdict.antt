-- The verdict of document 01, "oracle.rs", over any list of entries, test by test in its order. Assumes nothing.
use Rattle.std.specs.Prelude.{Option, None, Some, None as Absent, Some as Count, Result, Ok, Err, cond, List, [], ◌∷◌, ◌++◌, map, ℕ, ◌+◌, eqb, leb}
use Rattle.model.specs.Ledger.{Entry, is_attempted, is_torn, ids, committed, acknowledged, lookup, passes}
use Rattle.model.specs.Columns.{ledger_of, refused}
use Rattle.id_columns.specs.Ids.{has}
use Rattle.oracle.specs.declared.Breach.{Breach}
use Rattle.oracle.specs.declared.Breach.TheVariants.{DuplicateRecordId, NotAPrefix, RecoveredWhatWasNeverAttempted, RecoveredATornRecord, LostAnAcknowledgedRecord, DispatchedWithoutADurableIntent, NoAuthoritativeBank, AmbiguousAuthority, Refused}

-- how many banks a reader would have booted from, if its caller has banks at all
abbrev pub Banks : Type 0
Banks = Option ℕ

-- "Verdict 0 accepts"; otherwise it is a breach
abbrev pub Verdict : Type 0
Verdict = Result (Unit {0}) Breach

abbrev pub Accepted : Verdict
Accepted = Ok tt

-- ---- document 01's number and values of each breach

abbrev pub number_of : Breach → ℕ
number_of (DuplicateRecordId id) = 31
number_of (NotAPrefix position expected found) = 32
number_of (RecoveredWhatWasNeverAttempted id) = 33
number_of (RecoveredATornRecord id) = 34
number_of (LostAnAcknowledgedRecord id) = 35
number_of (DispatchedWithoutADurableIntent id) = 36
number_of NoAuthoritativeBank = 37
number_of (AmbiguousAuthority count) = 38
number_of Refused = 12

-- a value that is none is an expected id that is missing
abbrev pub Value : Type 0
Value = Option ℕ

abbrev pub values_of : Breach → List Value
values_of (DuplicateRecordId id) = Some id ∷ []
values_of (NotAPrefix position expected found) = Some position ∷ expected ∷ Some found ∷ []
values_of (RecoveredWhatWasNeverAttempted id) = Some id ∷ []
values_of (RecoveredATornRecord id) = Some id ∷ []
values_of (LostAnAcknowledgedRecord id) = Some id ∷ []
values_of (DispatchedWithoutADurableIntent id) = Some id ∷ []
values_of NoAuthoritativeBank = []
values_of (AmbiguousAuthority count) = Some count ∷ []
values_of Refused = []

abbrev pub values_in : Verdict → List Value
values_in (Ok x) = []
values_in (Err breach) = values_of breach

-- ---- "otherwise, in order"

-- the first of several verdicts that does not accept
unfoldable pub first_breach : List Verdict → Verdict
first_breach [] = Accepted
first_breach (Ok x ∷ vs) = first_breach vs
first_breach (Err breach ∷ vs) = Err breach

-- "31, the first ledger id seen before": `seen` are the ids passed so far
unfoldable pub seen_before : (seen ids : List ℕ) → Verdict
seen_before seen [] = Accepted
seen_before seen (x ∷ xs) = cond (has seen x) (Err (DuplicateRecordId x)) (seen_before (seen ++ (x ∷ [])) xs)

-- ids by rising value
unfoldable pub insert : ℕ → List ℕ → List ℕ
insert x [] = x ∷ []
insert x (y ∷ ys) = cond (leb x y) (x ∷ y ∷ ys) (y ∷ insert x ys)

unfoldable pub rising : List ℕ → List ℕ
rising [] = []
rising (x ∷ xs) = insert x (rising xs)

-- "33 if attempted, else 34 if torn"
unfoldable pub fault_of : List Entry → ℕ → Verdict
fault_of l x =
    cond (passes is_attempted (lookup x l)) (Err (RecoveredWhatWasNeverAttempted x))
    (cond (passes is_torn (lookup x l)) (Err (RecoveredATornRecord x))
    Accepted)

-- "over recovered ids by rising value"
unfoldable pub first_fault : List Entry → (history : List ℕ) → Verdict
first_fault l h = first_breach (map (fault_of l) (rising h))

-- "32, at the first history position whose committed id differs or is missing, with position, expected and found"
unfoldable pub differs : (position : ℕ) → (committed history : List ℕ) → Verdict
differs p cs [] = Accepted
differs p [] (h ∷ hs) = Err (NotAPrefix p None h)
differs p (c ∷ cs) (h ∷ hs) = cond (eqb c h) (differs (p + 1) cs hs) (Err (NotAPrefix p (Some c) h))

-- "the first .. id not recovered"
unfoldable pub unrecovered : (ℕ → Breach) → (history : List ℕ) → ℕ → Verdict
unrecovered breach h x = cond (has h x) Accepted (Err (breach x))

unfoldable pub first_lost : (ℕ → Breach) → (history wanted : List ℕ) → Verdict
first_lost breach h wanted = first_breach (map (unrecovered breach h) wanted)

-- "37 for bank count 0; 38 with the count for 2 or more"
abbrev pub banks_breach : Banks → Verdict
banks_breach Absent = Accepted
banks_breach (Count n) = cond (eqb n 0) (Err NoAuthoritativeBank) (cond (eqb n 1) Accepted (Err (AmbiguousAuthority n)))

unfoldable pub verdict : List Entry → (history dispatched : List ℕ) → Banks → Verdict
verdict l h d b =
    first_breach
    (seen_before [] (ids l)
    ∷ first_fault l h
    ∷ differs 0 (committed l) h
    ∷ first_lost LostAnAcknowledgedRecord h (acknowledged l)
    ∷ first_lost DispatchedWithoutADurableIntent h d
    ∷ banks_breach b
    ∷ [])

-- the verdict on three columns: 12 where they hold no ledger
unfoldable pub verified : (ids states torn history dispatched : List ℕ) → Banks → Verdict
verified is ss ts h d b = cond (eqb (refused is ss ts) 0) (verdict (ledger_of is ss ts) h d b) (Err Refused)
