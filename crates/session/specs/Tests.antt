-- Document 01, "Numbers from the input" and "Numbers from the state": the tests of a session's calls. Each gives a number, 0 for none.
-- Definitions only; assumes nothing.
use Rattle.std.specs.Prelude.{Bool, not, ◌||◌, [], ◌∷◌, ℕ, ◌+◌, length, eqb, leb, ltb}
use Rattle.basics.specs.Tests.{unless, refuse_if, first_of}
use Rattle.refusals.specs.Tests.{columns_test}
use Rattle.storage.specs.declared.Geometry.{Geometry}
use Rattle.storage.specs.Geometry.{geometry_test}
use Rattle.session.specs.Log.{Log, Marks}

-- "7: media or withheld copy not of capacity length", over their lengths
unfoldable pub size_test : Geometry → (media copy : ℕ) → ℕ
size_test g media copy = refuse_if (not (eqb media g.capacity) || not (eqb copy g.capacity)) 7

-- "columns of one list unequal", over their lengths
abbrev pub log_uneven : (kinds offsets lens digests changed answered : ℕ) → Bool
log_uneven k o l d c a = not (eqb o k) || not (eqb l k) || not (eqb d k) || not (eqb c k) || not (eqb a k)

abbrev pub marks_uneven : (codes ids places : ℕ) → Bool
marks_uneven c i p = not (eqb i c) || not (eqb p c)

-- "13: .. a session's shorter than its limits (1,024 operations, 512 marks)"
abbrev pub log_short : (kinds : ℕ) → Bool
log_short k = ltb k 1024

abbrev pub marks_short : (codes : ℕ) → Bool
marks_short c = ltb c 512

abbrev pub log_uneven_of : Log → Bool
log_uneven_of l =
    log_uneven (length l.kinds) (length l.offsets) (length l.lens) (length l.digests) (length l.changed)
    (length l.answered)

abbrev pub marks_uneven_of : Marks → Bool
marks_uneven_of m = marks_uneven (length m.codes) (length m.ids) (length m.places)

-- the log's columns, over their lengths: 12, then 13
unfoldable pub log_length_test : (kinds offsets lens digests changed answered : ℕ) → ℕ
log_length_test k o l d c a = columns_test (log_uneven k o l d c a) (log_short k)

abbrev pub log_test : Log → ℕ
log_test l =
    log_length_test (length l.kinds) (length l.offsets) (length l.lens) (length l.digests) (length l.changed)
    (length l.answered)

-- the marks' columns, over their lengths: 12, then 13
unfoldable pub marks_length_test : (codes ids places : ℕ) → ℕ
marks_length_test c i p = columns_test (marks_uneven c i p) (marks_short c)

abbrev pub marks_test : Marks → ℕ
marks_test m = marks_length_test (length m.codes) (length m.ids) (length m.places)

-- a start, over lengths and whether columns of one list are unequal: "the lowest number comes first", 1 to 3, 7, 12, 13
unfoldable pub start_number : Geometry → (media copy : ℕ) (uneven : Bool) (kinds codes : ℕ) → ℕ
start_number g media copy uneven kinds codes =
    first_of
    (geometry_test g
    ∷ size_test g media copy
    ∷ refuse_if uneven 12
    ∷ refuse_if (log_short kinds || marks_short codes) 13
    ∷ [])

-- the same over all that it is lent
abbrev pub start_test : Geometry → (media copy : ℕ) → Log → Marks → ℕ
start_test g media copy l m = start_number g media copy (log_uneven_of l || marks_uneven_of m) (length l.kinds) (length m.codes)

-- "27: 1,024 operations already recorded."
unfoldable pub operation_test : (operations : ℕ) → ℕ
operation_test operations = unless (ltb operations 1024) 27

-- "28: 512 marks already, or 511 before a range, which needs two.": `more` marks are wanted
unfoldable pub mark_test : (marks more : ℕ) → ℕ
mark_test marks more = unless (leb (marks + more) 512) 28

-- so many more marks, over the lengths lent: 12, 13, then 28
unfoldable pub marks_number : (marks more codes ids places : ℕ) → ℕ
marks_number marks more codes ids places = first_of (marks_length_test codes ids places ∷ mark_test marks more ∷ [])
