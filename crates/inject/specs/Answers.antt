-- What the public functions answer: their refusals in document 01's order, the count and the point at a place; and a point's
-- codes. Definitions only; assumes nothing.
use Rattle.std.specs.Prelude.{Bool, true, Result, List, [], ◌∷◌, ℕ, length, get_or, eqb, leb, ltb}
use Rattle.basics.specs.Tests.{unless, first_of}
use Rattle.basics.specs.Replies.{answered}
use Rattle.storage.specs.declared.Geometry.{Geometry}
use Rattle.storage.specs.Geometry.{geometry_test}
use Rattle.inject.specs.declared.Progress.{Progress}
use Rattle.inject.specs.declared.Progress.TheVariants.{None, Bytes, Whole}
use Rattle.inject.specs.declared.Interruption.{Interruption}
use Rattle.inject.specs.declared.Interruption.TheVariants.{PowerLoss, Watchdog, Failure}
use Rattle.inject.specs.declared.Injection.{Injection}
use Rattle.inject.specs.Ops.{ops_of, known}
use Rattle.inject.specs.Points.{opening, injections_of}

-- ---- the numbers, in order

-- "for a list of up to 1,024 operations .. a longer list is refused with 27"
abbrev pub most : ℕ
most = 1024

-- "a list of operations is tested for 12, then 27, then 11 and 13"; a geometry's 1 to 3 are lower and come first.
-- `equal` tells whether the lent columns of points, where there are any, are of one length.
unfoldable pub list_test : Geometry → (kinds offsets lens : List ℕ) → (equal : Bool) → ℕ
list_test g kinds offsets lens equal =
    first_of
    (geometry_test g
    ∷ unless (eqb (length kinds) (length offsets)) 12
    ∷ unless (eqb (length kinds) (length lens)) 12
    ∷ unless equal 12
    ∷ unless (known kinds) 12
    ∷ unless (leb (length kinds) most) 27
    ∷ [])

-- the crash points of the columns' operations
abbrev pub points_of : Geometry → (kinds offsets lens : List ℕ) → List Injection
points_of g kinds offsets lens = injections_of g (ops_of kinds offsets lens)

abbrev pub count_test : Geometry → (kinds offsets lens : List ℕ) → ℕ
count_test g kinds offsets lens = list_test g kinds offsets lens true

-- "11: crash-point place not below the count"
abbrev pub place_test : Geometry → (kinds offsets lens : List ℕ) → (place : ℕ) → ℕ
place_test g kinds offsets lens place =
    first_of (list_test g kinds offsets lens true ∷ unless (ltb place (length (points_of g kinds offsets lens))) 11 ∷ [])

-- ---- how many

-- how many crash points there are, or the number that refuses: beside lent columns of points, and alone
abbrev pub counted_beside : Geometry → (kinds offsets lens : List ℕ) → (equal : Bool) → Result ℕ ℕ
counted_beside g kinds offsets lens equal = answered (list_test g kinds offsets lens equal) (length (points_of g kinds offsets lens))

abbrev pub counted : Geometry → (kinds offsets lens : List ℕ) → Result ℕ ℕ
counted g kinds offsets lens = answered (count_test g kinds offsets lens) (length (points_of g kinds offsets lens))

-- ---- "A point can be had by place, from 0"

-- the list's element at the place, or the number that refuses
abbrev pub found : Geometry → (kinds offsets lens : List ℕ) → (place : ℕ) → Result Injection ℕ
found g kinds offsets lens place =
    answered (place_test g kinds offsets lens place) (get_or (points_of g kinds offsets lens) place opening)

-- ---- a point as a row of columns

-- the codes: 0 none, 1 a byte count, 2 whole
abbrev pub progress_code : Progress → ℕ
progress_code None = 0
progress_code (Bytes count) = 1
progress_code Whole = 2

-- the byte count, 0 where there is none
abbrev pub count_code : Progress → ℕ
count_code None = 0
count_code (Bytes count) = count
count_code Whole = 0

-- 0 power loss, 1 watchdog, 2 failure
abbrev pub interruption_code : Interruption → ℕ
interruption_code PowerLoss = 0
interruption_code Watchdog = 1
interruption_code Failure = 2
