-- The layer `inject` with its answers as numbers. Definitions only; assumes nothing.
use Rattle.std.specs.Prelude.{cond, List, ℕ, eqb, length, get_or, set}
use Rattle.storage.specs.declared.Geometry.{Geometry}
use Rattle.inject.specs.declared.Injection.{Injection}
use Rattle.inject.specs.Points.{opening}
use Rattle.inject.specs.Answers.{points_of, count_test, place_test, progress_code, count_code, interruption_code}
use Rattle.inject_columns.specs.Answers.{write_test, PointColumns, written}

-- a list that is not refused has the number of its crash points put over what stood there
abbrev pub count_over : Geometry → (kinds offsets lens : List ℕ) → (old : ℕ) → ℕ
count_over g kinds offsets lens old =
    cond (eqb (count_test g kinds offsets lens) 0) (length (points_of g kinds offsets lens)) old

-- a point in the first four places: the operation's index, the kind of progress, the byte count, the interruption
unfoldable pub point_in : Injection → List ℕ → List ℕ
point_in p cells =
    set (set (set (set cells 0 p.op) 1 (progress_code p.progress)) 2 (count_code p.progress)) 3 (interruption_code p.interruption)

-- a place that is not refused has its point put there
abbrev pub point_over : Geometry → (kinds offsets lens : List ℕ) → (place : ℕ) → (cells : List ℕ) → List ℕ
point_over g kinds offsets lens place cells =
    cond (eqb (place_test g kinds offsets lens place) 0) (point_in (get_or (points_of g kinds offsets lens) place opening) cells) cells

-- columns that are not refused begin with the points, one to a row
abbrev pub columns_over : Geometry → (kinds offsets lens : List ℕ) → PointColumns → PointColumns
columns_over g kinds offsets lens columns =
    cond (eqb (write_test g kinds offsets lens columns) 0) (written (points_of g kinds offsets lens) columns) columns

-- and the number of the rows is put over what stood there
abbrev pub rows_over : Geometry → (kinds offsets lens : List ℕ) → PointColumns → (old : ℕ) → ℕ
rows_over g kinds offsets lens columns old =
    cond (eqb (write_test g kinds offsets lens columns) 0) (length (points_of g kinds offsets lens)) old
