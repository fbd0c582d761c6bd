-- What `injections` answers: its refusals in document 01's order, and the lent columns at exit. Definitions only; assumes nothing.
use Rattle.std.specs.Prelude.{◌≡◌, Bool, ◌&&◌, cond, Result, Ok, Err, List, [], ◌∷◌, ◌++◌, map, ℕ, length, drop, eqb, leb}
use Rattle.basics.specs.Tests.{unless, first_of}
use Rattle.storage.specs.declared.Geometry.{Geometry}
use Rattle.inject.specs.declared.Injection.{Injection}
use Rattle.inject.specs.Answers.{list_test, points_of, progress_code, count_code, interruption_code}
use Rattle.inject_columns.specs.declared.PointsMut.{PointsMut}

-- ---- "or all written to lent columns"

-- four columns, a row for each point
pub record PointColumns : Type 0 where
  pub ops : List ℕ
  pub progresses : List ℕ
  pub counts : List ℕ
  pub interruptions : List ℕ

abbrev pub columns_of : (ops progresses counts interruptions : List ℕ) → PointColumns
columns_of ops progresses counts interruptions =
    record { ops = ops; progresses = progresses; counts = counts; interruptions = interruptions }

-- what the lent columns hold
abbrev pub points_in : PointsMut → PointColumns
points_in points = columns_of points.ops.now points.progresses.now points.counts.now points.interruptions.now

-- they are the same columns
pub record SamePoints (a b : PointsMut) : Type 0 where
  pub ops : b.ops.ghost_name ≡ a.ops.ghost_name
  pub progresses : b.progresses.ghost_name ≡ a.progresses.ghost_name
  pub counts : b.counts.ghost_name ≡ a.counts.ghost_name
  pub interruptions : b.interruptions.ghost_name ≡ a.interruptions.ghost_name

-- a column that begins with what is written, its cells past that as they were
abbrev pub begun : List ℕ → List ℕ → List ℕ
begun new column = new ++ drop (length new) column

-- the columns begin with the points, one to a row
abbrev pub written : List Injection → PointColumns → PointColumns
written ps columns =
    columns_of
    (begun (map (λ p. p.op) ps) columns.ops)
    (begun (map (λ p. progress_code p.progress) ps) columns.progresses)
    (begun (map (λ p. count_code p.progress) ps) columns.counts)
    (begun (map (λ p. interruption_code p.interruption) ps) columns.interruptions)

-- the columns are of one length
abbrev pub equal_columns : PointColumns → Bool
equal_columns columns =
    eqb (length columns.ops) (length columns.progresses)
    && eqb (length columns.ops) (length columns.counts)
    && eqb (length columns.ops) (length columns.interruptions)

-- "13: lent columns shorter than the result"
abbrev pub write_test : Geometry → (kinds offsets lens : List ℕ) → PointColumns → ℕ
write_test g kinds offsets lens columns =
    first_of
    (list_test g kinds offsets lens (equal_columns columns)
    ∷ unless (leb (length (points_of g kinds offsets lens)) (length columns.ops)) 13
    ∷ [])

-- what a call of `injections` leaves: its answer, and the columns
pub record Listing : Type 0 where
  pub reply : Result ℕ ℕ
  pub columns : PointColumns

abbrev pub listing : Result ℕ ℕ → PointColumns → Listing
listing reply columns = record { reply = reply; columns = columns }

abbrev pub listed_by : (number : ℕ) → List Injection → PointColumns → Listing
listed_by number ps columns = cond (eqb number 0) (listing (Ok (length ps)) (written ps columns)) (listing (Err number) columns)

-- all points, and how many; or the number that refuses, with the columns as they were
abbrev pub listed : Geometry → (kinds offsets lens : List ℕ) → PointColumns → Listing
listed g kinds offsets lens columns =
    listed_by (write_test g kinds offsets lens columns) (points_of g kinds offsets lens) columns
