-- How the points are found: a group's points from four numbers, a search that goes on from part to part. Definitions only;
-- assumes nothing.
use Rattle.std.specs.Prelude.{Ok as At, Err as Past}
use Rattle.std.specs.Prelude.{◌≡◌, Result, List, [], ◌∷◌, ◌++◌, map, ℕ, zero, suc, ◌*◌, ◌≤◌, length, get_or, replicate}
use Rattle.storage.specs.declared.Geometry.{Geometry}
use Rattle.inject.specs.declared.Op.{Op}
use Rattle.inject.specs.declared.Op.TheVariants.{Program, Erase, Barrier}
use Rattle.inject.specs.declared.Progress.{Progress}
use Rattle.inject.specs.declared.Progress.TheVariants.{None, Bytes, Whole}
use Rattle.inject.specs.declared.Interruption.{Interruption}
use Rattle.inject.specs.declared.Interruption.TheVariants.{Watchdog}
use Rattle.inject.specs.declared.Injection.{Injection}
use Rattle.inject.specs.declared.group.Group.{Group}
use Rattle.inject.specs.Ops.{op_of}
use Rattle.inject.specs.Points.{progresses, point}
use Rattle.inject.specs.Answers.{most}

-- ---- a list of three columns of one length

pub record Sound (g : Geometry) (kinds offsets lens : List ℕ) : Type 0 where
  pub offsets-equal : length kinds ≡ length offsets
  pub lens-equal : length kinds ≡ length lens
  pub few : length kinds ≤ most

-- ---- one operation's points

-- the operation in row i
abbrev pub op_at : (kinds offsets lens : List ℕ) → ℕ → Op
op_at kinds offsets lens i = op_of (get_or kinds i 0) (get_or offsets i 0) (get_or lens i 0)

-- the unit whose inner multiples a tear stops at, and a reset; a barrier's is never used, as it spans no byte
abbrev pub tear_unit : Geometry → Op → ℕ
tear_unit g (Program offset len) = 1
tear_unit g (Erase offset len) = g.erase_size
tear_unit g Barrier = 1

abbrev pub reset_unit : Geometry → Op → ℕ
reset_unit g (Program offset len) = g.program_size
reset_unit g (Erase offset len) = g.erase_size
reset_unit g Barrier = 1

-- the first k multiples of a unit
unfoldable pub steps : (unit k : ℕ) → List ℕ
steps unit zero = []
steps unit (suc k) = steps unit k ++ (suc k * unit ∷ [])

-- the points that a group's numbers stand for
unfoldable pub grouped : Group → List Progress
grouped r = replicate r.nones None ++ (map Bytes (steps r.unit r.inner) ++ replicate r.wholes Whole)

-- it is an operation's
pub record GroupOf (g : Geometry) (w : Interruption) (o : Op) (r : Group) : Type 0 where
  pub points : grouped r ≡ progresses g w o

-- ---- the point that only an empty list has, by the number of operations

abbrev pub lone_point : Injection
lone_point = point 0 Watchdog None

abbrev pub lone_for : (operations : ℕ) → List Injection
lone_for zero = lone_point ∷ []
lone_for (suc n) = []

-- ---- a search

-- a part of a list searched for a place: the point there, or how far past the part the place lies
abbrev pub Sought : Type 0
Sought = Result Injection ℕ

unfoldable pub sought : List Injection → ℕ → Sought
sought [] n = Past n
sought (x ∷ xs) zero = At x
sought (x ∷ xs) (suc n) = sought xs n

-- what was found stays found; else the search goes on in what follows
abbrev pub onward : Sought → List Injection → Sought
onward (At x) xs = At x
onward (Past n) xs = sought xs n
