-- Document 01, "inject.rs (373)": the crash points of a list of operations, in its words and order. Its "Op", "Progress",
-- "Interruption" and "Injection" are the crate's own types. Definitions only; assumes nothing.
use Rattle.std.specs.Prelude.{cond, List, [], ◌∷◌, ◌++◌, map, ℕ, zero, suc, ◌%◌, eqb}
use Rattle.storage.specs.declared.Geometry.{Geometry}
use Rattle.inject.specs.declared.Op.{Op}
use Rattle.inject.specs.declared.Op.TheVariants.{Program, Erase, Barrier}
use Rattle.inject.specs.declared.Progress.{Progress}
use Rattle.inject.specs.declared.Progress.TheVariants.{None, Bytes, Whole}
use Rattle.inject.specs.declared.Interruption.{Interruption}
use Rattle.inject.specs.declared.Interruption.TheVariants.{PowerLoss, Watchdog, Failure}
use Rattle.inject.specs.declared.Injection.{Injection}

-- ---- within an operation

-- the multiples of a unit from 1 to n, ascending
unfoldable pub multiples : (unit n : ℕ) → List ℕ
multiples unit zero = []
multiples unit (suc n) = multiples unit n ++ cond (eqb (suc n % unit) 0) (suc n ∷ []) []

-- "inner": the multiples of a unit above 0 and below the length
unfoldable pub inner : (unit len : ℕ) → List ℕ
inner unit zero = []
inner unit (suc n) = multiples unit n

-- "Power loss and failure: byte points 1 to length − 1 in a program, inner block ends in an erase."
-- (1 to length − 1 are the inner multiples of 1.) "A barrier has no byte point"
abbrev pub tear_points : Geometry → Op → List ℕ
tear_points g (Program offset len) = inner 1 len
tear_points g (Erase offset len) = inner g.erase_size len
tear_points g Barrier = []

-- "Watchdog: inner multiples of the program or erase unit."
abbrev pub reset_points : Geometry → Op → List ℕ
reset_points g (Program offset len) = inner g.program_size len
reset_points g (Erase offset len) = inner g.erase_size len
reset_points g Barrier = []

abbrev pub byte_points : Geometry → Interruption → Op → List ℕ
byte_points g PowerLoss o = tear_points g o
byte_points g Watchdog o = reset_points g o
byte_points g Failure o = tear_points g o

-- "none (watchdog and failure only)"
abbrev pub none_point : Interruption → List Progress
none_point PowerLoss = []
none_point Watchdog = None ∷ []
none_point Failure = None ∷ []

-- "A zero-length program or erase has no whole point."
abbrev pub whole_span : (len : ℕ) → List Progress
whole_span zero = []
whole_span (suc n) = Whole ∷ []

-- "A barrier has .. no whole point under failure."
abbrev pub whole_point : Interruption → Op → List Progress
whole_point w (Program offset len) = whole_span len
whole_point w (Erase offset len) = whole_span len
whole_point PowerLoss Barrier = Whole ∷ []
whole_point Watchdog Barrier = Whole ∷ []
whole_point Failure Barrier = []

-- "Within an operation: none (watchdog and failure only), byte points ascending, whole."
unfoldable pub progresses : Geometry → Interruption → Op → List Progress
progresses g w o = none_point w ++ (map Bytes (byte_points g w o) ++ whole_point w o)

-- ---- over a list of operations

-- "An injection has an operation index, a progress and an interruption"
abbrev pub point : ℕ → Interruption → Progress → Injection
point i w q = record { op = i; progress = q; interruption = w }

-- an interruption "by operation": the points of each operation in turn, from index i on
unfoldable pub under : Geometry → Interruption → ℕ → List Op → List Injection
under g w i [] = []
under g w i (o ∷ os) = map (point i w) (progresses g w o) ++ under g w (suc i) os

-- "operation 0, none, power loss"
abbrev pub opening : Injection
opening = point 0 PowerLoss None

-- "for an empty list one watchdog none at 0"
unfoldable pub lone : List Op → List Injection
lone [] = point 0 Watchdog None ∷ []
lone (o ∷ os) = []

-- "Order: operation 0, none, power loss; then power loss by operation; for an empty list one watchdog none at 0; then
-- watchdog by operation; then failure by operation."
unfoldable pub injections_of : Geometry → List Op → List Injection
injections_of g os =
    opening ∷ (under g PowerLoss 0 os ++ (lone os ++ (under g Watchdog 0 os ++ under g Failure 0 os)))
