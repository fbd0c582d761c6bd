-- The session's values as numbers. Definitions only; assumes nothing.
use Rattle.std.specs.Prelude.{None as Nothing, Some as At, Bool, not, cond, List, ℕ, ◌^◌, eqb, ltb, get_or, set}
use Rattle.basics.specs.Tests.{flag}
use Rattle.storage.specs.Geometry.{geometry_of}
use Rattle.device.specs.declared.OneWayBits.{OneWayBits}
use Rattle.device.specs.declared.OneWayBits.TheVariants.{Absorbed, Rejected}
use Rattle.inject.specs.declared.Progress.{Progress}
use Rattle.inject.specs.declared.Progress.TheVariants.{None, Bytes, Whole}
use Rattle.inject.specs.declared.Interruption.{Interruption}
use Rattle.inject.specs.declared.Interruption.TheVariants.{PowerLoss, Watchdog, Failure}
use Rattle.landing.specs.declared.Stop.{Stop}
use Rattle.landing.specs.declared.Stop.TheVariants.{Running, PowerLost, CoreReset}
use Rattle.landing.specs.Ending.{stop_number}
use Rattle.session.specs.declared.Told.{Told}
use Rattle.session.specs.declared.Counters.{Counters}
use Rattle.session.specs.Armed.{Armed, told_with}

-- ---- what the start was told

-- 0 for Absorbed, any other number for Rejected
abbrev pub rule_of : ℕ → OneWayBits
rule_of rule = cond (eqb rule 0) Absorbed Rejected

-- 0 none, 1 a byte count, any other number whole
abbrev pub progress_of : (kind count : ℕ) → Progress
progress_of kind count = cond (eqb kind 0) None (cond (eqb kind 1) (Bytes count) Whole)

-- 0 power loss, 1 watchdog, any other number failure
abbrev pub interruption_of : ℕ → Interruption
interruption_of cause = cond (eqb cause 0) PowerLoss (cond (eqb cause 1) Watchdog Failure)

-- 0 for nothing armed, any other number for the injection of the other four numbers
abbrev pub armed_of : (armed op kind count cause : ℕ) → Armed
armed_of armed op kind count cause =
    cond (eqb armed 0) Nothing (At (record { op = op; progress = progress_of kind count; interruption = interruption_of cause }))

-- ten numbers: the four units, the bit rule, whether an injection is armed, and its operation, kind of progress, byte count and
-- interruption. A number that is not there is 0.
unfoldable pub told_of : List ℕ → Told
told_of told =
    told_with (geometry_of (get_or told 0 0) (get_or told 1 0) (get_or told 2 0) (get_or told 3 0)) (rule_of (get_or told 4 0))
    (armed_of (get_or told 5 0) (get_or told 6 0) (get_or told 7 0) (get_or told 8 0) (get_or told 9 0))

-- ---- the counters

-- by its number: 21, 22, any other number for a session that runs
abbrev pub stop_of : ℕ → Stop
stop_of number = cond (eqb number 21) PowerLost (cond (eqb number 22) CoreReset Running)

-- 0 for no, any other number for yes
abbrev pub yes : ℕ → Bool
yes number = not (eqb number 0)

-- a number that no u32 holds is taken for 0
abbrev pub low : ℕ → ℕ
low number = cond (ltb number (2 ^ 32)) number 0

-- six numbers: operations, marks, the stop's number, whether the injection fired, and the place and length of what was withheld.
-- A number that is not there is 0.
unfoldable pub counters_of : List ℕ → Counters
counters_of state = record {
  operations = get_or state 0 0;
  marks = get_or state 1 0;
  stop = stop_of (get_or state 2 0);
  fired = yes (get_or state 3 0);
  place = low (get_or state 4 0);
  withheld = low (get_or state 5 0);
}

-- the counters in the first six places; past the end nothing is stored
unfoldable pub counters_in : Counters → List ℕ → List ℕ
counters_in c state =
    set (set (set (set (set (set state 0 c.operations) 1 c.marks) 2 (stop_number c.stop)) 3 (flag c.fired)) 4 c.place) 5
    c.withheld
