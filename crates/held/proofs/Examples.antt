-- Small runs, held: each number and answer of document 01's rule, computed. Columns here are as long as what they hold, so most examples are
-- of `held_by`, which comes after the columns' test; the last three are of that test. Assumes nothing.
use mathlib.Core.Path.{◌≡◌, refl}
use mathlib.Core.Bool.{Bool, true, false}
use mathlib.Core.List.{[], ◌∷◌}
use Prim.Native.Nat.{ℕ}
use Rattle.std.specs.Prelude.{Ok, Err}
use Rattle.basics.specs.Tests.{unless, refuse_if, first_of}
use Rattle.inject.specs.declared.Progress.{Progress}
use Rattle.inject.specs.declared.Progress.TheVariants.{None, Bytes, Whole}
use Rattle.inject.specs.declared.Interruption.{Interruption}
use Rattle.inject.specs.declared.Interruption.TheVariants.{PowerLoss, Watchdog, Failure}
use Rattle.inject.specs.declared.Injection.{Injection}
use Rattle.inject.specs.Ops.{ops_of}
use Rattle.landing.specs.declared.Stop.TheVariants.{Running}
use Rattle.session.specs.declared.Counters.{Counters}
use Rattle.model.specs.Columns.{all_up_to}
use Rattle.ledger.specs.Ledger.{marks_from, marks_listed, counts_short}
use Rattle.held.specs.declared.Held.TheVariants.{Relabelled, Kept}
use Rattle.held.specs.Held.{Recorded, recorded_of, same, same_op, same_label, below, same_through, held_number, columns_test, lowest, held_by, held_call}

abbrev at : (op : ℕ) → Progress → Interruption → Injection
at op p w = record { op = op; progress = p; interruption = w }

abbrev counted : (operations marks : ℕ) → (fired : Bool) → Counters
counted n m b = record { operations = n; marks = m; stop = Running; fired = b; place = 0; withheld = 0 }

-- a record 7 of one program and a barrier, then "end", which stands at the operation count 2
abbrev free : Recorded
free = recorded_of (counted 2 2 false) (0 ∷ 2 ∷ []) (0 ∷ 0 ∷ []) (1 ∷ 0 ∷ []) (9 ∷ 0 ∷ []) (1 ∷ 0 ∷ []) (7 ∷ 0 ∷ []) (0 ∷ 2 ∷ [])

-- the same writer, cut at the program
abbrev cut : (digest id : ℕ) → Recorded
cut digest id = recorded_of (counted 1 1 true) (0 ∷ []) (0 ∷ []) (1 ∷ []) (digest ∷ []) (1 ∷ []) (id ∷ []) (0 ∷ [])

-- a writer that did nothing
abbrev idle : Recorded
idle = recorded_of (counted 0 0 false) [] [] [] [] [] [] []

-- a writer that only marks
abbrev marking : (id : ℕ) → Recorded
marking id = recorded_of (counted 0 1 false) [] [] [] [] (1 ∷ []) (id ∷ []) (0 ∷ [])

-- "First: watchdog, none or count 0, at index = operation count gives the fault-free run relabelled."
pub relabelled : held_by (at 2 None Watchdog) free (cut 8 8) ≡ Ok Relabelled
relabelled = refl

pub relabelled-zero : held_by (at 2 (Bytes 0) Watchdog) free (cut 8 8) ≡ Ok Relabelled
relabelled-zero = refl

-- "25 if the injection never fired": one operation further it is no longer the fault-free run
pub never-fired : held_by (at 3 None Watchdog) free free ≡ Err 25
unfolding held_number
never-fired = refl

-- "(except index 0, none, power loss on an empty sequence)", and not under a failure
pub opening : held_by (at 0 None PowerLoss) idle idle ≡ Ok Kept
unfolding held_number same_through same ops_of below marks_listed marks_from
opening = refl

pub failed-opening : held_by (at 0 None Failure) idle idle ≡ Err 25
unfolding held_number
failed-opening = refl

-- the barrier and "end" come after the armed operation, and are not asked
pub kept : held_by (at 0 Whole PowerLoss) free (cut 9 7) ≡ Ok Kept
unfolding held_number same_through same same_op same_label ops_of below marks_listed marks_from
kept = refl

-- "26 if operations or digests through the armed operation differ"
pub other-bytes : held_by (at 0 Whole PowerLoss) free (cut 8 7) ≡ Err 26
unfolding held_number same_through same same_op same_label ops_of below marks_listed marks_from
other-bytes = refl

-- ", or .. the marks"
pub other-record : held_by (at 0 Whole PowerLoss) free (cut 9 8) ≡ Err 26
unfolding held_number same_through same same_op same_label ops_of below marks_listed marks_from
other-record = refl

-- "index + 1": a barrier in the place of the program is seen where it is the armed operation itself
pub other-operation : held_by (at 0 None Watchdog) free (recorded_of (counted 1 1 true) (2 ∷ []) (0 ∷ []) (0 ∷ []) (9 ∷ []) (1 ∷ []) (7 ∷ []) (0 ∷ [])) ≡ Err 26
unfolding held_number same_through same same_op same_label ops_of below marks_listed marks_from
other-operation = refl

-- "below both index + 1 and the operations that run recorded": with no operation recorded no mark is asked
pub opening-marks : held_by (at 0 None PowerLoss) (marking 7) (marking 8) ≡ Ok Kept
unfolding held_number same_through same ops_of below marks_listed marks_from
opening-marks = refl

-- "13: .. a session's shorter than its limits"
pub short-columns : held_call (at 0 None PowerLoss) idle idle ≡ Err 13
unfolding held_call lowest columns_test first_of refuse_if unless all_up_to counts_short
short-columns = refl

-- "12: columns of one list unequal": the lower number comes first, in whichever run it is found
pub uneven-columns : held_call (at 0 None PowerLoss) idle (recorded_of (counted 0 0 false) [] (0 ∷ []) [] [] [] [] []) ≡ Err 12
unfolding held_call lowest columns_test first_of refuse_if unless all_up_to counts_short
uneven-columns = refl

-- "12: .. operation or mark code without a meaning"
pub unknown-code : held_call (at 0 None PowerLoss) (recorded_of (counted 0 1 false) [] [] [] [] (2 ∷ []) (7 ∷ []) (0 ∷ [])) idle ≡ Err 12
unfolding held_call lowest columns_test first_of refuse_if unless all_up_to counts_short
unknown-code = refl
