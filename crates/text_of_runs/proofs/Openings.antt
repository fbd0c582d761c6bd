-- A sweep opened, and the run at each place.
--     counts-pass     no number refuses the count of the fault-free run's crash points, nor the point at a place below it
--     open_is         what opening leaves is the fault-free run, and its reply as the sweep is decided
--     placed-is       what is armed in the run at a place
--     shown-at        the run at a place
-- Assumes nothing.
use mathlib.Core.Path.{◌≡◌, refl, sym, ap, ◌∙◌}
use mathlib.Core.Bool.{Bool, true, cond}
use mathlib.Core.List.{List}
use Prim.Native.Nat.{ℕ, zero, suc, ◌≤◌, ◌<◌}
use lib.ListN.{length, take, get_or, length-map}
use lib.Seq.{length-take-le}
use borrow.Author.Tests.{eq-eqb, le-leb, lt-ltb}
use Rattle.basics.specs.Tests.{unless, first_of}
use Rattle.basics.proofs.Lists.{get_or-map-lt}
use Rattle.storage.specs.Geometry.{geometry_test}
use Rattle.inject.specs.declared.Injection.{Injection}
use Rattle.std.specs.Prelude.{Ok as Points, Ok as Point, None as Nothing, Some as At, Ok as Run}
use Rattle.inject.specs.Points.{opening}
use Rattle.inject.specs.Answers.{list_test, counted, found}
use Rattle.session.specs.Armed.{Armed}
use Rattle.threaded.specs.Threaded.{Session}
use Rattle.script.specs.declared.Head.{Head}
use Rattle.script.specs.Calls.{Call}
use Rattle.script.specs.Columns.{Columns}
use Rattle.script.specs.Held.{calls_in}
use Rattle.sweeps.specs.Sweep.{run_by, points_of}
use Rattle.sweeps.specs.Decided.{meets26, run_shown, runs_shown}
use Rattle.harness.specs.Opening.{Opened, Runs, NotSwept, open_points, OpenLeft, open_left, opened_with, open_call, open_on}
use Rattle.harness_runs.specs.Running.{run_number, cells, ran_on}
use Rattle.armed_runs.specs.Places.{armed_by, free_by, placed_at}
use Rattle.text_of_runs.specs.Steady.{Steady}
use Rattle.text_of_runs.proofs.Codes.{take-known, kinds-known}
use Rattle.text_of_runs.proofs.Steady.{run-steady}
use Rattle.text_of_runs.proofs.Ledgers.{run-ended}

module _ (h : Head) (xs : List Call) (passes : geometry_test h.geometry ≡ 0) where
  -- the fault-free run, and the operations that it recorded
  abbrev fault_free : Session
  fault_free = (run_by h xs Nothing).session

  abbrev operations : ℕ
  operations = fault_free.counters.operations

  abbrev ks : List ℕ
  ks = take operations fault_free.log.kinds

  abbrev os : List ℕ
  os = take operations fault_free.log.offsets

  abbrev ls : List ℕ
  ls = take operations fault_free.log.lens

  abbrev points : List Injection
  points = points_of h fault_free

  steady : Steady h.geometry.capacity fault_free
  steady = run-steady h xs Nothing

  column-long : (column : List ℕ) → length column ≡ 1024 → length (take operations column) ≡ operations
  column-long column e = length-take-le operations column (rw e steady.few-operations)

  -- the geometry passes, the three columns are even, every kind is known, and there are at most 1,024 operations
  pub counts-pass : list_test h.geometry ks os ls true ≡ 0
  unfolding list_test first_of unless
  counts-pass =
      let l = steady.log-steady in
      let a : length ks ≡ operations = column-long fault_free.log.kinds l.kinds-long in
      let b : length os ≡ operations = column-long fault_free.log.offsets l.offsets-long in
      let c : length ls ≡ operations = column-long fault_free.log.lens l.lens-long in
      rw (
        passes,
        eq-eqb (length ks) (length os) (a ∙ sym b),
        eq-eqb (length ks) (length ls) (a ∙ sym c),
        kinds-known ks (take-known 2 operations fault_free.log.kinds l.kinds-known),
        le-leb (length ks) 1024 (rw a steady.few-operations),
      )

  counted_is : counted h.geometry ks os ls ≡ Points (length points)
  unfolding points_of
  counted_is = rw counts-pass

  -- ---- opening

  -- the reply, as the sweep is decided: 24, then 26, else the runs
  abbrev pub reply_by : (failed behind : Bool) → Opened
  reply_by failed behind = cond failed (NotSwept 24) (cond behind (NotSwept 26) (Runs operations (length points)))

  abbrev pub left : OpenLeft
  left =
      open_left (reply_by (run_by h xs Nothing).failed (meets26 h xs)) fault_free.media fault_free.copy fault_free.log.kinds fault_free.log.offsets fault_free.log.lens

  points-open : open_points h operations xs fault_free.log.kinds fault_free.log.offsets fault_free.log.lens
      ≡ cond (meets26 h xs) (NotSwept 26) (Runs operations (length points))
  unfolding open_points
  points-open = rw counted_is

  module _ (rows : ℕ) (k : Columns) (holds : calls_in rows k ≡ xs) (small : h.geometry.capacity ≤ 16384)
      (none : run_number h rows k (length (cells h)) (length (cells h)) ≡ 0) where
    -- opening leaves the fault-free run, and answers 24, 26 or how many operations and crash points there are
    pub open_is : open_on h rows k ≡ left
    unfolding open_on open_call ran_on
    open_is =
        ap (opened_with h (calls_in rows k)) (run-ended h Nothing rows k xs holds small none)
        ∙ rw holds
        (ap (λ (o : Opened). open_left (cond (run_by h xs Nothing).failed (NotSwept 24) o) fault_free.media fault_free.copy fault_free.log.kinds fault_free.log.offsets fault_free.log.lens) points-open)

  -- ---- the run at a place

  -- nothing in run 0, then the crash points in order
  abbrev pub armed_at : (place : ℕ) → Armed
  armed_at zero = Nothing
  armed_at (suc i) = At (get_or points i opening)

  found-is : (i : ℕ) → i < length points → found h.geometry ks os ls i ≡ Point (get_or points i opening)
  unfolding points_of first_of unless
  found-is i b = rw (counts-pass, lt-ltb i (length points) b)

  pub placed-is : (place : ℕ) → place ≤ length points → placed_at place h.geometry ks os ls ≡ Run (armed_at place)
  unfolding placed_at
  placed-is zero b = ap free_by counted_is
  placed-is (suc i) b = ap armed_by (found-is i b)

  -- the run of the sweep at that place is the script's run with it
  pub shown-at : (place : ℕ) → place ≤ length points → get_or (runs_shown h xs fault_free) place (run_shown h xs Nothing) ≡ run_shown h xs (armed_at place)
  shown-at zero b = refl
  shown-at (suc i) b = get_or-map-lt (λ (j : Injection). run_shown h xs (At j)) points i opening (run_shown h xs Nothing) b

  -- one run more than crash points
  pub runs-count : length (runs_shown h xs fault_free) ≡ suc (length points)
  runs-count = ap suc (length-map points (λ (j : Injection). run_shown h xs (At j)))
