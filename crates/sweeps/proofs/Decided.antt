-- A sweep is decided by one look at the script, and each crash point is the script's run with its injection.
--     decided          the first number of the crash points: 26 where the writer stops at errors and a range is marked behind, else none
--     points-shown     what is printed of each crash point is its own run
--     swept-by         the runs of a sweep
--     swept-script     the same from the script's bytes
-- Assumes nothing.
use mathlib.Core.Path.{◌≡◌, refl, sym, ap, ap₂, subst, ◌∙◌}
use mathlib.Core.Logic.{◌⊎◌, ⊎_elim}
use mathlib.Core.Bool.{Bool, true, false, cond, not, ◌&&◌, true≢false}
use mathlib.Core.List.{List, [], ◌∷◌, map}
use Prim.Native.Nat.{ℕ, zero, suc, ◌≤◌, ◌<◌, zero-le}
use native.Mathlib.Omega.{arith}
use Rattle.basics.specs.Tests.{first_of}
use Rattle.basics.proofs.Lists.{Each, each-cons, each_none}
use Rattle.inject.specs.declared.Injection.{Injection}
use Rattle.inject.specs.declared.Progress.TheVariants.{None}
use Rattle.inject.specs.declared.Interruption.TheVariants.{Watchdog}
use Rattle.inject.specs.Points.{point, opening}
use Rattle.std.specs.Prelude.{None as Nothing, Some as At}
use Rattle.threaded.specs.Threaded.{Session}
use Rattle.script.specs.declared.Head.{Head}
use Rattle.script.specs.Calls.{Call}
use Rattle.script.specs.Script.{Script, script, refused, script_of}
use Rattle.steps.specs.Writer.{Wrote, wrote}
use Rattle.lines.specs.Lines.{Shown}
use Rattle.sweeps.specs.Sweep.{told_by, opened_by, run_by, shown_by, points_of, held_run, point_number, point_run, runs, not_swept, swept_unless, swept_from, swept_by, swept_script, swept_of}
use Rattle.sweeps.specs.Decided.{range_behind, meets26, run_shown, runs_shown, decided_by, decided_script}
use Rattle.sweeps.proofs.InStep.{Held}
use Rattle.sweeps.proofs.Reached.{find-hit, Never, Fired, Fewer, fired-or-never, carried-or-never, held-or-never, fewer-marks}
use Rattle.sweeps.proofs.CrashPoints.{held_in, opening-number, lone-number, opening-run, lone-run, run-given, number-either, number-held, number-fewer, Sized, wrote-sized, lone_point, empty-points, point-below, none_in, first-zero, first-26, map_each}

-- ---- from any session that has recorded nothing

module _ (h : Head) (xs : List Call) (s : Session) (start : s.counters.operations ≡ 0) where
  few : (j : Injection) → s.counters.operations ≤ j.op
  few j = rw start zero-le

  module _ (j : Injection) (co : Bool) (below : j.op < (wrote (told_by h Nothing) co s xs).session.counters.operations) where
    -- it is met on an operation of the fault-free run
    not-never : Never h j co s xs → ⊥
    not-never n = let k = n.few in omega arith

    fires : Fired j (wrote (told_by h Nothing) co s xs).session (wrote (told_by h (At j)) co s xs).session
    fires = ⊎_elim (λ n. absurd (not-never n)) (λ z. z) (fired-or-never h j xs s (few j) co)

  holds : (j : Injection) (co : Bool) → j.op < (wrote (told_by h Nothing) co s xs).session.counters.operations
      → (wrote (told_by h Nothing) co s xs).failed ≡ false → (not co && range_behind 0 xs) ≡ false
      → Held (suc j.op) (wrote (told_by h Nothing) co s xs).session (wrote (told_by h (At j)) co s xs).session
  holds j true below e b = ⊎_elim (λ n. absurd (not-never j true below n)) (λ z. z) (carried-or-never h j xs s (few j))
  holds j false below e b =
      ⊎_elim (λ n. absurd (not-never j false below n)) (λ z. z) (held-or-never h j xs s (few j) e (rw start b))

  -- the point at which the run has fewer marks
  lacks : (co : Bool) → (wrote (told_by h Nothing) co s xs).failed ≡ false → (not co && range_behind 0 xs) ≡ true
      → (p : ℕ) × Fewer (point p Watchdog None) (wrote (told_by h Nothing) co s xs).session (wrote (told_by h (At (point p Watchdog None))) co s xs).session
  lacks true e b = absurd (true≢false (sym b))
  lacks false e b =
      let z = find-hit 0 xs b in
      (z.0, fewer-marks h (point z.0 Watchdog None) xs s (few (point z.0 Watchdog None)) e refl (rw start z.1))

  abbrev f : Session
  f = (wrote (told_by h Nothing) h.carries_on s xs).session

  abbrev r : Injection → Session
  r j = (wrote (told_by h (At j)) h.carries_on s xs).session

  module _ (z : Sized s) where
    sized : Sized f
    sized = wrote-sized h Nothing h.carries_on xs s z

    -- ---- no operation at all

    module _ (e : f.counters.operations ≡ 0) where
      -- an injection on operation 0 is never met
      same-run : (j : Injection) → j.op ≡ 0 → r j ≡ f
      same-run j i = ⊎_elim (λ n. ap (λ (w : Wrote). w.session) n.same) (λ y. absurd (let k = y.f-far in omega (arith, i, e))) (fired-or-never h j xs s (few j) h.carries_on)

      empty-numbers : first_of (map (λ (j : Injection). held_in j f (r j)) (points_of h f)) ≡ 0
      empty-numbers =
          ap (λ (l : List Injection). first_of (map (λ (j : Injection). held_in j f (r j)) l)) (empty-points h f e)
          ∙ first-zero (λ (j : Injection). held_in j f (r j)) (opening ∷ lone_point ∷ [])
          (each-cons _ opening (lone_point ∷ []) (ap (held_in opening f) (same-run opening refl) ∙ opening-number f e)
          (each-cons _ lone_point [] (lone-number f (r lone_point) e) (each_none _)))

      empty_runs : Each (λ (j : Injection). held_run j f (r j) ≡ r j) (points_of h f)
      empty_runs =
          subst (λ (l : List Injection). Each (λ (j : Injection). held_run j f (r j) ≡ r j) l) (sym (empty-points h f e))
          (each-cons _ opening (lone_point ∷ []) (opening-run f (r opening))
          (each-cons _ lone_point [] (lone-run f (r lone_point) e ∙ sym (same-run lone_point refl)) (each_none _)))

    -- ---- all of them

    module _ (e : (wrote (told_by h Nothing) h.carries_on s xs).failed ≡ false) where
      held-numbers : meets26 h xs ≡ false → (n : ℕ) → f.counters.operations ≡ n → first_of (map (λ (j : Injection). held_in j f (r j)) (points_of h f)) ≡ 0
      held-numbers b zero i = empty-numbers i
      held-numbers b (suc n) i =
          first-zero (λ (j : Injection). held_in j f (r j)) (points_of h f)
          (λ j m. let k : j.op < f.counters.operations = point-below h f sized (rw i (omega arith)) j m in number-held j f (r j) k (holds j h.carries_on k e b))

      lacking-numbers : meets26 h xs ≡ true → first_of (map (λ (j : Injection). held_in j f (r j)) (points_of h f)) ≡ 26
      lacking-numbers b =
          let z = lacks h.carries_on e b in
          let p : Injection = point z.0 Watchdog None in
          let far : z.0 < f.counters.operations = z.1.is-fired.f-far in
          first-26 (λ (j : Injection). held_in j f (r j)) (points_of h f)
          (λ j m. let k : j.op < f.counters.operations = point-below h f sized (omega arith) j m in number-either j f (r j) k (fires j h.carries_on k))
          p (none_in h f sized z.0 far) (number-fewer p f (r p) far z.1)

      numbers : (b : Bool) → meets26 h xs ≡ b → first_of (map (λ (j : Injection). held_in j f (r j)) (points_of h f)) ≡ cond b 26 0
      numbers true b = lacking-numbers b
      numbers false b = held-numbers b f.counters.operations refl

    runs-given : (n : ℕ) → f.counters.operations ≡ n → Each (λ (j : Injection). held_run j f (r j) ≡ r j) (points_of h f)
    runs-given zero i = empty_runs i
    runs-given (suc n) i = λ j m. run-given j f (r j) (point-below h f sized (rw i (omega arith)) j m)

-- ---- from the opened session

opened-sized : (h : Head) → Sized (opened_by h)
opened-sized h = record { kinds-hold = zero-le; offsets-hold = zero-le; lens-hold = zero-le }

pub decided : (h : Head) (xs : List Call) → (run_by h xs Nothing).failed ≡ false
    → first_of (map (point_number h xs (run_by h xs Nothing).session) (points_of h (run_by h xs Nothing).session)) ≡ cond (meets26 h xs) 26 0
unfolding run_by
decided h xs e = numbers h xs (opened_by h) refl (opened-sized h) e (meets26 h xs) refl

pub points-shown : (h : Head) (xs : List Call)
    → map (point_run h xs (run_by h xs Nothing).session) (points_of h (run_by h xs Nothing).session)
    ≡ map (λ (j : Injection). run_shown h xs (At j)) (points_of h (run_by h xs Nothing).session)
unfolding run_by
points-shown h xs =
    map_each (point_run h xs (run_by h xs Nothing).session) (λ (j : Injection). run_shown h xs (At j)) (points_of h (run_by h xs Nothing).session)
    (λ j m. ap (shown_by h (At j)) (runs-given h xs (opened_by h) refl (opened-sized h) (run_by h xs Nothing).session.counters.operations refl j m))

-- 24 first; then 26, which the script alone decides; then the runs
module _ (h : Head) (xs : List Call) where
  unless-26 : (b : Bool) (rs : List Shown) → swept_unless (cond b 26 0) rs ≡ cond b (not_swept 26 0) (runs rs)
  unless-26 true rs = refl
  unless-26 false rs = refl

  swept-unfailed : (run_by h xs Nothing).failed ≡ false
      → swept_from h xs (run_by h xs Nothing).session (points_of h (run_by h xs Nothing).session)
      ≡ cond (meets26 h xs) (not_swept 26 0) (runs (runs_shown h xs (run_by h xs Nothing).session))
  swept-unfailed e =
      ap₂ (λ (n : ℕ) (rs : List Shown). swept_unless n (run_shown h xs Nothing ∷ rs)) (decided h xs e) (points-shown h xs)
      ∙ unless-26 (meets26 h xs) (runs_shown h xs (run_by h xs Nothing).session)

  swept-failed : (b : Bool) → (run_by h xs Nothing).failed ≡ b
      → cond b (not_swept 24 0) (swept_from h xs (run_by h xs Nothing).session (points_of h (run_by h xs Nothing).session))
      ≡ cond b (not_swept 24 0) (cond (meets26 h xs) (not_swept 26 0) (runs (runs_shown h xs (run_by h xs Nothing).session)))
  swept-failed true e = refl
  swept-failed false e = swept-unfailed e

  pub swept-by : swept_by h xs (run_by h xs Nothing) ≡ decided_by h xs (run_by h xs Nothing)
  swept-by = swept-failed (run_by h xs Nothing).failed refl

swept-read : (s : Script) → swept_script s ≡ decided_script s
swept-read (script h xs) = swept-by h xs
swept-read (refused number line) = refl

pub swept-script : (text : List ℕ) → swept_of text ≡ decided_script (script_of text)
unfolding swept_of
swept-script text = swept-read (script_of text)
