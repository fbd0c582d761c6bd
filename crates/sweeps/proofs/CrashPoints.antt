-- The numbers of a sweep's crash points.
--     opening-number, lone-number, opening-run, lone-run    the two points of no operations
--     run-given                 a point on an operation of the fault-free run gives its own run
--     number-held, number-fewer, number-either    its number: 0 where it is held, 26 where it has fewer marks, never 25
--     empty-points, point-below the points of no operations; and of some, each on one of them
--     none_in                   every operation has the point that cuts it before it ran, under the watchdog
--     first-zero, first-26      the first number that is not 0
--     Sized, wrote-sized        the columns hold every operation recorded
-- Assumes nothing.
use mathlib.Core.Path.{◌≡◌, refl, sym, ap, ap₂, ◌∙◌}
use mathlib.Core.Logic.{◌⊎◌, inl, inr}
use mathlib.Core.Bool.{Bool, true, false, cond, not, ◌&&◌, and-false}
use mathlib.Core.List.Memᴰ
use mathlib.Core.List.{List, [], ◌∷◌, map, Memᴰ}
use Prim.Native.Nat.{ℕ, zero, suc, ◌+◌, ◌≤◌, ◌<◌}
use native.Mathlib.Nat.{suc-ne-zero, suc_inj, min-eq_left, add-zero, zero-add, not-suc-le-zero, le_of_suc-le-suc}
use native.Mathlib.Omega.{arith}
use lib.ListN.{length, take, length-set}
use lib.Seq.{length-take-le}
use lib.Dec.{eqb}
use borrow.Author.Tests.{ne_eqb}
use Rattle.basics.specs.Tests.{first_of}
use Rattle.basics.proofs.Lists.{Each}
use Rattle.storage.specs.declared.Geometry.{Geometry}
use Rattle.inject.specs.declared.Op.{Op}
use Rattle.inject.specs.declared.Injection.{Injection}
use Rattle.inject.specs.declared.Progress.TheVariants.{None}
use Rattle.inject.specs.declared.Interruption.TheVariants.{PowerLoss, Watchdog, Failure}
use Rattle.inject.specs.Ops.{ops_of}
use Rattle.inject.specs.Points.{progresses, point, under, lone, opening, injections_of}
use Rattle.inject.specs.Claims.{IndexIn}
use Rattle.inject.proofs.Members.{indexes-in}
use Rattle.session.specs.Armed.{Armed}
use Rattle.threaded.specs.Threaded.{Session}
use Rattle.script.specs.declared.Head.{Head}
use Rattle.script.specs.Calls.{Call}
use Rattle.steps.specs.Writer.{line_answered, wrote}
use Rattle.ledger.specs.Ledger.{marks_listed}
use Rattle.held.specs.Held.{is_watchdog, is_relabelled, end_of, ops_through, digests_through, marks_through, same_through, held_number}
use Rattle.held.proofs.Exact.{alike-equal, equal-alike}
use Rattle.landing.specs.Landed.{ran}
use Rattle.sweeps.specs.Sweep.{told_by, points_of, recorded_in, held_run}
use Rattle.sweeps.proofs.OneLine.{is_op, OpView, refuses, takes, op-view}
use Rattle.sweeps.proofs.InStep.{Rows, rows_to, seen_by, Held, note_test, note-taken, note-refused}
use Rattle.sweeps.proofs.Reached.{Going, goes, stops, going, Fired, Fewer}

-- ---- the number of one point

abbrev pub lone_point : Injection
lone_point = point 0 Watchdog None

-- the number of a run held to another
abbrev pub held_in : Injection → (f r : Session) → ℕ
held_in j f r = held_number j (recorded_in f) (recorded_in r)

-- the two points of no operations
pub opening-number : (s : Session) → s.counters.operations ≡ 0 → held_in opening s s ≡ 0
unfolding held_number
opening-number s e = rw (equal-alike 1 (recorded_in s) (recorded_in s) refl refl refl, e, and-false (not s.counters.fired))

pub lone-number : (f r : Session) → f.counters.operations ≡ 0 → held_in lone_point f r ≡ 0
unfolding held_number
lone-number f r e = rw e

pub lone-run : (f r : Session) → f.counters.operations ≡ 0 → held_run lone_point f r ≡ f
unfolding held_run
lone-run f r e = rw e

pub opening-run : (f r : Session) → held_run opening f r ≡ r
unfolding held_run
opening-run f r = refl

less-unequal : (a b : ℕ) → a < b → a ≡ b → ⊥
less-unequal a b h e = omega arith

-- the operations that rows hold
abbrev ops_in : Rows → List Op
ops_in w = ops_of w.kinds w.offsets w.lens

module _ (j : Injection) (f r : Session) (below : j.op < f.counters.operations) where
  not-relabelled : is_relabelled j f.counters.operations ≡ false
  not-relabelled =
      ap (λ (b : Bool). is_watchdog j.interruption && not (ran j.progress) && b) (ne_eqb j.op f.counters.operations (less-unequal _ _ below))
      ∙ and-false (is_watchdog j.interruption && not (ran j.progress))

  pub run-given : held_run j f r ≡ r
  unfolding held_run
  run-given = rw not-relabelled

  abbrev through : ℕ
  through = suc j.op

  abbrev alike : Bool
  alike = same_through through (recorded_in f) (recorded_in r)

  number_by : r.counters.fired ≡ true → held_in j f r ≡ cond alike 0 26
  unfolding held_number
  number_by e = rw (not-relabelled, e)

  pub number-either : Fired j f r → (held_in j f r ≡ 0) ⊎ (held_in j f r ≡ 26)
  number-either z = go alike (number_by z.fired)
    where
      go : (b : Bool) → held_in j f r ≡ cond b 0 26 → (held_in j f r ≡ 0) ⊎ (held_in j f r ≡ 26)
      go true e = inl e
      go false e = inr e

  -- what is compared of a run that went as far: its rows, and the marks below the end
  module _ (s : Session) (far : suc j.op ≤ s.counters.operations) where
    end_is : end_of through (recorded_in s) ≡ through
    end_is = min-eq_left far

    ops-are : ops_through through (recorded_in s) ≡ ops_in (rows_to through s)
    ops-are = ap (λ (n : ℕ). ops_in (rows_to n s)) end_is

    digests-are : digests_through through (recorded_in s) ≡ (rows_to through s).digests
    digests-are = ap (λ (n : ℕ). (rows_to n s).digests) end_is

    marks-are : marks_through through (recorded_in s) ≡ seen_by through s
    unfolding marks_listed
    marks-are = ap (λ (n : ℕ). seen_by n s) end_is

  pub number-held : Held (suc j.op) f r → held_in j f r ≡ 0
  number-held z =
      let a = z.f-far in
      let b = z.r-far in
      let ops = ops-are f a ∙ ap ops_in z.rows_same ∙ sym (ops-are r b) in
      let digests = digests-are f a ∙ ap (λ (w : Rows). w.digests) z.rows_same ∙ sym (digests-are r b) in
      let marks = marks-are f a ∙ z.marks-same ∙ sym (marks-are r b) in
      number_by z.fired ∙ rw (equal-alike through (recorded_in f) (recorded_in r) ops digests marks)

  pub number-fewer : Fewer j f r → held_in j f r ≡ 26
  number-fewer z = number_by z.is-fired.fired ∙ go alike refl
    where
      -- equal lists would be as long
      go : (b : Bool) → alike ≡ b → ◌≡◌ {A = ℕ} (cond b 0 26) 26
      go true e =
          let y = z.is-fired in
          let m = (alike-equal through (recorded_in f) (recorded_in r) e).2 in
          let q : seen_by through r ≡ seen_by through f = sym (marks-are r y.r-far) ∙ sym m ∙ marks-are f y.f-far in
          absurd (less-unequal _ _ z.fewer (ap length q))
      go false e = refl

-- ---- the points

length-ops : (ks os ls : List ℕ) → length os ≡ length ks → length ls ≡ length ks → length (ops_of ks os ls) ≡ length ks
unfolding ops_of
length-ops [] os ls a b = refl
length-ops (k ∷ ks) [] ls a b = absurd (suc-ne-zero (length ks) (sym a))
length-ops (k ∷ ks) (o ∷ os) [] a b = absurd (suc-ne-zero (length ks) (sym b))
length-ops (k ∷ ks) (o ∷ os) (l ∷ ls) a b = ap suc (length-ops ks os ls (suc_inj a) (suc_inj b))

-- the columns hold every operation recorded
pub record Sized (s : Session) : Type 0 where
  pub kinds-hold : s.counters.operations ≤ length s.log.kinds
  pub offsets-hold : s.counters.operations ≤ length s.log.offsets
  pub lens-hold : s.counters.operations ≤ length s.log.lens

op-sized : (h : Head) (s : Session) (x : Call) → Sized s → OpView h s x → (a : Armed) → Sized (line_answered (told_by h a) s x).session
op-sized h s x z (refuses k n e) a = rw (e a) z
op-sized h s x z (takes w t) a =
    let y = t a in
    let n : ℕ = s.counters.operations in
    let k = y.room in
    let g = y.log-fits in
    let g1 = g.kinds-long in
    let g2 = g.offsets-long in
    let g3 = g.lens-long in
    record {
      kinds-hold = rw (y.operations-is, y.kinds-is, length-set s.log.kinds n w.kind) (omega arith);
      offsets-hold = rw (y.operations-is, y.offsets-is, length-set s.log.offsets n w.offset) (omega arith);
      lens-hold = rw (y.operations-is, y.lens-is, length-set s.log.lens n w.len) (omega arith);
    }

note-sized : (h : Head) (s : Session) (x : Call) → Sized s → (a : Armed) → is_op x ≡ false → (k : ℕ) → note_test s x ≡ k → Sized (line_answered (told_by h a) s x).session
note-sized h s x z a o zero e =
    rw (note-taken (told_by h a) s x o e) (record { kinds-hold = z.kinds-hold; offsets-hold = z.offsets-hold; lens-hold = z.lens-hold })
note-sized h s x z a o (suc k) e = rw (note-refused (told_by h a) s x o k e) z

line-sized : (h : Head) (a : Armed) (s : Session) (x : Call) → Sized s → Sized (line_answered (told_by h a) s x).session
line-sized h a s x z = go (is_op x) refl
  where
    go : (b : Bool) → is_op x ≡ b → Sized (line_answered (told_by h a) s x).session
    go true e = op-sized h s x z (op-view h s x e) a
    go false e = note-sized h s x z a e (note_test s x) refl

pub wrote-sized : (h : Head) (a : Armed) (co : Bool) (xs : List Call) (s : Session) → Sized s → Sized (wrote (told_by h a) co s xs).session
unfolding wrote
wrote-sized h a co [] s z = z
wrote-sized h a co (x ∷ xs) s z =
    let y = line-sized h a s x z in
    go y (wrote-sized h a co xs (line_answered (told_by h a) s x).session y) (going (told_by h a) co s x xs)
  where
    go : Sized (line_answered (told_by h a) s x).session → Sized (wrote (told_by h a) co (line_answered (told_by h a) s x).session xs).session
        → Going (told_by h a) co s x xs → Sized (wrote (told_by h a) co s (x ∷ xs)).session
    go y w (goes k e) = rw e w
    go y w (stops k n e) = rw e y

-- the operations recorded
abbrev ops_by : Session → List Op
ops_by f = ops_in (rows_to f.counters.operations f)

ops-long : (f : Session) → Sized f → length (ops_by f) ≡ f.counters.operations
ops-long f z =
    let n : ℕ = f.counters.operations in
    let a = length-take-le n f.log.kinds z.kinds-hold in
    let b = length-take-le n f.log.offsets z.offsets-hold in
    let c = length-take-le n f.log.lens z.lens-hold in
    length-ops (take n f.log.kinds) (take n f.log.offsets) (take n f.log.lens) (b ∙ sym a) (c ∙ sym a) ∙ a

pub empty-points : (h : Head) (f : Session) → f.counters.operations ≡ 0 → points_of h f ≡ opening ∷ lone_point ∷ []
unfolding points_of injections_of ops_of under lone
empty-points h f e = rw e

pub point-below : (h : Head) (f : Session) → Sized f → 0 < f.counters.operations → (j : Injection) → Memᴰ j (points_of h f) → j.op < f.counters.operations
unfolding points_of
point-below h f z some j m = go (indexes-in h.geometry (ops_by f) j m)
  where
    go : IndexIn (ops_by f) j → j.op < f.counters.operations
    go (inl k) = rw (← ops-long f z) k
    go (inr k) = absurd (let l = ops-long f z in let q = k.0 in omega arith)

-- every operation has the watchdog's none point
none-under : (g : Geometry) (i : ℕ) (os : List Op) (k : ℕ) → k < length os → Memᴰ (point (i + k) Watchdog None) (under g Watchdog i os)
unfolding under progresses
none-under g i [] k h = absurd (not-suc-le-zero h)
none-under g i (o ∷ os) zero h = Memᴰ.head (ap (λ (n : ℕ). point n Watchdog None) (add-zero i))
none-under g i (o ∷ os) (suc k) h =
    let n : i + suc k ≡ suc i + k = omega arith in
    rw n (Memᴰ.append_right (map (point i Watchdog) (progresses g Watchdog o)) (none-under g (suc i) os k (le_of_suc-le-suc h)))

pub none_in : (h : Head) (f : Session) → Sized f → (p : ℕ) → p < f.counters.operations → Memᴰ (point p Watchdog None) (points_of h f)
unfolding points_of injections_of
none_in h f z p k =
    let g : Geometry = h.geometry in
    let os : List Op = ops_by f in
    Memᴰ.tail (Memᴰ.append_right (under g PowerLoss 0 os) (Memᴰ.append_right (lone os) (Memᴰ.append_left (under g Failure 0 os) (rw zero-add at (none-under g 0 os p (rw (ops-long f z) k))))))

-- ---- the first number

module _ {A : Type 0} (f : A → ℕ) where
  pub first-zero : (l : List A) → Each (λ (a : A). f a ≡ 0) l → first_of (map f l) ≡ 0
  unfolding first_of
  first-zero [] e = refl
  first-zero (a ∷ l) e = rw (e a (Memᴰ.head refl)) (first-zero l (λ x m. e x (Memᴰ.tail m)))

  pub first-26 : (l : List A) → Each (λ (a : A). (f a ≡ 0) ⊎ (f a ≡ 26)) l → (k : A) → Memᴰ k l → f k ≡ 26 → first_of (map f l) ≡ 26
  unfolding first_of
  first-26 [] e k m q = absurd (Memᴰ.not-nil m)
  first-26 (a ∷ l) e k m q =
      go (e a (Memᴰ.head refl)) (λ n. first-26 l (λ x w. e x (Memᴰ.tail w)) k n q) (Memᴰ.cases_cons m)
    where
      go : (f a ≡ 0) ⊎ (f a ≡ 26) → (Memᴰ k l → first_of (map f l) ≡ 26) → (k ≡ a) ⊎ Memᴰ k l → cond (eqb (f a) 0) (first_of (map f l)) (f a) ≡ 26
      go (inr u) later w = rw u
      go (inl u) later (inl w) = absurd (suc-ne-zero 25 (sym q ∙ ap f w ∙ u))
      go (inl u) later (inr w) = rw u (later w)

pub map_each : {A B : Type 0} (f g : A → B) (l : List A) → Each (λ (a : A). f a ≡ g a) l → map f l ≡ map g l
map_each f g [] e = refl
map_each {B = B} f g (a ∷ l) e = ap₂ (λ (b : B) (r : List B). b ∷ r) (e a (Memᴰ.head refl)) (map_each f g l (λ x m. e x (Memᴰ.tail m)))
