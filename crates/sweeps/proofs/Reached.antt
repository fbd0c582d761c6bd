-- A script's run beside its fault-free run.
--     Going, going            a writer goes on after a line, or stops at it
--     wrote-keeps             a run keeps the operations recorded
--     hits                    some range begins or ends at this operation, and its line comes after it
--     Met, reach              the two runs are one until the injection is met; or it never is
--     fired-or-never          an injection on an operation of the fault-free run fires
--     held-or-never           and the run is held to the fault-free one, unless the writer stops and a range is marked behind
--     fewer-marks             there the run that stops at the range's operation has fewer marks
-- Assumes nothing.
use mathlib.Core.Path.{◌≡◌, refl, sym, ap, ◌∙◌}
use mathlib.Core.Logic.{◌⊎◌, inl, inr}
use mathlib.Core.Bool.{Bool, true, false, cond, ◌&&◌, ◌||◌, or-true, or-false, true≢false}
use mathlib.Core.List.{List, [], ◌∷◌, ◌++◌, append-nil}
use Prim.Native.Nat.{ℕ, zero, suc, ◌+◌, ◌≤◌, ◌<◌}
use native.Mathlib.Nat.{suc-ne-zero, le_refl, le_trans}
use native.Mathlib.Omega.{arith}
use lib.ListN.{length, take, length-append}
use lib.Dec.{eqb, ltb}
use borrow.Author.Tests.{eqb-true, eqb-false, eq-eqb, ltb-true, ltb-false, lt-ltb, le-ltb}
use Rattle.device.proofs.Pairs.{false_left, false_right}
use Rattle.inject.specs.declared.Injection.{Injection}
use Rattle.inject.specs.declared.Interruption.{Interruption}
use Rattle.inject.specs.declared.Interruption.TheVariants.{Watchdog}
use Rattle.landing.specs.Ending.{ending_of}
use Rattle.session.specs.declared.Told.{Told}
use Rattle.session.specs.Armed.{Armed}
use Rattle.std.specs.Prelude.{None as Nothing, Some as At}
use Rattle.session.specs.Armed.{armed_on}
use Rattle.session.specs.Log.{mark_of}
use Rattle.records.specs.Records.{RecordMark}
use Rattle.held.specs.Held.{below}
use Rattle.threaded.specs.Threaded.{Session}
use Rattle.script.specs.declared.Head.{Head}
use Rattle.script.specs.Calls.{Call, begin, end, mark, program, erase, barrier}
use Rattle.steps.specs.Writer.{line_answered, Wrote, wrote}
use Rattle.sweeps.specs.Sweep.{told_by}
use Rattle.sweeps.specs.Decided.{range_behind}
use Rattle.sweeps.proofs.Below.{read, shown_all}
use Rattle.sweeps.proofs.OneLine.{is_op, notes_of, Row, Taken, OpView, refuses, takes, op-view, same_line}
use Rattle.sweeps.proofs.InStep.{rows_are, Keeps, keeps-all, keeps_on, line-keeps, note-taken, note-refused, note_test, Together, seen_by, Held, together-held, together-line, count_after, line-answers}

-- ---- a writer at a line

abbrev pub stopped : Session → Wrote
stopped s = record { session = s; failed = true }

pub data Going (t : Told) (co : Bool) (s : Session) (x : Call) (xs : List Call) : Type 0 where
  goes : (co ≡ false → (line_answered t s x).answer ≡ 0) → wrote t co s (x ∷ xs) ≡ wrote t co (line_answered t s x).session xs → Going t co s x xs
  stops : co ≡ false → ((line_answered t s x).answer ≡ 0 → ⊥) → wrote t co s (x ∷ xs) ≡ stopped (line_answered t s x).session → Going t co s x xs

going-by : (t : Told) (co : Bool) (s : Session) (x : Call) (xs : List Call) (b : Bool) → eqb (line_answered t s x).answer 0 ≡ b → Going t co s x xs
unfolding wrote
going-by t co s x xs true e = goes (λ z. eqb-true _ 0 e) (rw e)
going-by t true s x xs false e = goes (λ z. absurd (true≢false z)) (rw e)
going-by t false s x xs false e = stops refl (eqb-false _ 0 e) (rw e)

pub going : (t : Told) (co : Bool) (s : Session) (x : Call) (xs : List Call) → Going t co s x xs
going t co s x xs = going-by t co s x xs (eqb (line_answered t s x).answer 0) refl

-- a writer that did not fail went on
pub record On (t : Told) (s : Session) (x : Call) (xs : List Call) : Type 0 where
  pub answers-0 : (line_answered t s x).answer ≡ 0
  pub on-is : wrote t false s (x ∷ xs) ≡ wrote t false (line_answered t s x).session xs

pub unfailed : (t : Told) (s : Session) (x : Call) (xs : List Call) → (wrote t false s (x ∷ xs)).failed ≡ false → On t s x xs
unfailed t s x xs e = go (going t false s x xs)
  where
    go : Going t false s x xs → On t s x xs
    go (goes z p) = record { answers-0 = z refl; on-is = p }
    go (stops z n p) = absurd (true≢false (sym (ap (λ (w : Wrote). w.failed) p) ∙ e))

-- ---- what a run keeps

pub wrote-keeps : (h : Head) (a : Armed) (co : Bool) (upto : ℕ) (xs : List Call) (s : Session) → upto ≤ s.counters.operations
    → Keeps upto s (wrote (told_by h a) co s xs).session
unfolding wrote
wrote-keeps h a co upto [] s far = keeps-all upto s
wrote-keeps h a co upto (x ∷ xs) s far =
    let k = line-keeps h a upto s x far in
    go k (wrote-keeps h a co upto xs (line_answered (told_by h a) s x).session (le_trans far k.grows)) (going (told_by h a) co s x xs)
  where
    go : Keeps upto s (line_answered (told_by h a) s x).session
        → Keeps upto (line_answered (told_by h a) s x).session (wrote (told_by h a) co (line_answered (told_by h a) s x).session xs).session
        → Going (told_by h a) co s x xs → Keeps upto s (wrote (told_by h a) co s (x ∷ xs)).session
    go k l (goes z e) = rw e (keeps_on upto s _ _ k l)
    go k l (stops z n e) = rw e k

-- ---- ranges marked behind, line by line

-- this line marks a range behind
abbrev behind_by : (operations : ℕ) → Call → Bool
behind_by n x = range_behind n (x ∷ [])

behind-first : (n : ℕ) (x : Call) (xs : List Call) → range_behind n (x ∷ xs) ≡ (behind_by n x || range_behind (count_after n x) xs)
unfolding range_behind
behind-first n (begin id) xs = refl
behind-first n end xs = refl
behind-first n (mark id from to) xs = simp or-false
behind-first n (program offset bytes) xs = refl
behind-first n (erase offset count) xs = refl
behind-first n barrier xs = refl

-- this line marks a range that begins or ends at operation p, which was before it
abbrev hit_by : (p operations : ℕ) → Call → Bool
hit_by p n (begin id) = false
hit_by p n end = false
hit_by p n (mark id from to) = ltb p n && (eqb from p || eqb to p)
hit_by p n (program offset bytes) = false
hit_by p n (erase offset count) = false
hit_by p n barrier = false

unfoldable pub hits : (p operations : ℕ) → List Call → Bool
hits p n [] = false
hits p n (x ∷ xs) = hit_by p n x || hits p (count_after n x) xs

hit-end : (n from to : ℕ) → (ltb from n || ltb to n) ≡ true → (p : ℕ) × ((ltb p n && (eqb from p || eqb to p)) ≡ true)
hit-end n from to e = go (ltb from n) refl
  where
    go : (b : Bool) → ltb from n ≡ b → (p : ℕ) × ((ltb p n && (eqb from p || eqb to p)) ≡ true)
    go true q = (from, rw (q, eq-eqb from from refl))
    go false q = (to, rw (rw q at e, eq-eqb to to refl) (or-true (eqb from to)))

hit-of : (n : ℕ) (x : Call) → behind_by n x ≡ true → (p : ℕ) × (hit_by p n x ≡ true)
unfolding range_behind
hit-of n (begin id) e = absurd (true≢false (sym e))
hit-of n end e = absurd (true≢false (sym e))
hit-of n (mark id from to) e = hit-end n from to (sym (or-false (ltb from n || ltb to n)) ∙ e)
hit-of n (program offset bytes) e = absurd (true≢false (sym e))
hit-of n (erase offset count) e = absurd (true≢false (sym e))
hit-of n barrier e = absurd (true≢false (sym e))

-- a range marked behind has such an operation
pub find-hit : (n : ℕ) (xs : List Call) → range_behind n xs ≡ true → (p : ℕ) × (hits p n xs ≡ true)
unfolding range_behind hits
find-hit n [] e = absurd (true≢false (sym e))
find-hit n (x ∷ xs) e = go (behind_by n x) refl (λ q. find-hit (count_after n x) xs q)
  where
    go : (b : Bool) → behind_by n x ≡ b → (range_behind (count_after n x) xs ≡ true → (p : ℕ) × (hits p (count_after n x) xs ≡ true))
        → (p : ℕ) × ((hit_by p n x || hits p (count_after n x) xs) ≡ true)
    go true q k = let z = hit-of n x q in (z.0, rw z.1)
    go false q k = let z = k (sym (behind-first n x xs ∙ rw q) ∙ e) in (z.0, rw z.1 (or-true (hit_by z.0 n x)))

-- ---- the marks that a line shows

-- marks at or above the end
behind-none : (upto n : ℕ) (x : Call) → upto ≤ n → behind_by n x ≡ false → shown_all upto (notes_of n x) ≡ []
unfolding below range_behind
behind-none upto n (begin id) far e = rw (le-ltb n upto far)
behind-none upto n end far e = rw (le-ltb n upto far)
behind-none upto n (mark id from to) far e =
    let c : (ltb from n || ltb to n) ≡ false = sym (or-false (ltb from n || ltb to n)) ∙ e in
    let a : n ≤ from = ltb-false from n (false_left (ltb from n) (ltb to n) c) in
    let b : n ≤ to = ltb-false to n (false_right (ltb from n) (ltb to n) c) in
    rw (le-ltb from upto (le_trans far a), le-ltb to upto (le_trans far b))
behind-none upto n (program offset bytes) far e = refl
behind-none upto n (erase offset count) far e = refl
behind-none upto n barrier far e = refl

and_right : (a b : Bool) → (a && b) ≡ true → b ≡ true
and_right true b e = e
and_right false b e = absurd (true≢false (sym e))

and_left : (a b : Bool) → (a && b) ≡ true → a ≡ true
and_left true b e = refl
and_left false b e = e

-- two marks, each shown or not
abbrev two : (m n : RecordMark) (a b : Bool) → List RecordMark
two m n a b = cond a (m ∷ cond b (n ∷ []) []) (cond b (n ∷ []) [])

later : (m n : RecordMark) (a : Bool) → 0 < length (two m n a true)
later m n true = omega arith
later m n false = omega arith

-- a range's end at operation p is shown
hit-some : (p n : ℕ) (x : Call) → hit_by p n x ≡ true → 0 < length (shown_all (suc p) (notes_of n x))
unfolding below
hit-some p n (begin id) e = absurd (true≢false (sym e))
hit-some p n end e = absurd (true≢false (sym e))
hit-some p n (mark id from to) e = go (eqb from p) refl (and_right (ltb p n) (eqb from p || eqb to p) e)
  where
    go : (b : Bool) → eqb from p ≡ b → (b || eqb to p) ≡ true → 0 < length (two (read (mark_of 1 id from)) (read (mark_of 0 0 to)) (ltb from (suc p)) (ltb to (suc p)))
    go true q w = let k : from ≡ p = eqb-true from p q in rw (lt-ltb from (suc p) (omega arith)) (omega arith)
    go false q w = let k : to ≡ p = eqb-true to p w in rw (lt-ltb to (suc p) (omega arith)) (later _ _ (ltb from (suc p)))
hit-some p n (program offset bytes) e = absurd (true≢false (sym e))
hit-some p n (erase offset count) e = absurd (true≢false (sym e))
hit-some p n barrier e = absurd (true≢false (sym e))

hit-below : (p n : ℕ) (x : Call) → hit_by p n x ≡ true → p < n
hit-below p n (begin id) e = absurd (true≢false (sym e))
hit-below p n end e = absurd (true≢false (sym e))
hit-below p n (mark id from to) e = ltb-true p n (and_left (ltb p n) (eqb from p || eqb to p) e)
hit-below p n (program offset bytes) e = absurd (true≢false (sym e))
hit-below p n (erase offset count) e = absurd (true≢false (sym e))
hit-below p n barrier e = absurd (true≢false (sym e))

-- ---- the fault-free run on its own, of a writer that stops at errors and met none

module _ (h : Head) (a : Armed) where
  abbrev next : Session → Call → Session
  next s x = (line_answered (told_by h a) s x).session

  abbrev whole : Session → List Call → Wrote
  whole s xs = wrote (told_by h a) false s xs

  -- no range behind: the marks below an end stay
  seen-kept : (upto : ℕ) (xs : List Call) (s : Session) → upto ≤ s.counters.operations → (whole s xs).failed ≡ false
      → range_behind s.counters.operations xs ≡ false → seen_by upto (whole s xs).session ≡ seen_by upto s
  unfolding wrote
  seen-kept upto [] s far e b = refl
  seen-kept upto (x ∷ xs) s far e b =
      let n : ℕ = s.counters.operations in
      let o = unfailed (told_by h a) s x xs e in
      let y = line-answers h a upto s x o.answers-0 in
      let k = line-keeps h a upto s x far in
      let c : (behind_by n x || range_behind (count_after n x) xs) ≡ false = sym (behind-first n x xs) ∙ b in
      let d : range_behind (next s x).counters.operations xs ≡ false = rw y.count-is (false_right (behind_by n x) _ c) in
      ap (λ (w : Wrote). seen_by upto w.session) o.on-is
      ∙ seen-kept upto xs (next s x) (le_trans far k.grows) (sym (ap (λ (w : Wrote). w.failed) o.on-is) ∙ e) d
      ∙ y.seen-is ∙ ap (λ (l : List RecordMark). seen_by upto s ++ l) (behind-none upto n x far (false_left (behind_by n x) _ c)) ∙ append-nil (seen_by upto s)

  -- marks are never lost
  seen-grows : (upto : ℕ) (xs : List Call) (s : Session) → (whole s xs).failed ≡ false → length (seen_by upto s) ≤ length (seen_by upto (whole s xs).session)
  unfolding wrote
  seen-grows upto [] s e = le_refl _
  seen-grows upto (x ∷ xs) s e =
      let o = unfailed (told_by h a) s x xs e in
      let y = line-answers h a upto s x o.answers-0 in
      let one : length (seen_by upto (next s x)) ≡ length (seen_by upto s) + length (shown_all upto (notes_of s.counters.operations x)) =
      ap length y.seen-is ∙ length-append (seen_by upto s) _ in
      let rest = seen-grows upto xs (next s x) (sym (ap (λ (w : Wrote). w.failed) o.on-is) ∙ e) in
      let all : length (seen_by upto (whole s (x ∷ xs)).session) ≡ length (seen_by upto (whole (next s x) xs).session) =
      ap (λ (w : Wrote). length (seen_by upto w.session)) o.on-is in
      rw all (le_trans (first _ _ _ one) rest)
    where
      first : (b c d : ℕ) → b ≡ c + d → c ≤ b
      first b c d q = omega arith

  -- a range behind: there is a mark more
  seen_more : (p : ℕ) (xs : List Call) (s : Session) → (whole s xs).failed ≡ false → hits p s.counters.operations xs ≡ true
      → length (seen_by (suc p) s) < length (seen_by (suc p) (whole s xs).session)
  unfolding wrote hits
  seen_more p [] s e b = absurd (true≢false (sym b))
  seen_more p (x ∷ xs) s e b =
      let n : ℕ = s.counters.operations in
      let o = unfailed (told_by h a) s x xs e in
      let y = line-answers h a (suc p) s x o.answers-0 in
      let one : length (seen_by (suc p) (next s x)) ≡ length (seen_by (suc p) s) + length (shown_all (suc p) (notes_of n x)) =
      ap length y.seen-is ∙ length-append (seen_by (suc p) s) _ in
      let f : (whole (next s x) xs).failed ≡ false = sym (ap (λ (w : Wrote). w.failed) o.on-is) ∙ e in
      let all : length (seen_by (suc p) (whole s (x ∷ xs)).session) ≡ length (seen_by (suc p) (whole (next s x) xs).session) =
      ap (λ (w : Wrote). length (seen_by (suc p) w.session)) o.on-is in
      rw all
      (go (hit_by p n x) refl _ _ _ _ one (hit-some p n x) (seen-grows (suc p) xs (next s x) f)
      (λ q. seen_more p xs (next s x) f (rw y.count-is (sym (ap (λ (z : Bool). z || hits p (count_after n x) xs) q) ∙ b))))
    where
      go : (z : Bool) → hit_by p s.counters.operations x ≡ z → (b c d all : ℕ) → b ≡ c + d → (hit_by p s.counters.operations x ≡ true → 0 < d) → b ≤ all
          → (hit_by p s.counters.operations x ≡ false → b < all) → c < all
      go true q b c d all u v w k = let r = v q in omega arith
      go false q b c d all u v w k = let r = k q in omega arith

  -- and the operation is one of the run's
  hits-below : (p : ℕ) (xs : List Call) (s : Session) → (whole s xs).failed ≡ false → hits p s.counters.operations xs ≡ true
      → p < (whole s xs).session.counters.operations
  unfolding wrote hits
  hits-below p [] s e b = absurd (true≢false (sym b))
  hits-below p (x ∷ xs) s e b =
      let n : ℕ = s.counters.operations in
      let o = unfailed (told_by h a) s x xs e in
      let y = line-answers h a (suc p) s x o.answers-0 in
      let f : (whole (next s x) xs).failed ≡ false = sym (ap (λ (w : Wrote). w.failed) o.on-is) ∙ e in
      let all : (whole s (x ∷ xs)).session.counters.operations ≡ (whole (next s x) xs).session.counters.operations =
      ap (λ (w : Wrote). w.session.counters.operations) o.on-is in
      let k = wrote-keeps h a false 0 (x ∷ xs) s (omega arith) in
      go (hit_by p n x) refl k.grows
      (λ q. rw all (hits-below p xs (next s x) f (rw y.count-is (sym (ap (λ (z : Bool). z || hits p (count_after n x) xs) q) ∙ b))))
    where
      go : (z : Bool) → hit_by p s.counters.operations x ≡ z → s.counters.operations ≤ (whole s (x ∷ xs)).session.counters.operations
          → (hit_by p s.counters.operations x ≡ false → p < (whole s (x ∷ xs)).session.counters.operations)
          → p < (whole s (x ∷ xs)).session.counters.operations
      go true q k later = let r : p < s.counters.operations = hit-below p s.counters.operations x q in omega arith
      go false q k later = later q

-- ---- both runs after the injection

-- carrying on
together-on : (h : Head) (upto : ℕ) (a b : Armed) (xs : List Call) (f r : Session) → Together upto f r
    → Together upto (wrote (told_by h a) true f xs).session (wrote (told_by h b) true r xs).session
unfolding wrote
together-on h upto a b [] f r z = z
together-on h upto a b (x ∷ xs) f r z =
    rw (or-true (eqb (line_answered (told_by h a) f x).answer 0), or-true (eqb (line_answered (told_by h b) r x).answer 0))
    (together-on h upto a b xs _ _ (together-line h upto f r x a b z))

-- the run has stopped, and the fault-free one goes on
held-alone : (h : Head) (upto : ℕ) (a : Armed) (xs : List Call) (f r : Session) → Held upto f r → (wrote (told_by h a) false f xs).failed ≡ false
    → range_behind f.counters.operations xs ≡ false → Held upto (wrote (told_by h a) false f xs).session r
held-alone h upto a xs f r z e b =
    let k = wrote-keeps h a false upto xs f z.f-far in
    record {
      fired = z.fired;
      f-far = le_trans z.f-far k.grows;
      r-far = z.r-far;
      rows_same = k.rows-kept ∙ z.rows_same;
      marks-same = seen-kept h a upto xs f z.f-far e b ∙ z.marks-same;
    }

-- both go on until the run stops
together-until : (h : Head) (upto : ℕ) (a b : Armed) (xs : List Call) (f r : Session) → Together upto f r → (wrote (told_by h a) false f xs).failed ≡ false
    → range_behind f.counters.operations xs ≡ false → Held upto (wrote (told_by h a) false f xs).session (wrote (told_by h b) false r xs).session
unfolding wrote
together-until h upto a b [] f r z e q = together-held upto f r z
together-until h upto a b (x ∷ xs) f r z e q =
    let n : ℕ = f.counters.operations in
    let o = unfailed (told_by h a) f x xs e in
    let y = line-answers h a upto f x o.answers-0 in
    let f' : Session = (line_answered (told_by h a) f x).session in
    let r' : Session = (line_answered (told_by h b) r x).session in
    let z' : Together upto f' r' = together-line h upto f r x a b z in
    let e' : (wrote (told_by h a) false f' xs).failed ≡ false = sym (ap (λ (w : Wrote). w.failed) o.on-is) ∙ e in
    let q' : range_behind f'.counters.operations xs ≡ false = rw y.count-is (false_right (behind_by n x) _ (sym (behind-first n x xs) ∙ q)) in
    go o.on-is (together-until h upto a b xs f' r' z' e' q') (held-alone h upto a xs f' r' (together-held upto f' r' z') e' q') (going (told_by h b) false r x xs)
  where
    go : wrote (told_by h a) false f (x ∷ xs) ≡ wrote (told_by h a) false (line_answered (told_by h a) f x).session xs
        → Held upto (wrote (told_by h a) false (line_answered (told_by h a) f x).session xs).session (wrote (told_by h b) false (line_answered (told_by h b) r x).session xs).session
        → Held upto (wrote (told_by h a) false (line_answered (told_by h a) f x).session xs).session (line_answered (told_by h b) r x).session
        → Going (told_by h b) false r x xs
        → Held upto (wrote (told_by h a) false f (x ∷ xs)).session (wrote (told_by h b) false r (x ∷ xs)).session
    go p on alone (goes i w) = rw (p, w) on
    go p on alone (stops i k w) = rw (p, w) alone

-- ---- the injection is met

module _ (h : Head) (j : Injection) where
  abbrev free : Told
  free = told_by h Nothing

  abbrev hit : Told
  hit = told_by h (At j)

  -- the line whose operation it is armed on: taken in both runs
  pub record Parted (s : Session) (x : Call) : Type 0 where
    pub together : Together (suc j.op) (line_answered free s x).session (line_answered hit s x).session
    pub plain-answers : (line_answered free s x).answer ≡ 0
    pub completed : Bool
    pub armed-answers : (line_answered hit s x).answer ≡ (ending_of j.interruption completed).answer

  -- a line before it: the same in both runs
  pub record Before (s : Session) (x : Call) : Type 0 where
    pub same : line_answered hit s x ≡ line_answered free s x
    pub few : (line_answered free s x).session.counters.operations ≤ j.op

  parted : (s : Session) (x : Call) (w : Row) (a : Armed) → j.op ≡ s.counters.operations → a ≡ At j → Taken s w Nothing (line_answered free s x)
      → Taken s w a (line_answered hit s x) → Parted s x
  parted s x w a i e p q =
      let upto : ℕ = suc j.op in
      record {
        together = record {
          fired = q.fired-is ∙ rw e;
          f-far = rw p.operations-is (omega arith);
          r-far = rw q.operations-is (omega arith);
          rows_same = rows_are (ap (take upto) (p.kinds-is ∙ sym q.kinds-is)) (ap (take upto) (p.offsets-is ∙ sym q.offsets-is))
              (ap (take upto) (p.lens-is ∙ sym q.lens-is)) (ap (take upto) (p.digests-is ∙ sym q.digests-is));
          count_same = p.count_kept ∙ sym q.count_kept;
          marks-same = rw (p.marks-kept, q.marks-kept) (record { codes_same = refl; ids-same = refl; places_same = refl });
        };
        plain-answers = p.answer-is;
        completed = q.completed;
        armed-answers = q.answer-is ∙ rw e;
      }

  op-first : (s : Session) (x : Call) → s.counters.operations ≤ j.op → OpView h s x → (b : Bool) → eqb j.op s.counters.operations ≡ b
      → Before s x ⊎ Parted s x
  op-first s x few (refuses k z e) b i =
      inl (record { same = e (At j) ∙ sym (e Nothing); few = rw (e Nothing) few })
  op-first s x few (takes w t) true i =
      inr (parted s x w (armed_on (At j) s.counters.operations) (eqb-true j.op s.counters.operations i) (rw i) (t Nothing) (t (At j)))
  op-first s x few (takes w t) false i =
      let d = eqb-false j.op s.counters.operations i in
      inl (record {
        same = same_line h s x (At j) Nothing (rw i);
        few = rw (t Nothing).operations-is (below s.counters.operations j.op few d);
      })
    where
      below : (n i : ℕ) → n ≤ i → (i ≡ n → ⊥) → suc n ≤ i
      below n i u v = omega arith

  note-first : (s : Session) (x : Call) → s.counters.operations ≤ j.op → is_op x ≡ false → (k : ℕ) → note_test s x ≡ k → Before s x
  note-first s x few o zero e =
      record { same = note-taken hit s x o e ∙ sym (note-taken free s x o e); few = rw (note-taken free s x o e) few }
  note-first s x few o (suc k) e =
      record { same = note-refused hit s x o k e ∙ sym (note-refused free s x o k e); few = rw (note-refused free s x o k e) few }

  first-line : (s : Session) (x : Call) → s.counters.operations ≤ j.op → Before s x ⊎ Parted s x
  first-line s x few = go (is_op x) refl
    where
      go : (b : Bool) → is_op x ≡ b → Before s x ⊎ Parted s x
      go true e = op-first s x few (op-view h s x e) (eqb j.op s.counters.operations) refl
      go false e = inl (note-first s x few e (note_test s x) refl)

  -- the runs are one until that line; a range marked behind comes after it, unless there is none
  pub record Met (co : Bool) (s : Session) (xs : List Call) : Type 0 where
    pub before : Session
    pub line : Call
    pub rest : List Call
    pub plain-is : wrote free co s xs ≡ wrote free co before (line ∷ rest)
    pub armed-is : wrote hit co s xs ≡ wrote hit co before (line ∷ rest)
    pub is-parted : Parted before line
    pub stays-clear : co ≡ false → range_behind s.counters.operations xs ≡ false
        → range_behind (line_answered free before line).session.counters.operations rest ≡ false
    pub stays-hit : co ≡ false → hits j.op s.counters.operations xs ≡ true
        → hits j.op (line_answered free before line).session.counters.operations rest ≡ true

  -- or it is never met
  pub record Never (co : Bool) (s : Session) (xs : List Call) : Type 0 where
    pub same : wrote hit co s xs ≡ wrote free co s xs
    pub few : (wrote free co s xs).session.counters.operations ≤ j.op

  -- where the lines were taken, the operations of a script are counted by its lines
  clear_next : (s : Session) (x : Call) (xs : List Call) → (line_answered free s x).answer ≡ 0 → range_behind s.counters.operations (x ∷ xs) ≡ false
      → range_behind (line_answered free s x).session.counters.operations xs ≡ false
  clear_next s x xs z b =
      let n : ℕ = s.counters.operations in
      let y = line-answers h Nothing 0 s x z in
      rw y.count-is (false_right (behind_by n x) _ (sym (behind-first n x xs) ∙ b))

  not_yet : (p n : ℕ) (x : Call) → n ≤ p → hit_by p n x ≡ false
  not_yet p n (begin id) k = refl
  not_yet p n end k = refl
  not_yet p n (mark id from to) k = rw (le-ltb p n k)
  not_yet p n (program offset bytes) k = refl
  not_yet p n (erase offset count) k = refl
  not_yet p n barrier k = refl

  hit-next : (s : Session) (x : Call) (xs : List Call) → s.counters.operations ≤ j.op → (line_answered free s x).answer ≡ 0
      → hits j.op s.counters.operations (x ∷ xs) ≡ true → hits j.op (line_answered free s x).session.counters.operations xs ≡ true
  unfolding hits
  hit-next s x xs few z b =
      let n : ℕ = s.counters.operations in
      let y = line-answers h Nothing 0 s x z in
      rw y.count-is (sym (ap (λ (v : Bool). v || hits j.op (count_after n x) xs) (not_yet j.op n x few)) ∙ b)

  -- a line that is the same in both: both go on, or both stop
  module _ (co : Bool) (s : Session) (x : Call) (xs : List Call) (z : Before s x) where
    abbrev next-session : Session
    next-session = (line_answered free s x).session

    stops-both : (eqb (line_answered free s x).answer 0 || co) ≡ false → Never co s (x ∷ xs)
    unfolding wrote
    stops-both b = record { same = rw (z.same, b); few = rw b z.few }

    goes-never : (eqb (line_answered free s x).answer 0 || co) ≡ true → Never co next-session xs → Never co s (x ∷ xs)
    unfolding wrote
    goes-never b n = record { same = rw (z.same, b) n.same; few = rw b n.few }

    free_on : (eqb (line_answered free s x).answer 0 || co) ≡ true → wrote free co s (x ∷ xs) ≡ wrote free co next-session xs
    unfolding wrote
    free_on b = rw b

    hit-on : (eqb (line_answered free s x).answer 0 || co) ≡ true → wrote hit co s (x ∷ xs) ≡ wrote hit co next-session xs
    unfolding wrote
    hit-on b = rw (z.same, b)

    answers : (eqb (line_answered free s x).answer 0 || co) ≡ true → co ≡ false → (line_answered free s x).answer ≡ 0
    answers b c = eqb-true _ 0 (either (eqb (line_answered free s x).answer 0) co b c)
      where
        either : (u v : Bool) → (u || v) ≡ true → v ≡ false → u ≡ true
        either true v p q = refl
        either false v p q = sym q ∙ p

    goes-met : s.counters.operations ≤ j.op → (eqb (line_answered free s x).answer 0 || co) ≡ true → Met co next-session xs → Met co s (x ∷ xs)
    goes-met few b m = record {
      before = m.before;
      line = m.line;
      rest = m.rest;
      plain-is = free_on b ∙ m.plain-is;
      armed-is = hit-on b ∙ m.armed-is;
      is-parted = m.is-parted;
      stays-clear = λ c q. m.stays-clear c (clear_next s x xs (answers b c) q);
      stays-hit = λ c q. m.stays-hit c (hit-next s x xs few (answers b c) q);
    }

  here : (co : Bool) (s : Session) (x : Call) (xs : List Call) → s.counters.operations ≤ j.op → Parted s x → Met co s (x ∷ xs)
  here co s x xs few p = record {
    before = s;
    line = x;
    rest = xs;
    plain-is = refl;
    armed-is = refl;
    is-parted = p;
    stays-clear = λ c q. clear_next s x xs p.plain-answers q;
    stays-hit = λ c q. hit-next s x xs few p.plain-answers q;
  }

  pub reach : (co : Bool) (xs : List Call) (s : Session) → s.counters.operations ≤ j.op → Never co s xs ⊎ Met co s xs
  unfolding wrote
  reach co [] s few = inl (record { same = refl; few = few })
  reach co (x ∷ xs) s few =
      go (first-line s x few) (eqb (line_answered free s x).answer 0 || co) refl (λ k. reach co xs (line_answered free s x).session k)
    where
      on : (z : Before s x) → (eqb (line_answered free s x).answer 0 || co) ≡ true → Never co (line_answered free s x).session xs ⊎ Met co (line_answered free s x).session xs
          → Never co s (x ∷ xs) ⊎ Met co s (x ∷ xs)
      on z b (inl n) = inl (goes-never co s x xs z b n)
      on z b (inr m) = inr (goes-met co s x xs z few b m)

      go : Before s x ⊎ Parted s x → (b : Bool) → (eqb (line_answered free s x).answer 0 || co) ≡ b
          → ((line_answered free s x).session.counters.operations ≤ j.op → Never co (line_answered free s x).session xs ⊎ Met co (line_answered free s x).session xs)
          → Never co s (x ∷ xs) ⊎ Met co s (x ∷ xs)
      go (inr p) b e k = inr (here co s x xs few p)
      go (inl z) true e k = on z e (k z.few)
      go (inl z) false e k = inl (stops-both co s x xs z e)

-- ---- how the two runs end

after_line : (h : Head) (a : Armed) (co : Bool) (upto : ℕ) (s : Session) (x : Call) (xs : List Call) → upto ≤ (line_answered (told_by h a) s x).session.counters.operations
    → Keeps upto (line_answered (told_by h a) s x).session (wrote (told_by h a) co s (x ∷ xs)).session
after_line h a co upto s x xs far = go (going (told_by h a) co s x xs)
  where
    go : Going (told_by h a) co s x xs → Keeps upto (line_answered (told_by h a) s x).session (wrote (told_by h a) co s (x ∷ xs)).session
    go (goes z e) = rw e (wrote-keeps h a co upto xs (line_answered (told_by h a) s x).session far)
    go (stops z n e) = rw e (keeps-all upto (line_answered (told_by h a) s x).session)

carried : (t : Told) (s : Session) (x : Call) (xs : List Call) → wrote t true s (x ∷ xs) ≡ wrote t true (line_answered t s x).session xs
unfolding wrote
carried t s x xs = rw (or-true (eqb (line_answered t s x).answer 0))

-- the injection fired on one of the operations
pub record Fired (j : Injection) (f r : Session) : Type 0 where
  pub fired : r.counters.fired ≡ true
  pub f-far : suc j.op ≤ f.counters.operations
  pub r-far : suc j.op ≤ r.counters.operations

-- and the run has fewer marks than the fault-free one below the end
pub record Fewer (j : Injection) (f r : Session) : Type 0 where
  pub is-fired : Fired j f r
  pub fewer : length (seen_by (suc j.op) r) < length (seen_by (suc j.op) f)

module _ (h : Head) (j : Injection) (xs : List Call) (s : Session) where
  met-fired : (co : Bool) → Met h j co s xs → Fired j (wrote (told_by h Nothing) co s xs).session (wrote (told_by h (At j)) co s xs).session
  met-fired co m =
      let z = m.is-parted.together in
      let k = after_line h Nothing co (suc j.op) m.before m.line m.rest z.f-far in
      let l = after_line h (At j) co (suc j.op) m.before m.line m.rest z.r-far in
      rw (m.plain-is, m.armed-is)
      (record { fired = l.stays-fired z.fired; f-far = le_trans z.f-far k.grows; r-far = le_trans z.r-far l.grows })

  met-carried : Met h j true s xs → Held (suc j.op) (wrote (told_by h Nothing) true s xs).session (wrote (told_by h (At j)) true s xs).session
  met-carried m =
      let f' = (line_answered (told_by h Nothing) m.before m.line).session in
      let r' = (line_answered (told_by h (At j)) m.before m.line).session in
      rw (m.plain-is, m.armed-is, carried (told_by h Nothing) m.before m.line m.rest, carried (told_by h (At j)) m.before m.line m.rest)
      (together-held (suc j.op) _ _ (together-on h (suc j.op) Nothing (At j) m.rest f' r' m.is-parted.together))

  module _ (e : (wrote (told_by h Nothing) false s xs).failed ≡ false) (m : Met h j false s xs) where
    abbrev f' : Session
    f' = (line_answered (told_by h Nothing) m.before m.line).session

    abbrev r' : Session
    r' = (line_answered (told_by h (At j)) m.before m.line).session

    met-on : On (told_by h Nothing) m.before m.line m.rest
    met-on = unfailed (told_by h Nothing) m.before m.line m.rest (sym (ap (λ (w : Wrote). w.failed) m.plain-is) ∙ e)

    rest-unfailed : (wrote (told_by h Nothing) false f' m.rest).failed ≡ false
    rest-unfailed = sym (ap (λ (w : Wrote). w.failed) (m.plain-is ∙ met-on.on-is)) ∙ e

    met-stopped : range_behind s.counters.operations xs ≡ false → Going (told_by h (At j)) false m.before m.line m.rest
        → Held (suc j.op) (wrote (told_by h Nothing) false s xs).session (wrote (told_by h (At j)) false s xs).session
    met-stopped b (goes z p) =
        rw (m.plain-is, m.armed-is, met-on.on-is, p)
        (together-until h (suc j.op) Nothing (At j) m.rest f' r' m.is-parted.together rest-unfailed (m.stays-clear refl b))
    met-stopped b (stops z n p) =
        rw (m.plain-is, m.armed-is, met-on.on-is, p)
        (held-alone h (suc j.op) Nothing m.rest f' r' (together-held (suc j.op) f' r' m.is-parted.together) rest-unfailed (m.stays-clear refl b))

    met-fewer : j.interruption ≡ Watchdog → hits j.op s.counters.operations xs ≡ true → Going (told_by h (At j)) false m.before m.line m.rest
        → length (seen_by (suc j.op) (wrote (told_by h (At j)) false s xs).session) < length (seen_by (suc j.op) (wrote (told_by h Nothing) false s xs).session)
    met-fewer w b (goes z p) = absurd (not-zero m.is-parted.completed (sym (ap (λ (i : Interruption). (ending_of i m.is-parted.completed).answer) w) ∙ sym m.is-parted.armed-answers ∙ z refl))
      where
        not-zero : (c : Bool) → (ending_of Watchdog c).answer ≡ 0 → ⊥
        not-zero true q = suc-ne-zero 21 q
        not-zero false q = suc-ne-zero 21 q
    met-fewer w b (stops z n p) =
        rw (m.plain-is, m.armed-is, met-on.on-is, p, ← (together-held (suc j.op) f' r' m.is-parted.together).marks-same)
        (seen_more h Nothing j.op m.rest f' rest-unfailed (m.stays-hit refl b))

  module _ (few : s.counters.operations ≤ j.op) where
    pub fired-or-never : (co : Bool) → Never h j co s xs ⊎ Fired j (wrote (told_by h Nothing) co s xs).session (wrote (told_by h (At j)) co s xs).session
    fired-or-never co = go (reach h j co xs s few)
      where
        go : Never h j co s xs ⊎ Met h j co s xs → Never h j co s xs ⊎ Fired j (wrote (told_by h Nothing) co s xs).session (wrote (told_by h (At j)) co s xs).session
        go (inl n) = inl n
        go (inr m) = inr (met-fired co m)

    pub carried-or-never : Never h j true s xs ⊎ Held (suc j.op) (wrote (told_by h Nothing) true s xs).session (wrote (told_by h (At j)) true s xs).session
    carried-or-never = go (reach h j true xs s few)
      where
        go : Never h j true s xs ⊎ Met h j true s xs → Never h j true s xs ⊎ Held (suc j.op) (wrote (told_by h Nothing) true s xs).session (wrote (told_by h (At j)) true s xs).session
        go (inl n) = inl n
        go (inr m) = inr (met-carried m)

    module _ (e : (wrote (told_by h Nothing) false s xs).failed ≡ false) where
      pub held-or-never : range_behind s.counters.operations xs ≡ false → Never h j false s xs ⊎ Held (suc j.op) (wrote (told_by h Nothing) false s xs).session (wrote (told_by h (At j)) false s xs).session
      held-or-never b = go (reach h j false xs s few)
        where
          go : Never h j false s xs ⊎ Met h j false s xs → Never h j false s xs ⊎ Held (suc j.op) (wrote (told_by h Nothing) false s xs).session (wrote (told_by h (At j)) false s xs).session
          go (inl n) = inl n
          go (inr m) = inr (met-stopped e m b (going (told_by h (At j)) false m.before m.line m.rest))

      pub fewer-marks : j.interruption ≡ Watchdog → hits j.op s.counters.operations xs ≡ true → Fewer j (wrote (told_by h Nothing) false s xs).session (wrote (told_by h (At j)) false s xs).session
      fewer-marks w b = go (reach h j false xs s few)
        where
          go : Never h j false s xs ⊎ Met h j false s xs → Fewer j (wrote (told_by h Nothing) false s xs).session (wrote (told_by h (At j)) false s xs).session
          go (inl n) = absurd (let k = hits-below h Nothing j.op xs s e b in let l = n.few in omega arith)
          go (inr m) = record { is-fired = met-fired false m; fewer = met-fewer e m w b (going (told_by h (At j)) false m.before m.line m.rest) }
