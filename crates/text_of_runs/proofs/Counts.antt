-- A sweep has at most 50,337,794 crash points, so that places and counts are far below 2^64.
--     span-inside     a span that passes its test is no longer than the media
--     run-lens        no operation that a script's run recorded is longer than the media
--     points-few      how many crash points the fault-free run has at most
-- Assumes nothing.
use mathlib.Core.Path.{◌≡◌, refl, ap, ◌∙◌}
use mathlib.Core.Bool.{Bool, true, false, cond, ◌&&◌, ◌||◌}
use mathlib.Core.List.{List, [], ◌∷◌, ◌++◌, map}
use Prim.Native.Nat.{ℕ, zero, suc, ◌+◌, ◌*◌, ◌%◌, ◌^◌, ◌≤◌, zero-le}
use native.Mathlib.Nat.{le_refl, le_trans}
use native.Mathlib.Omega.{arith}
use Rattle.std.proofs.lemmas.Bool.{and_parts}
use lib.ListN.{length, take, set, length-append, length-map}
use lib.Seq.{length-take-le}
use lib.Dec.{eqb, leb, ltb}
use borrow.Author.Tests.{eqb-true, leb-true, le-leb}
use Rattle.basics.specs.Tests.{unless, first_of}
use Rattle.basics.proofs.Tests.{unless-zero, first_of-zero}
use Rattle.storage.specs.declared.Geometry.{Geometry}
use Rattle.storage.specs.Geometry.{geometry_test}
use Rattle.storage.specs.Span.{span_test, program_test, erase_test}
use Rattle.inject.specs.declared.Op.{Op}
use Rattle.inject.specs.declared.Op.TheVariants.{Program, Erase, Barrier}
use Rattle.inject.specs.declared.Progress.{Progress}
use Rattle.inject.specs.declared.Progress.TheVariants.{Bytes}
use Rattle.inject.specs.declared.Interruption.{Interruption}
use Rattle.inject.specs.declared.Interruption.TheVariants.{PowerLoss, Watchdog, Failure}
use Rattle.inject.specs.declared.Injection.{Injection}
use Rattle.inject.specs.Ops.{op_of, ops_of, len_of}
use Rattle.inject.specs.Points.{multiples, inner, byte_points, none_point, whole_span, whole_point, progresses, point, under, lone, injections_of}
use Rattle.landing.specs.Ending.{stop_number}
use Rattle.model.specs.Columns.{all_up_to}
use Rattle.session.specs.declared.Told.{Told}
use Rattle.session.specs.Armed.{Armed}
use Rattle.session.specs.Log.{Log}
use Rattle.session.specs.Tests.{size_test, log_test, operation_test}
use Rattle.session.specs.Written.{Written}
use Rattle.session.specs.Barrier.{Ordered, ordered_by, barrier_test, barrier_reply, barriered}
use Rattle.session_erase.specs.Erase.{erase_number, erase_number_of, erase_plan, erase_taken, erase_call}
use Rattle.session_program.specs.Program.{span_number, bit_test, program_number, program_number_of, program_plan, program_taken, program_call}
use Rattle.threaded.specs.Threaded.{Session}
use Rattle.script.specs.declared.Head.{Head}
use Rattle.script.specs.Calls.{Call, begin, end, mark, program, erase, barrier}
use Rattle.steps.specs.Writer.{line_answered, Wrote, wrote}
use Rattle.sweeps.specs.Sweep.{told_by, opened_by, run_by, points_of}
use Rattle.text_of_runs.specs.Steady.{Steady}
use Rattle.text_of_runs.proofs.Codes.{set_known, take-known, zeros-known}
use Rattle.text_of_runs.proofs.Steady.{run-steady}

-- ---- lengths

pub span-inside : (g : Geometry) (unit offset len : ℕ) → span_test g unit offset len ≡ 0 → len ≤ g.capacity
unfolding span_test
span-inside g unit offset len e =
    let inside = ltb (offset + len) (2 ^ 32) && leb (offset + len) g.capacity in
    let a = unless (eqb (offset % unit) 0) 4 in
    let b = unless (eqb (len % unit) 0) 5 in
    let c = unless inside 6 in
    let one = first_of-zero (geometry_test g) (a ∷ b ∷ c ∷ []) e in
    let two = first_of-zero a (b ∷ c ∷ []) one.1 in
    let three = first_of-zero b (c ∷ []) two.1 in
    let four = first_of-zero c [] three.1 in
    let k = leb-true (offset + len) g.capacity (and_parts (ltb (offset + len) (2 ^ 32)) (leb (offset + len) g.capacity) (unless-zero inside 5 four.0)).1 in
    omega arith

-- every length recorded is at most so much
abbrev LensTo : (top : ℕ) → Session → Type 0
LensTo top s = all_up_to top s.log.lens ≡ true

module _ (t : Told) (top : ℕ) (small : t.geometry.capacity ≤ top) (s : Session) (z : LensTo top s) where
  stored : (len : ℕ) → len ≤ t.geometry.capacity → all_up_to top (set s.log.lens s.counters.operations len) ≡ true
  stored len h = set_known top s.log.lens s.counters.operations len (le-leb len top (le_trans h small)) z

  write-either : (number : ℕ) (taken : Log) → (number ≡ 0 → all_up_to top taken.lens ≡ true) → (b : Bool) → eqb number 0 ≡ b → all_up_to top (cond b taken s.log).lens ≡ true
  write-either number taken y true e = y (eqb-true number 0 e)
  write-either number taken y false e = z

  cond-log : (b : Bool) (w v : Written) → (cond b w v).log ≡ cond b w.log v.log
  cond-log true w v = refl
  cond-log false w v = refl

  cond-order : (b : Bool) (w v : Ordered) → (cond b w v).log ≡ cond b w.log v.log
  cond-order true w v = refl
  cond-order false w v = refl

  program-len : (offset : ℕ) (bytes : List ℕ) → program_number_of t s.counters offset bytes s.media s.copy s.log ≡ 0 → length bytes ≤ t.geometry.capacity
  unfolding program_number span_number
  program-len offset bytes e =
      let short = unless (ltb (length bytes) (2 ^ 32)) 6 in
      let whole = program_test t.geometry offset (length bytes) in
      let span = first_of (geometry_test t.geometry ∷ short ∷ whole ∷ []) in
      let bit = bit_test t.bits s.media offset bytes in
      let full = operation_test s.counters.operations in
      let stop = stop_number s.counters.stop in
      let one = first_of-zero (size_test t.geometry (length s.media) (length s.copy)) (log_test s.log ∷ stop ∷ span ∷ bit ∷ full ∷ []) e in
      let two = first_of-zero (log_test s.log) (stop ∷ span ∷ bit ∷ full ∷ []) one.1 in
      let three = first_of-zero stop (span ∷ bit ∷ full ∷ []) two.1 in
      let four = first_of-zero span (bit ∷ full ∷ []) three.1 in
      let five = first_of-zero (geometry_test t.geometry) (short ∷ whole ∷ []) four.0 in
      let six = first_of-zero short (whole ∷ []) five.1 in
      span-inside t.geometry t.geometry.program_size offset (length bytes) (first_of-zero whole [] six.1).0

  erase-len : (offset len : ℕ) → erase_number_of t s.counters offset len s.media s.copy s.log ≡ 0 → len ≤ t.geometry.capacity
  unfolding erase_number
  erase-len offset len e =
      let span = erase_test t.geometry offset len in
      let full = operation_test s.counters.operations in
      let stop = stop_number s.counters.stop in
      let one = first_of-zero (size_test t.geometry (length s.media) (length s.copy)) (log_test s.log ∷ stop ∷ span ∷ full ∷ []) e in
      let two = first_of-zero (log_test s.log) (stop ∷ span ∷ full ∷ []) one.1 in
      let three = first_of-zero stop (span ∷ full ∷ []) two.1 in
      span-inside t.geometry t.geometry.erase_size offset len (first_of-zero span (full ∷ []) three.1).0

  line-lens : (x : Call) → LensTo top (line_answered t s x).session
  unfolding line_answered program_call erase_call barriered
  line-lens (begin id) = z
  line-lens end = z
  line-lens (mark id from to) = z
  line-lens (program offset bytes) =
      let number : ℕ = program_number_of t s.counters offset bytes s.media s.copy s.log in
      let taken : Written = program_taken s.counters offset bytes (program_plan t s.counters offset (length bytes)) s.media s.copy s.log in
      ap (λ (l : Log). all_up_to top l.lens) (cond-log (eqb number 0) taken _)
      ∙ write-either number taken.log (λ e. stored (length bytes) (program-len offset bytes e)) (eqb number 0) refl
  line-lens (erase offset len) =
      let number : ℕ = erase_number_of t s.counters offset len s.media s.copy s.log in
      let taken : Written = erase_taken s.counters offset len (erase_plan t s.counters offset len) s.media s.copy s.log in
      ap (λ (l : Log). all_up_to top l.lens) (cond-log (eqb number 0) taken _)
      ∙ write-either number taken.log (λ e. stored len (erase-len offset len e)) (eqb number 0) refl
  line-lens barrier =
      let number : ℕ = barrier_test t s.counters s.log in
      let taken : Ordered = ordered_by s.counters s.log (barrier_reply t s.counters) in
      ap (λ (l : Log). all_up_to top l.lens) (cond-order (eqb number 0) taken _)
      ∙ write-either number taken.log (λ e. stored 0 zero-le) (eqb number 0) refl

wrote-lens : (t : Told) (co : Bool) (top : ℕ) → t.geometry.capacity ≤ top → (xs : List Call) (s : Session) → LensTo top s → LensTo top (wrote t co s xs).session
unfolding wrote
wrote-lens t co top small [] s z = z
wrote-lens t co top small (x ∷ xs) s z =
    let y = line-lens t top small s z x in
    either (eqb (line_answered t s x).answer 0 || co) (wrote t co (line_answered t s x).session xs) (record { session = (line_answered t s x).session; failed = true })
    (wrote-lens t co top small xs (line_answered t s x).session y) y
  where
    either : (b : Bool) (w v : Wrote) → LensTo top w.session → LensTo top v.session → LensTo top (cond b w v).session
    either true w v p q = p
    either false w v p q = q

pub run-lens : (h : Head) (xs : List Call) (a : Armed) (top : ℕ) → h.geometry.capacity ≤ top → LensTo top (run_by h xs a).session
unfolding run_by
run-lens h xs a top small = wrote-lens (told_by h a) h.carries_on top small xs (opened_by h) (zeros-known top 1024)

-- ---- points

multiples-few : (unit n : ℕ) → length (multiples unit n) ≤ n
unfolding multiples
multiples-few unit zero = zero-le
multiples-few unit (suc n) = go (eqb (suc n % unit) 0) (multiples-few unit n)
  where
    go : (b : Bool) → length (multiples unit n) ≤ n → length (multiples unit n ++ cond b (suc n ∷ []) []) ≤ suc n
    go true h = let l : length (multiples unit n ++ (suc n ∷ [])) ≡ length (multiples unit n) + 1 = length-append (multiples unit n) (suc n ∷ []) in omega arith
    go false h = let l : length (multiples unit n ++ []) ≡ length (multiples unit n) + 0 = length-append (multiples unit n) [] in omega arith

inner-few : (unit len : ℕ) → length (inner unit len) ≤ len
unfolding inner
inner-few unit zero = zero-le
inner-few unit (suc n) = let h = multiples-few unit n in omega arith

bytes-few : (g : Geometry) (w : Interruption) (o : Op) → length (byte_points g w o) ≤ len_of o
bytes-few g PowerLoss (Program offset len) = inner-few 1 len
bytes-few g PowerLoss (Erase offset len) = inner-few g.erase_size len
bytes-few g PowerLoss Barrier = zero-le
bytes-few g Watchdog (Program offset len) = inner-few g.program_size len
bytes-few g Watchdog (Erase offset len) = inner-few g.erase_size len
bytes-few g Watchdog Barrier = zero-le
bytes-few g Failure (Program offset len) = inner-few 1 len
bytes-few g Failure (Erase offset len) = inner-few g.erase_size len
bytes-few g Failure Barrier = zero-le

none-few : (w : Interruption) → length (none_point w) ≤ 1
none-few PowerLoss = omega arith
none-few Watchdog = omega arith
none-few Failure = omega arith

span-few : (len : ℕ) → length (whole_span len) ≤ 1
span-few zero = omega arith
span-few (suc n) = omega arith

whole-few : (w : Interruption) (o : Op) → length (whole_point w o) ≤ 1
whole-few w (Program offset len) = span-few len
whole-few w (Erase offset len) = span-few len
whole-few PowerLoss Barrier = omega arith
whole-few Watchdog Barrier = omega arith
whole-few Failure Barrier = omega arith

progresses-few : (g : Geometry) (w : Interruption) (o : Op) → length (progresses g w o) ≤ len_of o + 2
unfolding progresses
progresses-few g w o =
    let bytes : List Progress = map Bytes (byte_points g w o) in
    let a : length (none_point w ++ (bytes ++ whole_point w o)) ≡ length (none_point w) + length (bytes ++ whole_point w o) = length-append (none_point w) (bytes ++ whole_point w o) in
    let b : length (bytes ++ whole_point w o) ≡ length bytes + length (whole_point w o) = length-append bytes (whole_point w o) in
    let c : length bytes ≡ length (byte_points g w o) = length-map (byte_points g w o) Bytes in
    let p = none-few w in
    let q = bytes-few g w o in
    let r = whole-few w o in
    omega arith

len-row : (kind offset len : ℕ) → len_of (op_of kind offset len) ≤ len
len-row kind offset len = go (eqb kind 0) (eqb kind 1)
  where
    go : (a b : Bool) → len_of (cond a (Program offset len) (cond b (Erase offset len) Barrier)) ≤ len
    go true b = le_refl len
    go false true = le_refl len
    go false false = zero-le

under-few : (g : Geometry) (w : Interruption) (i : ℕ) (ks os ls : List ℕ) → all_up_to 16384 ls ≡ true → length (under g w i (ops_of ks os ls)) ≤ 16386 * length ks
unfolding under ops_of all_up_to
under-few g w i [] os ls e = zero-le
under-few g w i (k ∷ ks) [] ls e = zero-le
under-few g w i (k ∷ ks) (o ∷ os) [] e = zero-le
under-few g w i (k ∷ ks) (o ∷ os) (l ∷ ls) e =
    let x : Op = op_of k o l in
    let here : List Injection = map (point i w) (progresses g w x) in
    let rest : List Injection = under g w (suc i) (ops_of ks os ls) in
    let a : length (here ++ rest) ≡ length here + length rest = length-append here rest in
    let b : length here ≡ length (progresses g w x) = length-map (progresses g w x) (point i w) in
    let c = progresses-few g w x in
    let d : len_of x ≤ l = len-row k o l in
    let both = and_parts (leb l 16384) (all_up_to 16384 ls) e in
    let f = leb-true l 16384 both.0 in
    let r = under-few g w (suc i) ks os ls both.1 in
    omega arith

lone-few : (os : List Op) → length (lone os) ≤ 1
unfolding lone
lone-few [] = omega arith
lone-few (o ∷ os) = omega arith

injections-few : (g : Geometry) (ks os ls : List ℕ) → all_up_to 16384 ls ≡ true → length ks ≤ 1024 → length (injections_of g (ops_of ks os ls)) ≤ 50337794
unfolding injections_of
injections-few g ks os ls e n =
    let all : List Op = ops_of ks os ls in
    let p : List Injection = under g PowerLoss 0 all in
    let w : List Injection = under g Watchdog 0 all in
    let f : List Injection = under g Failure 0 all in
    let a : length (p ++ (lone all ++ (w ++ f))) ≡ length p + length (lone all ++ (w ++ f)) = length-append p (lone all ++ (w ++ f)) in
    let b : length (lone all ++ (w ++ f)) ≡ length (lone all) + length (w ++ f) = length-append (lone all) (w ++ f) in
    let c : length (w ++ f) ≡ length w + length f = length-append w f in
    let l = lone-few all in
    let x = under-few g PowerLoss 0 ks os ls e in
    let y = under-few g Watchdog 0 ks os ls e in
    let z = under-few g Failure 0 ks os ls e in
    omega arith

-- three points a byte and six more for each of 1,024 operations of at most 16,384 bytes, and two
pub points-few : (h : Head) (xs : List Call) (a : Armed) → h.geometry.capacity ≤ 16384 → length (points_of h (run_by h xs a).session) ≤ 50337794
unfolding points_of
points-few h xs a small =
    let s : Session = (run_by h xs a).session in
    let n : ℕ = s.counters.operations in
    let z : Steady h.geometry.capacity s = run-steady h xs a in
    let few : length (take n s.log.kinds) ≡ n = length-take-le n s.log.kinds (rw z.log-steady.kinds-long z.few-operations) in
    injections-few h.geometry (take n s.log.kinds) (take n s.log.offsets) (take n s.log.lens)
    (take-known 16384 n s.log.lens (run-lens h xs a 16384 small)) (rw few z.few-operations)
