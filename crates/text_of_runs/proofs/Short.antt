-- No line of a run is longer than 11,915 bytes: a number has at most 20 digits, an entry's field at most 22 bytes, and a ledger at most 512
-- entries.
--     decimal-few               a number's digits
--     sweep-short, judge-short  the lines of a run; `runs-short` and `refused-short` the others
--     put-past                  bytes that fit are written
-- Assumes nothing.
use mathlib.Core.Path.{◌≡◌, refl}
use mathlib.Core.Bool.{Bool, true, false, cond}
use mathlib.Core.List.Memᴰ
use mathlib.Core.List.{List, [], ◌∷◌, ◌++◌, map}
use Prim.Native.Nat.{ℕ, zero, suc, ◌+◌, ◌*◌, ◌/◌, ◌%◌, ◌≤◌, zero-le}
use native.Mathlib.Omega.{arith}
use lib.ListN.{length, length-append, length-map}
use lib.Dec.{ltb}
use borrow.Author.Tests.{le-leb}
use Rattle.basics.specs.Tests.{unless, first_of}
use Rattle.basics.specs.Replies.{number_in}
use Rattle.basics.specs.Parts.{overlaid}
use Rattle.basics.proofs.Lists.{Each, each_append, each-cons, each_none, each_map}
use Rattle.inject.specs.declared.Progress.{Progress}
use Rattle.inject.specs.declared.Progress.TheVariants.{None, Bytes, Whole}
use Rattle.landing.specs.declared.Stop.{Stop}
use Rattle.landing.specs.declared.Stop.TheVariants.{Running, PowerLost, CoreReset}
use Rattle.model.specs.Ledger.{Entry, is_torn}
use Rattle.std.specs.Prelude.{None as Absent, None as Nothing, Some as At, Ok as Past}
use Rattle.oracle.specs.Verdict.{number_of, verdict}
use Rattle.session.specs.Armed.{Armed}
use Rattle.text.specs.Numbers.{decimal_in, decimal_of}
use Rattle.script.specs.Print.{joined}
use Rattle.history.specs.History.{suggested}
use Rattle.pieces.specs.Pieces.{letter}
use Rattle.lines.specs.Lines.{Shown, progress_field, point_fields, stop_field, state_letter, entry_field, line, sweep_line, judged_line, judge_line, runs_line, refused_text}
use Rattle.lines.specs.Answers.{put}
use Rattle.text_of_runs.proofs.RunLines.{suggested-few}

decimal-by : (b : Bool) (k n m d : ℕ) (rest : List ℕ) → length rest ≤ k → length (cond b (n ∷ []) (rest ++ (d ∷ []))) ≤ suc k
decimal-by true k n m d rest h = omega arith
decimal-by false k n m d rest h = let l : length (rest ++ (d ∷ [])) ≡ length rest + 1 = length-append rest (d ∷ []) in omega arith

decimal-in : (k n : ℕ) → length (decimal_in k n) ≤ k
unfolding decimal_in
decimal-in zero n = zero-le
decimal-in (suc k) n = decimal-by (ltb n 10) k (48 + n) n (48 + n % 10) (decimal_in k (n / 10)) (decimal-in k (n / 10))

-- a field of a line
abbrev Field : List ℕ → Type 0
Field f = length f ≤ 22

pub decimal-few : (n : ℕ) → length (decimal_of n) ≤ 20
decimal-few n = decimal-in 20 n

decimal-field : (n : ℕ) → Field (decimal_of n)
decimal-field n = let h = decimal-few n in omega arith

-- fields joined, and the LF
joined-short : (fs : List (List ℕ)) → Each Field fs → length (joined fs) ≤ 23 * length fs
unfolding joined
joined-short [] e = zero-le
joined-short (f ∷ []) e = let h = e f (Memᴰ.head refl) in omega arith
joined-short (f ∷ g ∷ fs) e =
    let h = e f (Memᴰ.head refl) in
    let k = joined-short (g ∷ fs) (λ x m. e x (Memᴰ.tail m)) in
    let l : length (f ++ (9 ∷ joined (g ∷ fs))) ≡ length f + length (9 ∷ joined (g ∷ fs)) = length-append f (9 ∷ joined (g ∷ fs)) in
    omega arith

line-short : (fs : List (List ℕ)) → Each Field fs → length (line fs) ≤ 23 * length fs + 1
line-short fs e =
    let h = joined-short fs e in
    let l : length (joined fs ++ letter 10) ≡ length (joined fs) + 1 = length-append (joined fs) (letter 10) in
    omega arith

-- ---- the fields of a run

progress-field : (p : Progress) → Field (progress_field p)
progress-field None = omega arith
progress-field (Bytes n) = decimal-field n
progress-field Whole = omega arith

point-each : (a : Armed) → Each Field (point_fields a)
point-each Nothing = each-cons _ _ _ (omega arith) (each-cons _ _ _ (omega arith) (each-cons _ _ _ (omega arith) (each_none _)))
point-each (At j) =
    each-cons _ _ _ (omega arith) (each-cons _ _ _ (decimal-field j.op) (each-cons _ _ _ (progress-field j.progress) (each_none _)))

point-count : (a : Armed) → length (point_fields a) ≡ 3
point-count Nothing = refl
point-count (At j) = refl

stop-short : (s : Stop) → Field (stop_field s)
stop-short Running = omega arith
stop-short PowerLost = omega arith
stop-short CoreReset = omega arith

entry-short : (e : Entry) → Field (entry_field e)
entry-short e = go (is_torn e)
  where
    go : (b : Bool) → length (decimal_of e.id ++ (state_letter e.state ∷ cond b (letter 116) [])) ≤ 22
    go true = let h = decimal-few e.id in let l = length-append (decimal_of e.id) (state_letter e.state ∷ letter 116) in omega arith
    go false = let h = decimal-few e.id in let l = length-append (decimal_of e.id) (state_letter e.state ∷ []) in omega arith

-- ---- the lines

judged-short : (place number : ℕ) (history : List ℕ) → length (judged_line place number history) ≤ 23 * (2 + length history) + 1
judged-short place number history =
    let ids : List (List ℕ) = map decimal_of history in
    let n : length ids ≡ length history = length-map history decimal_of in
    let fs : List (List ℕ) = decimal_of place ∷ decimal_of number ∷ ids in
    let h : length (line fs) ≤ 23 * length fs + 1 =
    line-short fs
    (each-cons Field (decimal_of place) _ (decimal-field place)
    (each-cons Field (decimal_of number) _ (decimal-field number) (each_map Field decimal_of history (λ x m. decimal-field x)))) in
    omega arith

module _ (place : ℕ) (r : Shown) (few : length r.ledger ≤ 512) where
  pub sweep-short : length (sweep_line place r) ≤ 11915
  unfolding sweep_line
  sweep-short =
      let entries : List (List ℕ) = map entry_field r.ledger in
      let behind : List (List ℕ) = stop_field r.stop ∷ decimal_of r.operations ∷ entries in
      let fs : List (List ℕ) = decimal_of place ∷ (point_fields r.injection ++ behind) in
      let n : length entries ≡ length r.ledger = length-map r.ledger entry_field in
      let c : length (point_fields r.injection ++ behind) ≡ length (point_fields r.injection) + length behind = length-append (point_fields r.injection) behind in
      let p = point-count r.injection in
      let h : length (line fs) ≤ 23 * length fs + 1 =
      line-short fs
      (each-cons Field (decimal_of place) _ (decimal-field place)
      (each_append Field (point_fields r.injection) behind (point-each r.injection)
      (each-cons Field (stop_field r.stop) _ (stop-short r.stop)
      (each-cons Field (decimal_of r.operations) _ (decimal-field r.operations) (each_map Field entry_field r.ledger (λ e m. entry-short e)))))) in
      omega arith

  pub judge-short : length (judge_line place r) ≤ 11915
  unfolding judge_line
  judge-short =
      let history : List ℕ = suggested r.ledger in
      let v : ℕ = number_in number_of (verdict r.ledger history [] Absent) in
      let h : length (judged_line place v history) ≤ 23 * (2 + length history) + 1 = judged-short place v history in
      let s : length history ≤ length r.ledger = suggested-few r.ledger in
      omega arith

-- a word of at most 22 letters, and numbers
pub runs-short : (count : ℕ) → length (runs_line count) ≤ 11915
runs-short count =
    let word : List ℕ = 114 ∷ 117 ∷ 110 ∷ 115 ∷ [] in
    let fs : List (List ℕ) = word ∷ decimal_of count ∷ [] in
    let h : length (line fs) ≤ 23 * length fs + 1 =
    line-short fs (each-cons Field word _ (omega arith) (each-cons Field (decimal_of count) _ (decimal-field count) (each_none Field))) in
    omega arith

pub refused-short : (number at : ℕ) → length (refused_text number at) ≤ 11915
refused-short number at =
    let word : List ℕ = 114 ∷ 101 ∷ 102 ∷ 117 ∷ 115 ∷ 101 ∷ 100 ∷ [] in
    let fs : List (List ℕ) = word ∷ decimal_of number ∷ decimal_of at ∷ [] in
    let h : length (line fs) ≤ 23 * length fs + 1 =
    line-short fs
    (each-cons Field word _ (omega arith)
    (each-cons Field (decimal_of number) _ (decimal-field number) (each-cons Field (decimal_of at) _ (decimal-field at) (each_none Field)))) in
    omega arith

pub put-past : (bytes : List ℕ) (at : ℕ) (out : List ℕ) → at + length bytes ≤ length out
    → put 0 bytes at out ≡ record { reply = Past (at + length bytes); out = overlaid out at bytes }
unfolding first_of unless
put-past bytes at out h = rw (le-leb (at + length bytes) (length out) h)
