-- The rows that reading a script writes are never refused by a run.
--     head-passes     line 1 of a script that was read has a geometry that passes
--     head_small      and a capacity of at most 16,384
--     rows_pass       nor do its rows refuse a run
-- Assumes nothing.
use mathlib.Core.Path.{◌≡◌, refl, sym, ap, ◌∙◌}
use mathlib.Core.Bool.{Bool, true, false, cond, ◌&&◌}
use mathlib.Core.List.{List, [], ◌∷◌, ◌++◌, map}
use Prim.Native.Nat.{ℕ, suc, ◌+◌, ◌≤◌}
use native.Mathlib.Omega.{arith}
use lib.ListN.{length, take, drop, length-append, length-drop, length-map}
use lib.Seq.{take_at}
use lib.Dec.{eqb, leb, ltb}
use borrow.Author.Tests.{leb-true, eqb-true, le-ltb, eq-eqb}
use Rattle.basics.specs.Tests.{unless, refuse_if, first_of}
use Rattle.basics.proofs.Tests.{unless-zero, first_of-zero}
use Rattle.storage.specs.Geometry.{geometry_test}
use Rattle.model.specs.Columns.{all_up_to}
use Rattle.session.specs.Tests.{size_test}
use Rattle.text.specs.Lines.{TextLine, lines_of}
use Rattle.text.specs.Pairs.{over}
use Rattle.script.specs.declared.Head.{Head}
use Rattle.script.specs.Calls.{Call, begin, end, mark, program, erase, barrier, Reading, calls, faulty, read_lines}
use Rattle.script.specs.First.{FirstLine, given, no_head, first_of_line, head_test}
use Rattle.script.specs.Script.{Script, script, refused, with_calls, with_first, with_lines, script_of}
use Rattle.script.specs.Columns.{Columns, kind_of, first_in, second_in, third_in, bytes_in, starts_of, bytes_of, written}
use Rattle.script.proofs.Enough.{enough}
use Rattle.rows.specs.Rows.{rows_uneven_of, any_outside, lengths_number, contents_number, rows_number}
use Rattle.harness_runs.specs.Running.{run_number}
use Rattle.text_of_runs.specs.Lent.{Sheet}

-- ---- line 1

kept : (t : Bool) (s : Script) (n m : ℕ) (h : Head) (cs : List Call) → cond t s (refused n m) ≡ script h cs → (t ≡ true) × (s ≡ script h cs)
kept true s n m h cs e = (refl, e)
kept false s n m h cs e = absurd (let z : ◌≡◌ {A = ℕ} 0 1 = cc in omega arith)

kept-head : (g h : Head) (r : Reading) (cs : List Call) → with_calls g r ≡ script h cs → g ≡ h
kept-head g h (calls ds) cs e = cc
kept-head g h (faulty l) cs e = absurd (let z : ◌≡◌ {A = ℕ} 0 1 = cc in omega arith)

first_passes : (f : FirstLine) (ls : List TextLine) (h : Head) (cs : List Call) → with_first f ls ≡ script h cs → head_test h.geometry ≡ 0
first_passes no_head ls h cs e = absurd (let z : ◌≡◌ {A = ℕ} 0 1 = cc in omega arith)
first_passes (given g) ls h cs e =
    let k = kept (eqb (head_test g.geometry) 0) (with_calls g (read_lines 2 ls)) _ _ h cs e in
    let same : g ≡ h = kept-head g h (read_lines 2 ls) cs k.1 in
    ap (λ (x : Head). head_test x.geometry) (sym same) ∙ eqb-true (head_test g.geometry) 0 k.0

lines-pass : (ls : List TextLine) (h : Head) (cs : List Call) → with_lines ls ≡ script h cs → head_test h.geometry ≡ 0
lines-pass [] h cs e = absurd (let z : ◌≡◌ {A = ℕ} 0 1 = cc in omega arith)
lines-pass (l ∷ ls) h cs e = first_passes (first_of_line l) ls h cs e

both-pass : (text : List ℕ) (h : Head) (cs : List Call) → script_of text ≡ script h cs
    → (geometry_test h.geometry ≡ 0) × (first_of (unless (leb h.geometry.capacity 16384) 10 ∷ []) ≡ 0)
unfolding script_of head_test
both-pass text h cs e =
    let a = kept (leb (length text) 65536) (with_lines (lines_of text)) 9 0 h cs e in
    first_of-zero (geometry_test h.geometry) (unless (leb h.geometry.capacity 16384) 10 ∷ []) (lines-pass (lines_of text) h cs a.1)

pub head-passes : (text : List ℕ) (h : Head) (cs : List Call) → script_of text ≡ script h cs → geometry_test h.geometry ≡ 0
head-passes text h cs e = (both-pass text h cs e).0

pub head_small : (text : List ℕ) (h : Head) (cs : List Call) → script_of text ≡ script h cs → h.geometry.capacity ≤ 16384
head_small text h cs e =
    let sizes = unless (leb h.geometry.capacity 16384) 10 in
    leb-true h.geometry.capacity 16384 (unless-zero (leb h.geometry.capacity 16384) 9 (first_of-zero sizes [] (both-pass text h cs e).1).0)

-- ---- the rows

kind-known : (x : Call) → leb (kind_of x) 5 ≡ true
kind-known (begin id) = refl
kind-known end = refl
kind-known (mark id from to) = refl
kind-known (program offset bytes) = refl
kind-known (erase offset count) = refl
kind-known barrier = refl

kinds-known : (xs : List Call) → all_up_to 5 (map kind_of xs) ≡ true
unfolding all_up_to
kinds-known [] = refl
kinds-known (x ∷ xs) = rw (kind-known x) (kinds-known xs)

-- a program's bytes are in the pool
one_inside : (pool start : ℕ) (x : Call) → start + length (bytes_in x) ≤ pool → (eqb (kind_of x) 0 && ltb pool (start + second_in x)) ≡ false
one_inside pool start (begin id) h = refl
one_inside pool start end h = refl
one_inside pool start (mark id from to) h = refl
one_inside pool start (program offset bytes) h = le-ltb pool (start + length bytes) h
one_inside pool start (erase offset count) h = refl
one_inside pool start barrier h = refl

all-inside : (pool start : ℕ) (xs : List Call) → start + length (bytes_of xs) ≤ pool → any_outside pool (map kind_of xs) (map second_in xs) (starts_of start xs) ≡ false
unfolding any_outside starts_of bytes_of
all-inside pool start [] h = refl
all-inside pool start (x ∷ xs) h =
    let l : length (bytes_in x ++ bytes_of xs) ≡ length (bytes_in x) + length (bytes_of xs) = length-append (bytes_in x) (bytes_of xs) in
    rw (one_inside pool start x (omega arith)) (all-inside pool (start + length (bytes_in x)) xs (omega arith))

length-starts : (start : ℕ) (xs : List Call) → length (starts_of start xs) ≡ length xs
unfolding starts_of
length-starts start [] = refl
length-starts start (x ∷ xs) = ap suc (length-starts (start + length (bytes_in x)) xs)

over-long : (new old : List ℕ) (n : ℕ) → length new ≤ n → length old ≡ n → length (over new old) ≡ n
over-long new old n h e =
    length-append new (drop (length new) old) ∙ ap (λ (k : ℕ). length new + k) (length-drop (length new) old) ∙ omega arith

module _ (text : List ℕ) (h : Head) (xs : List Call) (e : script_of text ≡ script h xs) (k : Columns) (z : Sheet k) where
  abbrev rows : ℕ
  rows = length xs

  few : length xs ≤ 32768
  few = (enough text h xs e).rows

  column-long : (f : Call → ℕ) (old : List ℕ) → length old ≡ 32768 → length (over (map f xs) old) ≡ 32768
  column-long f old l = over-long (map f xs) old 32768 (rw (length-map xs f) few) l

  column-first : (f : Call → ℕ) (old : List ℕ) → take (length xs) (over (map f xs) old) ≡ map f xs
  column-first f old = take_at (map f xs) (drop (length (map f xs)) old) (length xs) (length-map xs f)

  pub sheet-kept : Sheet (written xs k)
  unfolding written
  sheet-kept = record {
    kinds-long = column-long kind_of k.kinds z.kinds-long;
    firsts-long = column-long first_in k.firsts z.firsts-long;
    seconds-long = column-long second_in k.seconds z.seconds-long;
    thirds-long = column-long third_in k.thirds z.thirds-long;
    starts-long = over-long (starts_of 0 xs) k.starts 32768 (rw (length-starts 0 xs) few) z.starts-long;
    pool-long = over-long (bytes_of xs) k.pool 32768 (enough text h xs e).bytes z.pool-long;
  }

  rows-even : rows_uneven_of (written xs k) ≡ false
  rows-even =
      let w = sheet-kept in
      rw (w.kinds-long, w.firsts-long, w.seconds-long, w.thirds-long, w.starts-long)

  first-kinds : take (length xs) (written xs k).kinds ≡ map kind_of xs
  unfolding written
  first-kinds = column-first kind_of k.kinds

  first-seconds : take (length xs) (written xs k).seconds ≡ map second_in xs
  unfolding written
  first-seconds = column-first second_in k.seconds

  first-starts : take (length xs) (written xs k).starts ≡ starts_of 0 xs
  unfolding written
  first-starts = take_at (starts_of 0 xs) (drop (length (starts_of 0 xs)) k.starts) (length xs) (length-starts 0 xs)

  rows_inside : any_outside (length (written xs k).pool) (take (length xs) (written xs k).kinds) (take (length xs) (written xs k).seconds) (take (length xs) (written xs k).starts) ≡ false
  rows_inside =
      rw (sheet-kept.pool-long, first-kinds, first-seconds, first-starts)
      (all-inside 32768 0 xs (let b = (enough text h xs e).bytes in omega arith))

  -- the geometry and every row pass: kinds with a meaning, and each program's bytes in the pool
  pub rows_pass : (media copy : ℕ) → media ≡ h.geometry.capacity → copy ≡ h.geometry.capacity → run_number h (length xs) (written xs k) media copy ≡ 0
  unfolding rows_number lengths_number contents_number size_test first_of unless refuse_if
  rows_pass media copy p q =
      rw (
        head-passes text h xs e,
        eq-eqb media h.geometry.capacity p,
        eq-eqb copy h.geometry.capacity q,
        rows-even,
        rows_inside,
        first-kinds,
        kinds-known xs,
        sheet-kept.kinds-long,
        le-ltb 32768 (length xs) few,
      )
