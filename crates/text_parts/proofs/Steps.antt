-- Each function's ways out.
--     first-is, first_some                    the part that begins with the count of runs
--     past_all, from_first, from-run          the part of a sweep, past its end, from the count or from a run on
--     refused-past, refused-is, refused-some  the part of a refused script
--     open-part                               the fault-free run, on a part of columns of zeros
--     recorded-is                             the runs, by the operations recorded
--     opened-refused, opened-runs, swept-is   a sweep that is refused, or its runs
--     read-refused, read-swept                a script that is refused, or its sweep
-- Assumes nothing.
use mathlib.Core.Path.{◌≡◌, refl, sym, ap, ap₂, ◌∙◌}
use mathlib.Core.Bool.{Bool, true, false}
use mathlib.Core.List.{List, [], ◌∷◌, ◌++◌, append-nil, flatten}
use Prim.Native.Nat.{ℕ, zero, suc, ◌+◌, ◌-◌, ◌≤◌, ◌<◌, min}
use native.Mathlib.Nat.{zero-add}
use native.Mathlib.Omega.{arith}
use lib.ListN.{length, take, drop, replicate, length-replicate}
use lib.Dec.{leb}
use borrow.Author.Tests.{lt-ltb, le-ltb, eq-eqb, ne_eqb, leb-true, leb-false}
use Rattle.basics.proofs.Lists.{take-few}
use Rattle.refusals.specs.declared.Refusal.{Refusal}
use Rattle.refusals.specs.Numbers.{number_of}
use Rattle.script.specs.declared.Head.{Head}
use Rattle.script.specs.declared.Script.{Script}
use Rattle.script.specs.declared.ScriptError.{ScriptError}
use Rattle.script.specs.Lent.{reply_of}
use Rattle.script.specs.Columns.{Columns, columns, After, after, read_into}
use Rattle.lines.specs.Answers.{Line, Put, put}
use Rattle.std.specs.Prelude.{Result, Ok, Err, Ok as Past, Err as NotWritten}
use Rattle.lines.specs.Lines.{runs_line, refused_text}
use Rattle.harness.specs.declared.Sweep.{Sweep}
use Rattle.harness.specs.Opening.{Opened, opened_as, open_left, open_call, open_on}
use Rattle.harness_runs.specs.Running.{zeros, cells}
use Rattle.run_lines.specs.RunLine.{run_put, run_line_call}
use Rattle.text_of_runs.proofs.Short.{put-past}
use Rattle.text_parts.specs.Parts.{Part, Lines, NoRoom, PartLeft, part_left, fitting, part_of}
use Rattle.text_parts.specs.Inner.{filled_at, fill_runs, part_reply, part_after, part_first, first_part, runs_part, runs_of, refused_part, OpenEnd, open_end, end_of_open, recorded_part, opened_part, swept_part, read_part, part_call}
use Rattle.text_parts.proofs.Fitted.{none-fits, put-none, over-front, fit-first}

-- ---- the count of runs, and the runs after it

module _ (w : (place at : ℕ) → List ℕ → Put) (runs : ℕ) (out : List ℕ) where
  pub first-is : (p : Put) → p ≡ put 0 (runs_line runs) 0 out → part_first w runs p.reply p.out ≡ first_part w runs out
  unfolding first_part
  first-is p e = ap (λ (x : Put). part_first w runs x.reply x.out) e

  pub first_some : (next : ℕ) (new : List ℕ) → run_put (Past next) new ≡ put 0 (runs_line runs) 0 out → (place at : ℕ) (left : List ℕ)
      → filled_at place at left ≡ fill_runs w (runs - 0) 0 next new → (reply : Part) → reply ≡ part_reply (place + 1) at (runs - place)
      → part_left reply left ≡ first_part w runs out
  first_some next new p place at left e reply z =
      let n : place + 1 ≡ place + 1 - 0 = omega arith in
      let m : runs - 0 ≡ runs = omega arith in
      ap (λ (x : Part). part_left x left) (z ∙ ap (λ (j : ℕ). part_reply j at (runs - place)) n)
      ∙ ap (part_after 0 runs) (e ∙ ap (λ (j : ℕ). fill_runs w j 0 next new) m)
      ∙ first-is (run_put (Past next) new) p

  -- ---- from any line on

  module _ (from : ℕ) where
    pub past_all : runs < from → (reply : Part) → reply ≡ Lines 0 0 0 → part_left reply out ≡ runs_part w runs from out
    unfolding runs_part
    past_all h reply q = rw (lt-ltb runs from h) (ap (λ (x : Part). part_left x out) q)

    module _ (h : from ≤ runs) where
      pub from_first : from ≡ 0 → (reply : Part) (new : List ℕ) → part_left reply new ≡ first_part w runs out → part_left reply new ≡ runs_part w runs from out
      unfolding runs_part
      from_first z reply new p = rw (le-ltb runs from h, eq-eqb from 0 z) p

      pub from-run : (from ≡ 0 → ⊥) → (place at : ℕ) (left : List ℕ) → filled_at place at left ≡ fill_runs w (runs - (from - 1)) (from - 1) 0 out → (reply : Part)
          → reply ≡ part_reply (place + 1 - from) at (runs - place) → part_left reply left ≡ runs_part w runs from out
      unfolding runs_part
      from-run z place at left e reply q = rw (le-ltb runs from h, ne_eqb from 0 z) (ap (λ (x : Part). part_left x left) q ∙ ap (part_after from runs) e)

-- ---- a refused script

-- one line, by what its function answers
abbrev pub part_line : Line → (out : List ℕ) → PartLeft
part_line (Past next) out = part_left (Lines 1 next 0) out
part_line (NotWritten number) out = part_left (NoRoom number) out

line-fits : (x out : List ℕ) → length x ≤ length out → part_left (Lines 1 (0 + length x) 0) (x ++ drop (length x) out) ≡ part_of (x ∷ []) out
unfolding part_of fitting flatten
line-fits x out h =
    rw (le-ltb (length out) (length x) h, fit-first x [] (length out) h, append-nil x, zero-add (length x))

line-cases : (x out : List ℕ) → part_line (put 0 x 0 out).reply (put 0 x 0 out).out ≡ part_of (x ∷ []) out
line-cases x out = go (leb (length x) (length out)) refl
  where
    go : (b : Bool) → leb (length x) (length out) ≡ b → part_line (put 0 x 0 out).reply (put 0 x 0 out).out ≡ part_of (x ∷ []) out
    go true e =
        let h : length x ≤ length out = leb-true (length x) (length out) e in
        ap (λ (p : Put). part_line p.reply p.out) (put-past x 0 out (omega arith))
        ∙ ap (part_left (Lines 1 (0 + length x) 0)) (over-front out x)
        ∙ line-fits x out h
    go false e =
        let h : length out < length x = leb-false (length x) (length out) e in
        ap (λ (p : Put). part_line p.reply p.out) (put-none x 0 out (omega arith)) ∙ none-fits x [] out h

drop-none : (n : ℕ) → ◌≡◌ {A = List (List ℕ)} (drop n []) []
drop-none zero = refl
drop-none (suc n) = refl

module _ (number line from : ℕ) (out : List ℕ) where
  pub refused-past : (from ≡ 0 → ⊥) → (reply : Part) → reply ≡ Lines 0 0 0 → part_left reply out ≡ refused_part number line from out
  unfolding part_of fitting flatten
  refused-past z reply q = ap (λ (x : Part). part_left x out) q ∙ go from z
    where
      go : (n : ℕ) → (n ≡ 0 → ⊥) → part_left (Lines 0 0 0) out ≡ refused_part number line n out
      go zero z = absurd (z refl)
      go (suc n) z = rw (drop-none n)

  module _ (z : from ≡ 0) where
    pub refused-is : (p : Put) (told : ℕ) → told ≡ number → p ≡ put 0 (refused_text told line) 0 out → part_line p.reply p.out ≡ refused_part number line from out
    refused-is p told n e =
        ap (λ (x : Put). part_line x.reply x.out) e
        ∙ line-cases (refused_text told line) out
        ∙ ap₂ (λ (m i : ℕ). refused_part m line i out) n (sym z)

    pub refused-some : (told : ℕ) → told ≡ number → (next : ℕ) (new : List ℕ) → run_put (Past next) new ≡ put 0 (refused_text told line) 0 out
        → (reply : Part) → reply ≡ Lines 1 next 0 → part_left reply new ≡ refused_part number line from out
    refused-some told n next new p reply q = ap (λ (x : Part). part_left x new) q ∙ refused-is (run_put (Past next) new) told n p

-- ---- the fault-free run

-- on as much of media and copy, columns of zeros, as there is
pub open-part : (h : Head) (rows : ℕ) (k : Columns) (ks os ls : List ℕ) (n : ℕ) → n ≡ min h.geometry.capacity 16384
    → (r : Opened) (media₁ copy₁ ks₁ os₁ ls₁ : List ℕ)
    → (let media : List ℕ = replicate 16384 0 in open_left r media₁ copy₁ ks₁ os₁ ls₁ ≡ open_call h rows k (take n media) (take n media) ks os ls)
    → open_end r ks₁ os₁ ls₁ ≡ end_of_open (open_call h rows k (cells h) (cells h) ks os ls)
unfolding zeros
open-part h rows k ks os ls n q r media₁ copy₁ ks₁ os₁ ls₁ p =
    let media : List ℕ = replicate 16384 0 in
    ap end_of_open p
    ∙ ap (λ (x : List ℕ). end_of_open (open_call h rows k x x ks os ls)) (take-few media 16384 h.geometry.capacity n (length-replicate {A = ℕ} 16384 0) q)

-- ---- a read script

module _ (judged : Bool) (from : ℕ) (h : Head) (rows : ℕ) (k : Columns) (out : List ℕ) where
  -- the lines of the runs, by the first rows of the log
  pub recorded-is : (n points : ℕ) (ks os ls : List ℕ) → length ks ≡ 1024 → length os ≡ 1024 → length ls ≡ 1024 → (m : ℕ) → m ≡ min n 1024 → (count : ℕ) → count ≡ runs_of points
      → (reply : Part) (new : List ℕ)
      → part_left reply new ≡ runs_part (λ (place at : ℕ) (o : List ℕ). run_line_call judged place h rows k (take m ks) (take m os) (take m ls) at o) count from out
      → part_left reply new ≡ recorded_part judged from h rows k n points ks os ls out
  unfolding recorded_part
  recorded-is n points ks os ls lk lo ll m z count c reply new p =
      let ek : take m ks ≡ take n ks = take-few ks 1024 n m lk z in
      let eo : take m os ≡ take n os = take-few os 1024 n m lo z in
      let el : take m ls ≡ take n ls = take-few ls 1024 n m ll z in
      p ∙ λ i. runs_part (λ (place at : ℕ) (o : List ℕ). run_line_call judged place h rows k (ek i) (eo i) (el i) at o) (c i) from out

  module _ (ks os ls : List ℕ) where
    pub opened-refused : (q : Result Sweep Refusal) (e : Refusal) → q ≡ Err e → (p : PartLeft) → p ≡ refused_part (number_of e) 0 from out
        → p ≡ opened_part judged from h rows k (opened_as q) ks os ls out
    opened-refused q e z p x = x ∙ ap (λ (y : Result Sweep Refusal). opened_part judged from h rows k (opened_as y) ks os ls out) (sym z)

    pub opened-runs : (q : Result Sweep Refusal) (s : Sweep) → q ≡ Ok s → (p : PartLeft) → p ≡ recorded_part judged from h rows k s.operations s.points ks os ls out
        → p ≡ opened_part judged from h rows k (opened_as q) ks os ls out
    opened-runs q s z p x = x ∙ ap (λ (y : Result Sweep Refusal). opened_part judged from h rows k (opened_as y) ks os ls out) (sym z)

    pub swept-is : (r : Opened) → (let column : List ℕ = replicate 1024 0 in open_end r ks os ls ≡ end_of_open (open_call h rows k (cells h) (cells h) column column column))
        → opened_part judged from h rows k r ks os ls out ≡ swept_part judged from h rows k out
    unfolding swept_part open_on zeros
    swept-is r e = ap (λ (x : OpenEnd). opened_part judged from h rows k x.reply x.kinds x.offsets x.lens out) e

-- ---- a text

module _ (judged : Bool) (text : List ℕ) (from : ℕ) (out : List ℕ) (r : Result Script ScriptError) (k : Columns)
    (e : let column : List ℕ = replicate 32768 0 in after (reply_of r) k ≡ read_into text (columns column column column column column column)) where
  read-is : read_part judged from (reply_of r) k out ≡ part_call judged text from out
  unfolding part_call zeros
  read-is = ap (λ (x : After). read_part judged from x.reply x.columns out) e

  pub read-refused : (error : ScriptError) → r ≡ Err error → (p : PartLeft) → p ≡ refused_part (number_of error.refusal) error.line from out → p ≡ part_call judged text from out
  read-refused error q p x = x ∙ ap (λ (y : Result Script ScriptError). read_part judged from (reply_of y) k out) (sym q) ∙ read-is

  pub read-swept : (s : Script) → r ≡ Ok s → (c : Columns) → c ≡ k → (p : PartLeft) → p ≡ swept_part judged from s.head s.calls c out → p ≡ part_call judged text from out
  read-swept s q c z p x =
      x ∙ ap (λ (y : Columns). swept_part judged from s.head s.calls y out) z ∙ ap (λ (y : Result Script ScriptError). read_part judged from (reply_of y) k out) (sym q) ∙ read-is
