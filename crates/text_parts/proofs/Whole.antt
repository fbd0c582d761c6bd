-- The part of a text is document 01's, and the parts are the whole text.
--     runs-is          the part of a sweep, from any line on
--     part-is          the part of a text, from any line on
--     all-parts        parts asked for one after another
-- Assumes nothing.
use mathlib.Core.Path.{◌≡◌, refl, sym, ap, ◌∙◌}
use mathlib.Core.Bool.{Bool, true, false, cond}
use mathlib.Core.Logic.{⊎_elim}
use mathlib.Core.List.Memᴰ
use mathlib.Core.List.{List, [], ◌∷◌, ◌++◌, flatten}
use Prim.Native.Nat.{ℕ, zero, suc, ◌+◌, ◌-◌, ◌*◌, ◌≤◌, ◌<◌, zero-le}
use native.Mathlib.Nat.{add-zero, sub-zero, zero-sub, suc-ne-zero, not-suc-le-zero, le_of_suc-le-suc, suc-sub-suc, le_trans}
use native.Mathlib.Omega.{arith}
use lib.ListN.{length, take, drop, length-append, length-drop, drop_of_length-le}
use lib.Seq.{take-append_seam}
use borrow.Author.Tests.{lt-ltb, le-ltb, ne_eqb}
use Rattle.basics.specs.Parts.{overlaid}
use Rattle.basics.proofs.Tests.{le-or-gt}
use Rattle.basics.proofs.Lists.{Each, each-cons, each_none}
use Rattle.script.specs.declared.Head.{Head}
use Rattle.script.specs.Columns.{Columns, After}
use Rattle.lines.specs.Lines.{runs_line, refused_text}
use Rattle.lines.specs.Answers.{Put, put}
use Rattle.pieces.proofs.Cursors.{length-overlaid, overlaid-more}
use Rattle.pieces.proofs.Lists.{flatten-append}
use Rattle.sweeps.specs.Sweep.{sweep_output, judge_output}
use Rattle.harness.specs.Opening.{Opened, OpenLeft, open_on}
use Rattle.text_of_runs.specs.Lent.{Sheet}
use Rattle.text_of_runs.specs.Printout.{sweep_lines, judge_lines}
use Rattle.text_of_runs.specs.Claim.{run_lines, Outputs, Printed, unread, unswept, swept}
use Rattle.text_of_runs.proofs.Short.{put-past, runs-short, refused-short}
use Rattle.text_of_runs.proofs.Whole.{printed}
use Rattle.run_lines.specs.RunLine.{run_line_call}
use Rattle.run_lines.proofs.Whole.{zeros-long, line_at}
use Rattle.text_parts.specs.Parts.{fitting, none_fits, part_left, part_with, part_of, in_turn, Parts, AllParts, lines_for}
use Rattle.text_parts.specs.Inner.{fill_runs, part_reply, part_after, part_first, first_part, runs_part, runs_of, recorded_part, opened_part, swept_part, fresh_columns, read_part, part_call}
use Rattle.text_parts.proofs.Fitted.{fit-first, fit-before, none-fits, part_by, reply-is, put-none, over-front, reached, fills}

-- ---- lines by place

module _ (line : ℕ → List ℕ) where
  length-lines : (n p : ℕ) → length (run_lines line n p) ≡ n
  unfolding run_lines
  length-lines zero p = refl
  length-lines (suc n) p = ap suc (length-lines n (suc p))

  drop-lines : (k n p : ℕ) → drop k (run_lines line n p) ≡ run_lines line (n - k) (p + k)
  unfolding run_lines
  drop-lines zero n p = rw (sub-zero n, add-zero p)
  drop-lines (suc k) zero p = rw (zero-sub (suc k))
  drop-lines (suc k) (suc n) p =
      let s : suc p + k ≡ p + suc k = omega arith in
      rw (suc-sub-suc n k) (drop-lines k n (suc p) ∙ ap (run_lines line (n - k)) s)

-- ---- the part of a sweep

module _ (w : (place at : ℕ) → List ℕ → Put) (line : ℕ → List ℕ) (runs : ℕ)
    (agree : (place at : ℕ) (out : List ℕ) → place < runs → w place at out ≡ put 0 (line place) at out) where
  abbrev rest : List (List ℕ)
  rest = run_lines line runs 0

  abbrev all : List (List ℕ)
  all = runs_line runs ∷ rest

  module _ (out : List ℕ) where
    abbrev size : ℕ
    size = length (runs_line runs)

    -- the count fits
    first_fits : size ≤ length out → first_part w runs out ≡ part_of all out
    unfolding first_part flatten
    first_fits h =
        let h₀ : 0 + size ≤ length out = omega arith in
        let new : List ℕ = overlaid out 0 (runs_line runs) in
        let k : length (overlaid out 0 (runs_line runs)) ≡ length out = length-overlaid out 0 (runs_line runs) h₀ in
        let m : 0 + size ≤ length (overlaid out 0 (runs_line runs)) = omega arith in
        let j : length (overlaid out 0 (runs_line runs)) - (0 + size) ≡ length out - size = omega arith in
        let fit : List (List ℕ) = fitting (length out - size) rest in
        let f : fill_runs w runs 0 (0 + size) new ≡ reached 0 (0 + size) new fit =
        fills w line runs agree runs 0 (0 + size) new (omega arith) m ∙ ap (λ (room : ℕ). reached 0 (0 + size) new (fitting room rest)) j in
        let a : 0 + length fit + 1 - 0 ≡ suc (length fit) = omega arith in
        let l : length (runs_line runs ++ flatten fit) ≡ size + length (flatten fit) = length-append (runs_line runs) (flatten fit) in
        let b : 0 + size + length (flatten fit) ≡ length (runs_line runs ++ flatten fit) = omega arith in
        let n : length rest ≡ runs = length-lines line runs 0 in
        let c : runs - (0 + length fit) ≡ suc (length rest) - suc (length fit) = omega arith in
        let d : overlaid new (0 + size) (flatten fit) ≡ (runs_line runs ++ flatten fit) ++ drop (length (runs_line runs ++ flatten fit)) out =
        overlaid-more out 0 (runs_line runs) (flatten fit) h₀ ∙ over-front out (runs_line runs ++ flatten fit) in
        ap (λ (p : Put). part_first w runs p.reply p.out) (put-past (runs_line runs) 0 out h₀)
        ∙ ap (part_after 0 runs) f
        ∙ (λ i. part_left (part_reply (a i) (b i) (c i)) (d i))
        ∙ sym (reply-is all out ∙ ap (λ (x : List (List ℕ)). part_by all x out) (fit-first (runs_line runs) rest (length out) h))

    first_short : length out < size → first_part w runs out ≡ part_of all out
    unfolding first_part
    first_short h =
        ap (λ (p : Put). part_first w runs p.reply p.out) (put-none (runs_line runs) 0 out (omega arith)) ∙ none-fits (runs_line runs) rest out h

    first-is : first_part w runs out ≡ part_of all out
    first-is = ⊎_elim first_fits first_short (le-or-gt size (length out))

    past_is : (from : ℕ) → runs < from → runs_part w runs from out ≡ part_of (drop from all) out
    unfolding runs_part part_of fitting flatten
    past_is from h =
        let n : length rest ≡ runs = length-lines line runs 0 in
        let e : drop from all ≡ [] = drop_of_length-le all {i = from} (omega arith) in
        rw (lt-ltb runs from h, e)

    from_is : (p : ℕ) → suc p ≤ runs → runs_part w runs (suc p) out ≡ part_of (drop (suc p) all) out
    unfolding runs_part flatten
    from_is p h =
        let ls : List (List ℕ) = run_lines line (runs - p) p in
        let fit : List (List ℕ) = fitting (length out) ls in
        let q : suc p - 1 ≡ p = omega arith in
        let o : length out - 0 ≡ length out = omega arith in
        let z : 0 + p ≡ p = omega arith in
        let f : fill_runs w (runs - (suc p - 1)) (suc p - 1) 0 out ≡ reached p 0 out fit =
        ap (λ (m : ℕ). fill_runs w (runs - m) m 0 out) q
        ∙ fills w line runs agree (runs - p) p 0 out (omega arith) zero-le
        ∙ ap (λ (room : ℕ). reached p 0 out (fitting room ls)) o in
        let a : p + length fit + 1 - suc p ≡ length fit = omega arith in
        let b : 0 + length (flatten fit) ≡ length (flatten fit) = omega arith in
        let n : length ls ≡ runs - p = length-lines line (runs - p) p in
        let c : runs - (p + length fit) ≡ length ls - length fit = omega arith in
        let d : drop p rest ≡ ls = drop-lines line p runs 0 ∙ ap (run_lines line (runs - p)) z in
        rw (le-ltb runs (suc p) h, ne_eqb (suc p) 0 (suc-ne-zero p))
        (ap (part_after (suc p) runs) f
        ∙ (λ i. part_left (part_reply (a i) (b i) (c i)) (over-front out (flatten fit) i))
        ∙ sym (ap (λ (x : List (List ℕ)). part_of x out) d ∙ reply-is ls out))

    zero_is : runs_part w runs 0 out ≡ part_of all out
    unfolding runs_part
    zero_is = rw (le-ltb runs 0 zero-le) first-is

    -- the part of a sweep from any line on
    pub runs-is : (from : ℕ) → runs_part w runs from out ≡ part_of (drop from all) out
    runs-is zero = zero_is
    runs-is (suc p) = ⊎_elim (from_is p) (past_is (suc p)) (le-or-gt (suc p) runs)

-- ---- the part of a text

-- the line of a run, judged or swept
abbrev line_for : (judged : Bool) → (sweep judge : ℕ → List ℕ) → (place : ℕ) → List ℕ
line_for judged sweep judge place = cond judged (judge place) (sweep place)

-- a column of zeros has its length
sheet : Sheet fresh_columns
sheet = record {
  kinds-long = zeros-long 32768;
  firsts-long = zeros-long 32768;
  seconds-long = zeros-long 32768;
  thirds-long = zeros-long 32768;
  starts-long = zeros-long 32768;
  pool-long = zeros-long 32768;
}

one_line : (judged : Bool) (text x : List ℕ) → Outputs text (x ∷ []) (x ∷ []) → lines_for judged text ≡ x ∷ []
one_line true text x o = o.judge-lines
one_line false text x o = o.sweep-lines

run-lines : (judged : Bool) (text : List ℕ) (runs : ℕ) (sweep judge : ℕ → List ℕ) → Outputs text (runs_line runs ∷ run_lines sweep runs 0) (runs_line runs ∷ run_lines judge runs 0)
    → lines_for judged text ≡ runs_line runs ∷ run_lines (line_for judged sweep judge) runs 0
run-lines true text runs sweep judge o = o.judge-lines
run-lines false text runs sweep judge o = o.sweep-lines

runs-of : (points : ℕ) → points ≤ 50337794 → runs_of points ≡ suc points
runs-of points h = omega arith

module _ (judged : Bool) (text : List ℕ) (from : ℕ) (out : List ℕ) where
  -- a script that was read, by what its fault-free run left
  opened-is : (h : Head) (rows : ℕ) (k : Columns) (o : OpenLeft) → open_on h rows k ≡ o
      → swept_part judged from h rows k out ≡ opened_part judged from h rows k o.reply o.kinds o.offsets o.lens out
  unfolding swept_part
  opened-is h rows k o e =
      ap (λ (x : OpenLeft). opened_part judged from h rows k x.reply x.kinds x.offsets x.lens out) e

  abbrev Wanted : Type 0
  Wanted = part_call judged text from out ≡ part_of (drop from (lines_for judged text)) out

  by-ways : Printed text fresh_columns → Wanted
  unfolding part_call recorded_part
  by-ways (unread number line r o) =
      ap (λ (x : After). read_part judged from x.reply x.columns out) r
      ∙ ap (λ (ls : List (List ℕ)). part_of (drop from ls) out) (sym (one_line judged text (refused_text number line) o))
  by-ways (unswept h rows bytes k o number r small opens e outs) =
      ap (λ (x : After). read_part judged from x.reply x.columns out) r
      ∙ opened-is h rows k o opens
      ∙ ap (λ (x : Opened). opened_part judged from h rows k x o.kinds o.offsets o.lens out) e
      ∙ ap (λ (ls : List (List ℕ)). part_of (drop from ls) out) (sym (one_line judged text (refused_text number 0) outs))
  by-ways (swept h rows bytes k o operations points sweep judge r small opens sp outs) =
      let w : ℕ → ℕ → List ℕ → Put =
      λ place at new. run_line_call judged place h rows k (take operations o.kinds) (take operations o.offsets) (take operations o.lens) at new in
      ap (λ (x : After). read_part judged from x.reply x.columns out) r
      ∙ opened-is h rows k o opens
      ∙ ap (λ (x : Opened). opened_part judged from h rows k x o.kinds o.offsets o.lens out) sp.opened
      ∙ ap (λ (n : ℕ). runs_part w n from out) (runs-of points sp.few-points)
      ∙ runs-is w (line_for judged sweep judge) (suc points)
      (λ place at new b. line_at judged place h rows k o operations (sweep place) (judge place) (sp.at_places place (le_of_suc-le-suc b)) at new) out from
      ∙ ap (λ (ls : List (List ℕ)). part_of (drop from ls) out) (sym (run-lines judged text (suc points) sweep judge outs))

  pub part-is : Wanted
  part-is = by-ways (printed text fresh_columns sheet)

-- ---- parts one after another

abbrev Short : List ℕ → Type 0
Short x = length x ≤ 11915

short-lines : (line : ℕ → List ℕ) (n p : ℕ) → ((i : ℕ) → i < p + n → Short (line i)) → Each Short (run_lines line n p)
unfolding run_lines
short-lines line zero p h = each_none Short
short-lines line (suc n) p h =
    each-cons Short (line p) (run_lines line n (suc p)) (h p (omega arith)) (short-lines line n (suc p) (λ i b. h i (omega arith)))

room-from : (from : ℕ) (ls : List (List ℕ)) (room : ℕ) → Each Short ls → 11915 ≤ room → from < length ls → 0 < length (fitting room (drop from ls))
room-from from [] room e h b = absurd (not-suc-le-zero b)
room-from zero (x ∷ xs) room e h b =
    let s : length x ≤ room = le_trans (e x (Memᴰ.head refl)) h in
    rw (fit-first x xs room s) (omega arith)
room-from (suc n) (x ∷ xs) room e h b = room-from n xs room (λ y m. e y (Memᴰ.tail m)) h (le_of_suc-le-suc b)

some_fit : (from : ℕ) (ls : List (List ℕ)) (room : ℕ) → Each Short ls → 11915 ≤ room → none_fits room (drop from ls) ≡ false
some_fit zero [] room e h = refl
some_fit (suc n) [] room e h = refl
some_fit zero (x ∷ xs) room e h = le-ltb room (length x) (le_trans (e x (Memᴰ.head refl)) h)
some_fit (suc n) (x ∷ xs) room e h = some_fit n xs room (λ y m. e y (Memᴰ.tail m)) h

flat-short : (ls : List (List ℕ)) → Each Short ls → length (flatten ls) ≤ 11915 * length ls
unfolding flatten
flat-short [] e = zero-le
flat-short (x ∷ xs) e =
    let h = e x (Memᴰ.head refl) in
    let k = flat-short xs (λ y m. e y (Memᴰ.tail m)) in
    let l : length (x ++ flatten xs) ≡ length x + length (flatten xs) = length-append x (flatten xs) in
    omega arith

each-drop : (n : ℕ) (ls : List (List ℕ)) → Each Short ls → Each Short (drop n ls)
each-drop zero ls e = e
each-drop (suc n) [] e = e
each-drop (suc n) (x ∷ xs) e = each-drop n xs (λ y m. e y (Memᴰ.tail m))

-- the first part, and the parts after it
module _ (n : ℕ) (ls : List (List ℕ)) (out : List ℕ) (short : Each Short ls) (h : 11915 ≤ length out) where
  abbrev fit : List (List ℕ)
  fit = fitting (length out) ls

  abbrev then : List ℕ
  then = flatten fit ++ drop (length (flatten fit)) out

  turn_is : in_turn (suc n) ls out ≡ flatten fit ++ in_turn n (drop (length fit) ls) then
  unfolding in_turn part_of
  turn_is = rw (some_fit 0 ls (length out) short h, take-append_seam (flatten fit) (drop (length (flatten fit)) out))

  then-long : 11915 ≤ length then
  then-long =
      let l : length then ≡ length (flatten fit) + length (drop (length (flatten fit)) out) = length-append (flatten fit) (drop (length (flatten fit)) out) in
      let d : length (drop (length (flatten fit)) out) ≡ length out - length (flatten fit) = length-drop (length (flatten fit)) out in
      omega arith

  fewer : length ls ≤ suc n → length (drop (length fit) ls) ≤ n
  fewer k = ⊎_elim (λ z. omega (arith, length-drop (length fit) ls)) (λ b. omega (arith, length-drop (length fit) ls, room-from 0 ls (length out) short h b)) (le-or-gt (length ls) 0)

turns-all : (n : ℕ) (ls : List (List ℕ)) (out : List ℕ) → Each Short ls → 11915 ≤ length out → length ls ≤ n → in_turn n ls out ≡ flatten ls
unfolding in_turn flatten
turns-all zero [] out e h k = refl
turns-all zero (x ∷ xs) out e h k = absurd (not-suc-le-zero k)
turns-all (suc n) ls out e h k =
    let fit : List (List ℕ) = fitting (length out) ls in
    turn_is n ls out e h
    ∙ ap (λ (x : List ℕ). flatten fit ++ x) (turns-all n (drop (length fit) ls) (flatten fit ++ drop (length (flatten fit)) out) (each-drop (length fit) ls e) (then-long n ls out e h) (fewer n ls out e h k))
    ∙ sym (flatten-append fit (drop (length fit) ls)) ∙ ap flatten (fit-before ls (length out))

module _ (ls : List (List ℕ)) (text : List ℕ) (f : flatten ls ≡ text) (few : length ls ≤ 50337796) (short : Each Short ls) where
  part-fits : (from : ℕ) (out : List ℕ) → 11915 ≤ length out → part_of (drop from ls) out ≡ part_with (drop from ls) (fitting (length out) (drop from ls)) out
  unfolding part_of
  part-fits from out h = rw (some_fit from ls (length out) short h)

  parts-of : Parts ls text
  parts-of = record {
    together = f;
    not-many = few;
    not-long = let h = flat-short ls short in rw (← f) (omega arith);
    has_room = λ from out h b. room-from from ls (length out) short h b;
    goes_on = λ from out h. (
      part-fits from out h,
      sym (flatten-append (fitting (length out) (drop from ls)) (drop (length (fitting (length out) (drop from ls))) (drop from ls)))
          ∙ ap flatten (fit-before (drop from ls) (length out)),
    );
    in-turn = λ turns out h k. turns-all turns ls out short h k ∙ f;
  }

one-part : (x text : List ℕ) (ls : List (List ℕ)) → ls ≡ x ∷ [] → text ≡ flatten (x ∷ []) → Short x → Parts ls text
one-part x text ls e t s =
    parts-of ls text (ap flatten e ∙ sym t) (rw e (omega arith)) (rw e (each-cons Short x [] s (each_none Short)))

run-parts : (points : ℕ) (line : ℕ → List ℕ) (text : List ℕ) (ls : List (List ℕ)) → ls ≡ runs_line (suc points) ∷ run_lines line (suc points) 0
    → text ≡ flatten (runs_line (suc points) ∷ run_lines line (suc points) 0) → points ≤ 50337794 → ((i : ℕ) → i < suc points → Short (line i)) → Parts ls text
run-parts points line text ls e t few short =
    let n : length (run_lines line (suc points) 0) ≡ suc points = length-lines line (suc points) 0 in
    let all : Each Short (runs_line (suc points) ∷ run_lines line (suc points) 0) =
    each-cons Short (runs_line (suc points)) (run_lines line (suc points) 0) (runs-short (suc points)) (short-lines line (suc points) 0 (λ i b. short i (omega arith))) in
    parts-of ls text (ap flatten e ∙ sym t) (rw e (omega arith)) (rw e all)

parts-by : (text : List ℕ) → Printed text fresh_columns → Parts (sweep_lines text) (sweep_output text) × Parts (judge_lines text) (judge_output text)
parts-by text (unread number line r o) = (
  one-part (refused_text number line) (sweep_output text) (sweep_lines text) o.sweep-lines o.sweep-is (refused-short number line),
  one-part (refused_text number line) (judge_output text) (judge_lines text) o.judge-lines o.judge-is (refused-short number line),
)
parts-by text (unswept h rows bytes k w number r small opens e o) = (
  one-part (refused_text number 0) (sweep_output text) (sweep_lines text) o.sweep-lines o.sweep-is (refused-short number 0),
  one-part (refused_text number 0) (judge_output text) (judge_lines text) o.judge-lines o.judge-is (refused-short number 0),
)
parts-by text (swept h rows bytes k w operations points sweep judge r small opens sp o) = (
  run-parts points sweep (sweep_output text) (sweep_lines text) o.sweep-lines o.sweep-is sp.few-points (λ i b. (sp.at_places i (le_of_suc-le-suc b)).sweep-short),
  run-parts points judge (judge_output text) (judge_lines text) o.judge-lines o.judge-is sp.few-points (λ i b. (sp.at_places i (le_of_suc-le-suc b)).judge-short),
)

-- for every text: the lines are the text, and each part goes on where the one before ended
pub all-parts : AllParts
all-parts text = parts-by text (printed text fresh_columns sheet)
