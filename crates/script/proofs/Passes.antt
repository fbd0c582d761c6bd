-- The checking pass: what a turn over the lines shows, each way out, and what the whole script then is.
-- Assumes nothing.
use mathlib.Core.Path.{◌≡◌, refl, ap, ap₂, sym, ◌∙◌}
use mathlib.Core.List.{List, [], ◌∷◌, ◌++◌}
use Prim.Native.Nat.{ℕ, suc, ◌+◌, ◌*◌, ◌≤◌, ◌<◌}
use native.Mathlib.Nat.{add-zero}
use native.Mathlib.Omega.{arith}
use lib.ListN.{length, get_or, drop, drop_of_length-le, length-append}
use borrow.Author.Tests.{ne_eqb, le-leb, lt-leb}
use Rattle.basics.proofs.Scans.{at-step}
use Rattle.text.specs.Lines.{TextLine, ended, unended, lines_of, fields_of}
use Rattle.script.specs.declared.Head.{Head}
use Rattle.script.specs.declared.Row.{Row}
use Rattle.script.specs.declared.ScriptError.{ScriptError}
use Rattle.refusals.specs.declared.Refusal.TheVariants.{MalformedLine}
use Rattle.refusals.specs.Numbers.{number_of}
use Rattle.std.specs.Prelude.{Ok, Err}
use Rattle.script.specs.Calls.{Call, Meaning, call, malformed, call_of, meaning_of, Reading, calls, faulty, call_then, on_meaning, read_lines}
use Rattle.script.specs.First.{no_head, first_of_line, head_test}
use Rattle.script.specs.Script.{refused, with_calls, with_test, with_lines, script_of}
use Rattle.script.specs.Columns.{bytes_in, bytes_of}
use Rattle.script.specs.Inner.{Cells, cells, broken, cells_of, meaning_in, head_in, Taken, HeadTaken, fault_at, checked_from, Sane}
use Rattle.script.proofs.Cells.{cells-split, cells-broken}

-- ---- one line among the lines

pub line-by : (n : ℕ) (l : TextLine) (ls : List TextLine) (m : Meaning) → meaning_of l ≡ m → read_lines n (l ∷ ls) ≡ on_meaning m n (read_lines (n + 1) ls)
unfolding read_lines
line-by n l ls m e = rw e

meant : (line f : List ℕ) (fs : List (List ℕ)) → fields_of line ≡ f ∷ fs → meaning_of (ended line) ≡ call_of (f ∷ fs)
unfolding meaning_of
meant line f fs e = ap call_of e

unmeant : (line : List ℕ) → meaning_of (unended line) ≡ malformed
unfolding meaning_of
unmeant line = refl

faulty-by : (C : Cells) (n x : ℕ) (xs : List ℕ) → cells_of (x ∷ xs) ≡ C → meaning_in C ≡ malformed → read_lines n (lines_of (x ∷ xs)) ≡ faulty n
faulty-by broken n x xs e m = ap (read_lines n) (cells-broken x xs e) ∙ line-by n (unended (x ∷ xs)) [] malformed (unmeant (x ∷ xs))
faulty-by (cells f fs r) n x xs e m =
    let w = cells-split (x ∷ xs) f fs r e in
    ap (read_lines n) w.is ∙ line-by n (ended w.line) (lines_of r) malformed (meant w.line f fs w.fields ∙ m)

pub line-faulty : (s : List ℕ) (at n : ℕ) → at < length s → meaning_in (cells_of (drop at s)) ≡ malformed → read_lines n (lines_of (drop at s)) ≡ faulty n
line-faulty s at n h m =
    let e : drop at s ≡ get_or s at 0 ∷ drop (at + 1) s = at-step (λ (l : List ℕ). l) s at 0 h in
    ap (λ (l : List ℕ). read_lines n (lines_of l)) e
    ∙ faulty-by (cells_of (get_or s at 0 ∷ drop (at + 1) s)) n (get_or s at 0) (drop (at + 1) s) refl (ap (λ (l : List ℕ). meaning_in (cells_of l)) (sym e) ∙ m)

pub line_taken : (s : List ℕ) (at : ℕ) (row : Row) (next n : ℕ) (w : Taken s at row next)
    → read_lines n (lines_of (drop at s)) ≡ call_then w.it (read_lines (n + 1) (lines_of (drop next s)))
line_taken s at row next n w =
    let v = cells-split (drop at s) w.field w.others (drop next s) w.is in
    ap (read_lines n) v.is ∙ line-by n (ended v.line) (lines_of (drop next s)) (call w.it) (meant v.line w.field w.others v.fields ∙ w.means)

pub no_lines : (s : List ℕ) (at n : ℕ) → length s ≤ at → read_lines n (lines_of (drop at s)) ≡ calls []
unfolding read_lines lines_of
no_lines s at n h = rw (drop_of_length-le s {i = at} h)

-- ---- check_lines: what was counted, and what follows

pub record Sofar (s : List ℕ) (from at n b : ℕ) : Type 0 where
  pub is : checked_from 0 0 (read_lines 2 (lines_of (drop from s))) ≡ checked_from n b (read_lines (n + 2) (lines_of (drop at s)))
  pub inside : at ≤ length s
  pub few : n ≤ at
  pub small : b ≤ 4096 * n

pub sofar-start : (s : List ℕ) (from : ℕ) → from ≤ length s → Sofar s from from 0 0
sofar-start s from h = record { is = refl; inside = h; few = omega arith; small = omega arith }

count-step : (n b : ℕ) (x : Call) (R : Reading) → checked_from n b (call_then x R) ≡ checked_from (n + 1) (b + length (bytes_in x)) R
unfolding bytes_of
count-step n b x (faulty line) = refl
count-step n b x (calls cs) =
    let p : n + suc (length cs) ≡ n + 1 + length cs = omega arith in
    let q : b + length (bytes_in x ++ bytes_of cs) ≡ b + length (bytes_in x) + length (bytes_of cs) = omega (arith, length-append (bytes_in x) (bytes_of cs)) in
    ap₂ (λ (m l : ℕ). Ok (m, l)) p q

module _ (s : List ℕ) (from at n b : ℕ) (w : Sofar s from at n b) where
  pub sofar-end : length s ≤ at → Ok (n, b) ≡ checked_from 0 0 (read_lines 2 (lines_of (drop from s)))
  unfolding bytes_of
  sofar-end h = sym (w.is ∙ ap (checked_from n b) (no_lines s at (n + 2) h) ∙ ap₂ (λ (m l : ℕ). Ok (m, l)) (add-zero n) (add-zero b))

  module _ (h : at < length s) where
    pub sofar-fault : meaning_in (cells_of (drop at s)) ≡ malformed → Err (fault_at MalformedLine (n + 2)) ≡ checked_from 0 0 (read_lines 2 (lines_of (drop from s)))
    sofar-fault m = sym (w.is ∙ ap (checked_from n b) (line-faulty s at (n + 2) h m))

    pub sofar-next : (row : Row) (next : ℕ) → Taken s at row next → Sofar s from next (n + 1) (b + row.size)
    sofar-next row next t =
        let f = t.forward in
        let m = t.small in
        let a = w.few in
        let c = w.small in
        let l : n + 2 + 1 ≡ n + 1 + 2 = omega arith in
        record {
          is =
              w.is
              ∙ ap (checked_from n b) (line_taken s at row next (n + 2) t)
              ∙ count-step n b t.it (read_lines (n + 2 + 1) (lines_of (drop next s)))
              ∙ ap₂ (λ (d i : ℕ). checked_from (n + 1) (b + d) (read_lines i (lines_of (drop next s)))) (sym t.size_is) l;
          inside = t.inside;
          few = omega arith;
          small = omega arith;
        }

-- ---- check

no-head-by : (C : Cells) (xs : List ℕ) → cells_of xs ≡ C → head_in C ≡ no_head → with_lines (lines_of xs) ≡ refused 8 1
unfolding lines_of first_of_line
no-head-by C [] e h = refl
no-head-by broken (x ∷ xs) e h = ap with_lines (cells-broken x xs e)
no-head-by (cells f fs r) (x ∷ xs) e h =
    let w = cells-split (x ∷ xs) f fs r e in
    ap with_lines w.is ∙ rw (w.fields, h)

pub whole_long : (s : List ℕ) → 65536 < length s → script_of s ≡ refused 9 0
unfolding script_of
whole_long s h = rw (lt-leb _ _ h)

module _ (s : List ℕ) (l : length s ≤ 65536) where
  by_lines : script_of s ≡ with_lines (lines_of s)
  unfolding script_of
  by_lines = rw (le-leb _ _ l)

  pub whole-no-head : head_in (cells_of s) ≡ no_head → script_of s ≡ refused 8 1
  whole-no-head h = by_lines ∙ no-head-by (cells_of s) s refl h

  module _ (h : Head) (body : ℕ) (t : HeadTaken s h body) where
    by-head : script_of s ≡ with_test (head_test h.geometry) (with_calls h (read_lines 2 (lines_of (drop body s))))
    unfolding first_of_line
    by-head =
        let w = cells-split s t.field t.others (drop body s) t.is in
        by_lines ∙ ap with_lines w.is ∙ rw (w.fields, t.means)

    pub whole-test : (n : ℕ) → (n ≡ 0 → ⊥) → n ≡ head_test h.geometry → script_of s ≡ refused n 1
    whole-test n z e = by-head ∙ rw (← e, ne_eqb n 0 z)

    module _ (z : 0 ≡ head_test h.geometry) where
      by-calls : script_of s ≡ with_calls h (read_lines 2 (lines_of (drop body s)))
      by-calls = by-head ∙ rw (← z)

      pub whole-fault : (e : ScriptError) → Err e ≡ checked_from 0 0 (read_lines 2 (lines_of (drop body s))) → script_of s ≡ refused (number_of e.refusal) e.line
      whole-fault e ec = by-calls ∙ by (read_lines 2 (lines_of (drop body s))) (sym ec)
        where
          by : (R : Reading) → checked_from 0 0 R ≡ Err e → with_calls h R ≡ refused (number_of e.refusal) e.line
          by (calls cs) x = absurd (let o : ◌≡◌ {A = ℕ} 0 1 = cc in omega arith)
          by (faulty m) x = let y : fault_at MalformedLine m ≡ e = cc in rw (← y)

      pub whole-sound : (a b : ℕ) → Ok (a, b) ≡ checked_from 0 0 (read_lines 2 (lines_of (drop body s))) → Sane s h body a b
      whole-sound a b ec = by (read_lines 2 (lines_of (drop body s))) refl (sym ec)
        where
          by : (R : Reading) → read_lines 2 (lines_of (drop body s)) ≡ R → checked_from 0 0 R ≡ Ok (a, b) → Sane s h body a b
          by (calls cs) i x =
              let p : ◌≡◌ {A = ℕ × ℕ} (0 + length cs, 0 + length (bytes_of cs)) (a, b) = cc in
              let y : 0 + length cs ≡ a = ap (λ (z : ℕ × ℕ). z.0) p in
              let o : 0 + length (bytes_of cs) ≡ b = ap (λ (z : ℕ × ℕ). z.1) p in
              record { cs = cs; is = by-calls ∙ rw i; lines = i; count = omega arith; size = omega arith; inside = t.inside; short = l }
          by (faulty m) i x = absurd (let o : ◌≡◌ {A = ℕ} 0 1 = cc in omega arith)

-- all of them, for `search (rules, passes)`
pub ruleset passes = (sofar-start, sofar-end, sofar-fault, sofar-next, whole_long, whole-no-head, whole-fault, whole-sound)
