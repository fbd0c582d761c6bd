-- The ways out of the functions that write a line: how long each line is, and what is answered where it fits and where it does not.
-- Assumes nothing.
use mathlib.Core.Path.{◌≡◌, sym, ap, ◌∙◌}
use mathlib.Core.Bool.{Bool, true, false}
use mathlib.Core.List.{List, [], ◌∷◌, ◌++◌, map, flatten}
use Prim.Native.Nat.{ℕ, ◌+◌}
use native.Mathlib.Omega.{arith}
use lib.ListN.{length, length-append}
use lib.Dec.{leb}
use Rattle.text.specs.Numbers.{decimal_of}
use Rattle.text.specs.Printing.{Places}
use Rattle.script.specs.Print.{joined}
use Rattle.pieces.specs.Pieces.{letter, Cursor, cursor, after, after_all, letters, tabbed}
use Rattle.pieces.proofs.Lists.{flatten-append}
use Rattle.pieces.proofs.Cursors.{joint, last-piece}
use Rattle.std.specs.Prelude.{Ok as Past, Err as NotWritten}
use Rattle.lines.specs.Lines.{judged_line, runs_line, refused_text}
use Rattle.lines.specs.Answers.{Put, put}
use Rattle.lines.proofs.Texts.{runs-pieces, refused-pieces, judge-pieces}
use Rattle.lines.proofs.Puts.{line-short, line-done}

zero_is : ◌≡◌ {A = ℕ} 0 0
zero_is = omega arith

-- ---- `runs`

runs-long : (count n : ℕ) → Places count n → length (runs_line count) ≡ n + 6
unfolding joined
runs-long count n w =
    let l : length (decimal_of count ++ letter 10) ≡ length (decimal_of count) + 1 = length-append (decimal_of count) (letter 10) in
    omega (arith, l, w.is)

module _ (count at : ℕ) (out : List ℕ) (n : ℕ) (w : Places count n) (f : Bool) (e : f ≡ leb (at + (n + 6)) (length out)) where
  past-runs : at + (n + 6) ≡ at + length (runs_line count)
  past-runs = ap (λ (k : ℕ). at + k) (sym (runs-long count n w))

  pub runs-short : f ≡ false → ◌≡◌ {A = Put} (record { reply = NotWritten 13; out = out }) (put 0 (runs_line count) at out)
  runs-short h = line-short 0 zero_is (runs_line count) at out f (at + (n + 6)) e past-runs h

  pub runs_done : f ≡ true → (a b : Cursor) (r : ℕ) (new : List ℕ) → a ≡ after_all (letters (114 ∷ 117 ∷ 110 ∷ 115 ∷ [])) (cursor at out)
      → b ≡ after_all (letter 9 ∷ decimal_of count ∷ []) a → cursor r new ≡ after (letter 10) b
      → ◌≡◌ {A = Put} (record { reply = Past r; out = new }) (put 0 (runs_line count) at out)
  runs_done h a b r new i j k =
      let word = letters (114 ∷ 117 ∷ 110 ∷ 115 ∷ []) in
      let field = letter 9 ∷ decimal_of count ∷ [] in
      line-done 0 zero_is (runs_line count) at out f (at + (n + 6)) e past-runs h (word ++ field ++ (letter 10 ∷ [])) (runs-pieces count) r new
      (last-piece (word ++ field) (letter 10) (cursor at out) b (cursor r new) (joint word field (cursor at out) a b i j) k)

-- ---- `refused`

refused-long : (number line n m : ℕ) → Places number n → Places line m → length (refused_text number line) ≡ n + m + 10
unfolding joined
refused-long number line n m w v =
    let l : length ((decimal_of number ++ (9 ∷ decimal_of line)) ++ letter 10) ≡ length (decimal_of number ++ (9 ∷ decimal_of line)) + 1 = length-append (decimal_of number ++ (9 ∷ decimal_of line)) (letter 10) in
    let k : length (decimal_of number ++ (9 ∷ decimal_of line)) ≡ length (decimal_of number) + length (9 ∷ decimal_of line) = length-append (decimal_of number) (9 ∷ decimal_of line) in
    omega (arith, l, k, w.is, v.is)

module _ (number line at : ℕ) (out : List ℕ) (n m : ℕ) (w : Places number n) (v : Places line m) (f : Bool) (e : f ≡ leb (at + (n + m + 10)) (length out)) where
  past-refused : at + (n + m + 10) ≡ at + length (refused_text number line)
  past-refused = ap (λ (k : ℕ). at + k) (sym (refused-long number line n m w v))

  pub refused-short : f ≡ false → ◌≡◌ {A = Put} (record { reply = NotWritten 13; out = out }) (put 0 (refused_text number line) at out)
  refused-short h = line-short 0 zero_is (refused_text number line) at out f (at + (n + m + 10)) e past-refused h

  pub refused-done : f ≡ true → (a b c : Cursor) (r : ℕ) (new : List ℕ) → a ≡ after_all (letters (114 ∷ 101 ∷ 102 ∷ 117 ∷ 115 ∷ 101 ∷ 100 ∷ [])) (cursor at out)
      → b ≡ after_all (letter 9 ∷ decimal_of number ∷ []) a → c ≡ after_all (letter 9 ∷ decimal_of line ∷ []) b → cursor r new ≡ after (letter 10) c
      → ◌≡◌ {A = Put} (record { reply = Past r; out = new }) (put 0 (refused_text number line) at out)
  refused-done h a b c r new i j k g =
      let word = letters (114 ∷ 101 ∷ 102 ∷ 117 ∷ 115 ∷ 101 ∷ 100 ∷ []) in
      let one = letter 9 ∷ decimal_of number ∷ [] in
      let two = letter 9 ∷ decimal_of line ∷ [] in
      line-done 0 zero_is (refused_text number line) at out f (at + (n + m + 10)) e past-refused h (word ++ one ++ two ++ (letter 10 ∷ [])) (refused-pieces number line) r new
      (last-piece (word ++ one ++ two) (letter 10) (cursor at out) c (cursor r new) (joint (word ++ one) two (cursor at out) b c (joint word one (cursor at out) a b i j) k) g)

-- ---- a run's line of `judge`

judged-long : (place number : ℕ) (history : List ℕ) (n m : ℕ) → Places place n → Places number m
    → length (judged_line place number history) ≡ n + m + 2 + length (flatten (tabbed (map decimal_of history)))
unfolding flatten
judged-long place number history n m w v =
    let fields = tabbed (map decimal_of history) in
    let last = flatten (fields ++ (letter 10 ∷ [])) in
    let l : length (decimal_of place ++ (9 ∷ (decimal_of number ++ last))) ≡ length (decimal_of place) + length (9 ∷ (decimal_of number ++ last)) = length-append (decimal_of place) (9 ∷ (decimal_of number ++ last)) in
    let k : length (decimal_of number ++ last) ≡ length (decimal_of number) + length last = length-append (decimal_of number) last in
    let q : length last ≡ length (flatten fields) + 1 = ap length (flatten-append fields (letter 10 ∷ [])) ∙ length-append (flatten fields) (letter 10) in
    ap length (sym (judge-pieces place number history)) ∙ omega (arith, l, k, q, w.is, v.is)

module _ (place number : ℕ) (history : List ℕ) (at : ℕ) (out : List ℕ) (n m : ℕ) (w : Places place n) (v : Places number m) (f : Bool)
    (e : f ≡ leb (at + (n + m + 2) + length (flatten (tabbed (map decimal_of history)))) (length out)) where
  past-judged : at + (n + m + 2) + length (flatten (tabbed (map decimal_of history))) ≡ at + length (judged_line place number history)
  past-judged = omega (arith, judged-long place number history n m w v)

  pub judge-short : f ≡ false → ◌≡◌ {A = Put} (record { reply = NotWritten 13; out = out }) (put 0 (judged_line place number history) at out)
  judge-short h = line-short 0 zero_is (judged_line place number history) at out f (at + (n + m + 2) + length (flatten (tabbed (map decimal_of history)))) e past-judged h

  pub judge-done : f ≡ true → (a b c : Cursor) (r : ℕ) (new : List ℕ) → a ≡ after (decimal_of place) (cursor at out)
      → b ≡ after_all (letter 9 ∷ decimal_of number ∷ []) a → c ≡ after_all (tabbed (map decimal_of history)) b → cursor r new ≡ after (letter 10) c
      → ◌≡◌ {A = Put} (record { reply = Past r; out = new }) (put 0 (judged_line place number history) at out)
  unfolding after_all
  judge-done h a b c r new i j k g =
      let one = decimal_of place ∷ [] in
      let two = letter 9 ∷ decimal_of number ∷ [] in
      let three = tabbed (map decimal_of history) in
      line-done 0 zero_is (judged_line place number history) at out f (at + (n + m + 2) + length (flatten (tabbed (map decimal_of history)))) e past-judged h
      (one ++ two ++ three ++ (letter 10 ∷ [])) (judge-pieces place number history) r new
      (last-piece (one ++ two ++ three) (letter 10) (cursor at out) c (cursor r new) (joint (one ++ two) three (cursor at out) b c (joint one two (cursor at out) a b i j) k) g)
