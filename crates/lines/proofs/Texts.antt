-- Lines as the pieces that make them up.
--     judge-is              a run's line of `judge` is that of its verdict and its suggested history
--     line-pieces           the pieces of a line of fields
--     runs-pieces, refused-pieces, judge-pieces     the pieces of each line
-- Assumes nothing.
use mathlib.Core.Path.{◌≡◌, refl, sym, ap, ◌∙◌}
use mathlib.Core.List.{List, [], ◌∷◌, ◌++◌, append_assoc, append-nil, map, flatten}
use Prim.Native.Nat.{ℕ}
use Rattle.std.specs.Prelude.{None as Absent}
use Rattle.basics.specs.Replies.{number_in}
use Rattle.oracle.specs.Verdict.{number_of, verdict}
use Rattle.text.specs.Numbers.{decimal_of}
use Rattle.script.specs.Print.{joined}
use Rattle.history.specs.History.{suggested}
use Rattle.pieces.specs.Pieces.{letter, letters, tabbed}
use Rattle.pieces.proofs.Lists.{flatten-append}
use Rattle.lines.specs.Lines.{Shown, line, judged_line, judge_line, runs_line, refused_text}

pub judge-is : (place : ℕ) (r : Shown) → judge_line place r ≡ judged_line place (number_in number_of (verdict r.ledger (suggested r.ledger) [] Absent)) (suggested r.ledger)
unfolding judge_line
judge-is place r = refl

joined-tabbed : (f : List ℕ) (fs : List (List ℕ)) → joined (f ∷ fs) ≡ f ++ flatten (tabbed fs)
unfolding joined tabbed flatten
joined-tabbed f [] = sym (append-nil f)
joined-tabbed f (g ∷ fs) = ap (λ (l : List ℕ). f ++ (9 ∷ l)) (joined-tabbed g fs)

pub line-pieces : (f : List ℕ) (fs : List (List ℕ)) → flatten (f ∷ (tabbed fs ++ (letter 10 ∷ []))) ≡ line (f ∷ fs)
unfolding flatten
line-pieces f fs =
    ap (λ (l : List ℕ). f ++ l) (flatten-append (tabbed fs) (letter 10 ∷ [])) ∙ sym (append_assoc f (flatten (tabbed fs)) (letter 10))
    ∙ ap (λ (l : List ℕ). l ++ letter 10) (sym (joined-tabbed f fs))

pub runs-pieces : (count : ℕ) → flatten (letters (114 ∷ 117 ∷ 110 ∷ 115 ∷ []) ++ (letter 9 ∷ decimal_of count ∷ []) ++ (letter 10 ∷ [])) ≡ runs_line count
unfolding letters flatten joined
runs-pieces count = refl

pub refused-pieces : (number at : ℕ) → flatten (letters (114 ∷ 101 ∷ 102 ∷ 117 ∷ 115 ∷ 101 ∷ 100 ∷ []) ++ (letter 9 ∷ decimal_of number ∷ []) ++ (letter 9 ∷ decimal_of at ∷ []) ++ (letter 10 ∷ [])) ≡ refused_text number at
unfolding letters flatten joined
refused-pieces number at = ap (λ (l : List ℕ). 114 ∷ 101 ∷ 102 ∷ 117 ∷ 115 ∷ 101 ∷ 100 ∷ 9 ∷ l) (sym (append_assoc (decimal_of number) (9 ∷ decimal_of at) (letter 10)))

pub judge-pieces : (place number : ℕ) (history : List ℕ)
    → flatten ((decimal_of place ∷ []) ++ (letter 9 ∷ decimal_of number ∷ []) ++ tabbed (map decimal_of history) ++ (letter 10 ∷ [])) ≡ judged_line place number history
unfolding tabbed
judge-pieces place number history = line-pieces (decimal_of place) (decimal_of number ∷ map decimal_of history)
