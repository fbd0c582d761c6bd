-- The ways out of `sweep_line`: how long the line is, and what is answered where it fits and where it does not.
-- Assumes nothing.
use mathlib.Core.Path.{◌≡◌, ap, ◌∙◌}
use mathlib.Core.Bool.{Bool, true, false}
use mathlib.Core.List.{List, [], ◌∷◌, ◌++◌, flatten}
use Prim.Native.Nat.{ℕ, ◌+◌}
use native.Mathlib.Omega.{arith}
use lib.ListN.{length, length-append}
use lib.Dec.{leb}
use Rattle.landing.specs.declared.Stop.{Stop}
use Rattle.model.specs.Columns.{ledger_of, refused}
use Rattle.session.specs.Armed.{Armed}
use Rattle.pieces.specs.Pieces.{letter, Cursor, cursor, after, after_all}
use Rattle.pieces.proofs.Lists.{flatten-append}
use Rattle.pieces.proofs.Cursors.{joint, last-piece}
use Rattle.std.specs.Prelude.{Ok as Past, Err as NotWritten}
use Rattle.lines.specs.Lines.{sweep_line}
use Rattle.lines.specs.Answers.{Put}
use Rattle.lines.proofs.Puts.{put-not, line-short, line-done}
use Rattle.sweep_heads.specs.Heads.{head_pieces, Few}
use Rattle.sweep_lines.specs.Answers.{shown_of, sweep_put}
use Rattle.sweep_lines.specs.Fields.{ledger_pieces}
use Rattle.sweep_lines.proofs.Texts.{sweep-pieces}

pub zero_is : ◌≡◌ {A = ℕ} 0 0
zero_is = omega arith

-- a text and the LF
last : (t : List ℕ) → length (t ++ flatten (letter 10 ∷ [])) ≡ length t + 1
unfolding flatten
last t = length-append t (letter 10)

module _ (place : ℕ) (armed : Armed) (stop : Stop) (operations : ℕ) (is ss ts : List ℕ) (at : ℕ) (out : List ℕ) (number : ℕ) (u : number ≡ refused is ss ts) where
  pub sweep-not : (number ≡ 0 → ⊥) → ◌≡◌ {A = Put} (record { reply = NotWritten number; out = out }) (sweep_put place armed stop operations is ss ts at out)
  unfolding sweep_put
  sweep-not h = rw (← u) (put-not number (sweep_line place (shown_of armed stop operations is ss ts)) at out h)

  module _ (z : number ≡ 0) (n : ℕ) (w : Few 110 (flatten (head_pieces place armed stop operations)) n) (f : Bool)
      (e : f ≡ leb (at + (n + 1) + length (flatten (ledger_pieces (ledger_of is ss ts)))) (length out)) where
    past-sweep : at + (n + 1) + length (flatten (ledger_pieces (ledger_of is ss ts))) ≡ at + length (sweep_line place (shown_of armed stop operations is ss ts))
    past-sweep =
        let head = head_pieces place armed stop operations in
        let entries = ledger_pieces (ledger_of is ss ts) in
        let l : length (flatten (head ++ entries ++ (letter 10 ∷ []))) ≡ length (flatten (head ++ entries)) + 1 = ap length (flatten-append (head ++ entries) (letter 10 ∷ [])) ∙ last (flatten (head ++ entries)) in
        let k : length (flatten (head ++ entries)) ≡ length (flatten head) + length (flatten entries) = ap length (flatten-append head entries) ∙ length-append (flatten head) (flatten entries) in
        let q : length (flatten (head ++ entries ++ (letter 10 ∷ []))) ≡ length (sweep_line place (shown_of armed stop operations is ss ts)) = ap length (sweep-pieces place (shown_of armed stop operations is ss ts)) in
        omega (arith, l, k, q, w.is)

    pub sweep-short : f ≡ false → ◌≡◌ {A = Put} (record { reply = NotWritten 13; out = out }) (sweep_put place armed stop operations is ss ts at out)
    unfolding sweep_put
    sweep-short h =
        rw (← u)
        (line-short number z (sweep_line place (shown_of armed stop operations is ss ts)) at out f (at + (n + 1) + length (flatten (ledger_pieces (ledger_of is ss ts)))) e past-sweep h)

    pub sweep-done : f ≡ true → (a b : Cursor) (r : ℕ) (new : List ℕ) → a ≡ after_all (head_pieces place armed stop operations) (cursor at out)
        → b ≡ after_all (ledger_pieces (ledger_of is ss ts)) a → cursor r new ≡ after (letter 10) b
        → ◌≡◌ {A = Put} (record { reply = Past r; out = new }) (sweep_put place armed stop operations is ss ts at out)
    unfolding sweep_put
    sweep-done h a b r new i j k =
        let head = head_pieces place armed stop operations in
        let entries = ledger_pieces (ledger_of is ss ts) in
        rw (← u)
        (line-done number z (sweep_line place (shown_of armed stop operations is ss ts)) at out f (at + (n + 1) + length (flatten (ledger_pieces (ledger_of is ss ts)))) e past-sweep h
        (head ++ entries ++ (letter 10 ∷ [])) (sweep-pieces place (shown_of armed stop operations is ss ts)) r new
        (last-piece (head ++ entries) (letter 10) (cursor at out) b (cursor r new) (joint head entries (cursor at out) a b i j) k))
