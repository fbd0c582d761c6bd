-- A line in a lent buffer.
--     put-not                   a number refuses it
--     line-short, line-done     it does not fit, and it is written
-- Assumes nothing.
use mathlib.Core.Path.{◌≡◌, sym, ap, ◌∙◌}
use mathlib.Core.Bool.{Bool, true, false}
use mathlib.Core.List.{List, flatten}
use Prim.Native.Nat.{ℕ, ◌+◌, ◌≤◌, ◌<◌}
use native.Mathlib.Omega.{arith}
use lib.ListN.{length}
use lib.Dec.{leb}
use borrow.Author.Tests.{eq-eqb, ne_eqb, le-leb, lt-leb, leb-true, leb-false}
use Rattle.basics.specs.Tests.{unless, first_of}
use Rattle.basics.specs.Parts.{overlaid}
use Rattle.pieces.specs.Pieces.{Cursor, cursor, after_all}
use Rattle.pieces.proofs.Cursors.{all_fit}
use Rattle.std.specs.Prelude.{Ok as Past, Err as NotWritten}
use Rattle.lines.specs.Answers.{Put, put}

module _ (number : ℕ) (text : List ℕ) (at : ℕ) (out : List ℕ) where
  pub put-not : (number ≡ 0 → ⊥) → ◌≡◌ {A = Put} (record { reply = NotWritten number; out = out }) (put number text at out)
  unfolding first_of
  put-not z = simp (ne_eqb _ _ z)

  module _ (z : number ≡ 0) where
    put-short : length out < at + length text → ◌≡◌ {A = Put} (record { reply = NotWritten 13; out = out }) (put number text at out)
    unfolding first_of unless
    put-short h = simp (eq-eqb _ _ z, lt-leb _ _ h)

    put-done : at + length text ≤ length out → (ps : List (List ℕ)) → flatten ps ≡ text → (r : ℕ) (new : List ℕ) → cursor r new ≡ after_all ps (cursor at out)
        → ◌≡◌ {A = Put} (record { reply = Past r; out = new }) (put number text at out)
    unfolding first_of unless
    put-done h ps f r new e =
        let k : at + length (flatten ps) ≤ length out = rw f h in
        let g : cursor r new ≡ cursor (at + length text) (overlaid out at text) = e ∙ all_fit ps at out k ∙ rw f in
        ap (λ (c : Cursor). record { reply = Past c.at; out = c.out }) g ∙ simp (eq-eqb _ _ z, le-leb _ _ h)

-- f is whether the line fits, and m the place past it
module _ (number : ℕ) (z : number ≡ 0) (text : List ℕ) (at : ℕ) (out : List ℕ) (f : Bool) (m : ℕ) (e : f ≡ leb m (length out)) (l : m ≡ at + length text) where
  pub line-short : f ≡ false → ◌≡◌ {A = Put} (record { reply = NotWritten 13; out = out }) (put number text at out)
  line-short h = let k : length out < m = leb-false m (length out) (sym e ∙ h) in put-short number text at out z (omega arith)

  pub line-done : f ≡ true → (ps : List (List ℕ)) → flatten ps ≡ text → (r : ℕ) (new : List ℕ) → cursor r new ≡ after_all ps (cursor at out)
      → ◌≡◌ {A = Put} (record { reply = Past r; out = new }) (put number text at out)
  line-done h ps q r new g =
      let k : m ≤ length out = leb-true m (length out) (sym e ∙ h) in
      put-done number text at out z (omega arith) ps q r new g
