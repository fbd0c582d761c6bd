-- An entry's field: what is written for it, and how long it is; and a loop's turn over the rows of a ledger.
--     torn-flag                        what two codes say
--     entry-torn, entry_whole          what is written for an entry
--     size-torn, size-whole            how long it is
--     rows-put, rows-put-end           a turn of the loop that writes entries, and its end
--     rows-size, rows-size-end         what a row adds to the length of what is left
-- Assumes nothing.
use mathlib.Core.Path.{◌≡◌, refl, sym, ap, ◌∙◌}
use mathlib.Core.Logic.{◌⊎◌, inl, inr}
use mathlib.Core.Bool.{Bool, true, false, not, ◌&&◌}
use mathlib.Core.List.{List, [], ◌∷◌, ◌++◌, flatten}
use Prim.Native.Nat.{ℕ, ◌+◌}
use native.Mathlib.Nat.{suc-ne-zero}
use native.Mathlib.Omega.{arith}
use lib.ListN.{length, length-append}
use lib.Dec.{eqb}
use Rattle.model.specs.Columns.{state_of, entry_of, ledger_of}
use Rattle.model.specs.Ledger.{is_torn}
use Rattle.model.proofs.Rows.{torn-row}
use Rattle.text.specs.Numbers.{decimal_of}
use Rattle.text.specs.Printing.{Places}
use Rattle.pieces.specs.Pieces.{letter, Cursor, after, after_all}
use Rattle.pieces.proofs.Lists.{flatten-append}
use Rattle.pieces.proofs.Cursors.{joint, last-piece}
use Rattle.lines.specs.Lines.{state_letter}
use Rattle.sweep_heads.specs.Heads.{Few}
use Rattle.sweep_lines.specs.Fields.{entry_pieces, ledger_pieces}

-- ---- a row's codes

pub torn-flag : (s t : ℕ) → (not (eqb s 0) && eqb t 1) ≡ is_torn (entry_of 0 s t)
torn-flag s t = sym (torn-row 0 s t)

-- ---- what is written for an entry

module _ (id s t l : ℕ) (k : l ≡ state_letter (state_of s)) (m : Bool) (q : m ≡ is_torn (entry_of 0 s t)) (a b c : Cursor)
    (e : b ≡ after_all (letter 9 ∷ decimal_of id ∷ []) a) (g : c ≡ after (letter l) b) where
  stated : c ≡ after_all (letter 9 ∷ decimal_of id ∷ letter (state_letter (state_of s)) ∷ []) a
  stated = last-piece (letter 9 ∷ decimal_of id ∷ []) (letter (state_letter (state_of s))) a b c e (g ∙ rw k)

  pub entry-torn : m ≡ true → (d : Cursor) → d ≡ after (letter 116) c → d ≡ after_all (entry_pieces (entry_of id s t)) a
  unfolding entry_pieces
  entry-torn h d f =
      let y : is_torn (entry_of id s t) ≡ true = sym q ∙ h in
      rw y (last-piece (letter 9 ∷ decimal_of id ∷ letter (state_letter (state_of s)) ∷ []) (letter 116) a c d stated f)

  pub entry_whole : m ≡ false → c ≡ after_all (entry_pieces (entry_of id s t)) a
  unfolding entry_pieces
  entry_whole h =
      let y : is_torn (entry_of id s t) ≡ false = sym q ∙ h in
      rw y stated

module _ (id s t n : ℕ) (w : Places id n) (m : Bool) (q : m ≡ is_torn (entry_of 0 s t)) where
  pub size-torn : m ≡ true → Few 30 (flatten (entry_pieces (entry_of id s t))) (n + 3)
  unfolding entry_pieces flatten
  size-torn h =
      let y : is_torn (entry_of id s t) ≡ true = sym q ∙ h in
      let l : length (decimal_of id ++ (state_letter (state_of s) ∷ letter 116)) ≡ length (decimal_of id) + 2 = length-append (decimal_of id) (state_letter (state_of s) ∷ letter 116) in
      record { is = rw y (omega (arith, l, w.is)); few = omega (arith, w.few) }

  pub size-whole : m ≡ false → Few 30 (flatten (entry_pieces (entry_of id s t))) (n + 2)
  unfolding entry_pieces flatten
  size-whole h =
      let y : is_torn (entry_of id s t) ≡ false = sym q ∙ h in
      let l : length (decimal_of id ++ (state_letter (state_of s) ∷ [])) ≡ length (decimal_of id) + 1 = length-append (decimal_of id) (state_letter (state_of s) ∷ []) in
      record { is = rw y (omega (arith, l, w.is)); few = omega (arith, w.few) }

-- ---- the rows of a ledger

-- the next row is i, s and t
module _ (is ss ts : List ℕ) (i s t : ℕ) (is' ss' ts' : List ℕ) (e : is ≡ i ∷ is') (f : ss ≡ s ∷ ss') (h : ts ≡ t ∷ ts') where
  rows-first : ledger_pieces (ledger_of is ss ts) ≡ entry_pieces (entry_of i s t) ++ ledger_pieces (ledger_of is' ss' ts')
  unfolding ledger_pieces ledger_of
  rows-first = rw (e, f, h) refl

  pub rows-put : (whole a b : Cursor) → whole ≡ after_all (ledger_pieces (ledger_of is ss ts)) a → b ≡ after_all (entry_pieces (entry_of i s t)) a
      → whole ≡ after_all (ledger_pieces (ledger_of is' ss' ts')) b
  rows-put whole a b w g =
      let rest = ledger_pieces (ledger_of is' ss' ts') in
      w ∙ ap (λ (ps : List (List ℕ)). after_all ps a) rows-first ∙ sym (joint (entry_pieces (entry_of i s t)) rest a b (after_all rest b) g refl)

  pub rows-size : (n : ℕ) → Few 30 (flatten (entry_pieces (entry_of i s t))) n
      → length (flatten (ledger_pieces (ledger_of is ss ts))) ≡ n + length (flatten (ledger_pieces (ledger_of is' ss' ts')))
  rows-size n w =
      let one = entry_pieces (entry_of i s t) in
      let rest = ledger_pieces (ledger_of is' ss' ts') in
      ap (λ (ps : List (List ℕ)). length (flatten ps)) rows-first ∙ ap length (flatten-append one rest) ∙ length-append (flatten one) (flatten rest)
      ∙ ap (λ (k : ℕ). k + length (flatten rest)) (sym w.is)

-- a column has no further row
rows-none : (is ss ts : List ℕ) → ((length is ≡ 0) ⊎ (length ss ≡ 0)) ⊎ (length ts ≡ 0) → ledger_pieces (ledger_of is ss ts) ≡ []
unfolding ledger_pieces ledger_of
rows-none [] ss ts e = refl
rows-none (i ∷ is) [] ts e = refl
rows-none (i ∷ is) (s ∷ ss) [] e = refl
rows-none (i ∷ is) (s ∷ ss) (t ∷ ts) (inl (inl e)) = absurd (suc-ne-zero _ e)
rows-none (i ∷ is) (s ∷ ss) (t ∷ ts) (inl (inr e)) = absurd (suc-ne-zero _ e)
rows-none (i ∷ is) (s ∷ ss) (t ∷ ts) (inr e) = absurd (suc-ne-zero _ e)

module _ (is ss ts : List ℕ) (e : ((length is ≡ 0) ⊎ (length ss ≡ 0)) ⊎ (length ts ≡ 0)) where
  pub rows-put-end : (whole a : Cursor) → whole ≡ after_all (ledger_pieces (ledger_of is ss ts)) a → a ≡ whole
  unfolding after_all
  rows-put-end whole a w = sym (w ∙ ap (λ (ps : List (List ℕ)). after_all ps a) (rows-none is ss ts e))

  pub rows-size-end : length (flatten (ledger_pieces (ledger_of is ss ts))) ≡ 0
  unfolding flatten
  rows-size-end = ap (λ (ps : List (List ℕ)). length (flatten ps)) (rows-none is ss ts e)

pub ruleset entries = (torn-flag, entry-torn, entry_whole, size-torn, size-whole)
