-- The ids that a test picks, as a loop over the rows of three columns of one length gathers them.
--     ids_left                                        those from row k on
--     row-picked, row-left, row-counted, rows-end     a turn of the loop, and its end
-- Assumes nothing.
use mathlib.Core.Path.{◌≡◌, sym, ap, ◌∙◌}
use mathlib.Core.Bool.{Bool, true, false}
use mathlib.Core.List.{List, [], ◌∷◌}
use mir.Val.{bool_byte}
use Prim.Native.Nat.{ℕ, ◌+◌, ◌≤◌, ◌<◌}
use native.Mathlib.Omega.{arith}
use lib.ListN.{length, get_or, drop}
use Rattle.model.specs.Ledger.{Entry, ids, picked}
use Rattle.model.specs.Columns.{entry_of, ledger_of}
use Rattle.model.proofs.Rows.{row_step, row-end}
use Rattle.ids_by_state.specs.Answers.{picked_ids}

abbrev pub ids_left : (Entry → Bool) → (ids states torn : List ℕ) → (row : ℕ) → List ℕ
ids_left test is ss ts k = picked_ids test (drop k (ledger_of is ss ts))

module _ (test : Entry → Bool) (is ss ts : List ℕ) (k : ℕ) (p : length ss ≡ length is) (q : length ts ≡ length is) where
  pub rows-end : length is ≤ k → ids_left test is ss ts k ≡ []
  unfolding ids picked
  rows-end h = row-end (picked_ids test) is ss ts k p q h

  -- b is what the test says of row k
  module _ (h : k < length is) (b : Bool) (told : b ≡ test (entry_of (get_or is k 0) (get_or ss k 0) (get_or ts k 0))) where
    pub row-picked : b ≡ true → ids_left test is ss ts k ≡ get_or is k 0 ∷ ids_left test is ss ts (k + 1)
    unfolding ids picked
    row-picked e = row_step (picked_ids test) is ss ts k p q h ∙ rw (sym told, e) cc

    pub row-left : b ≡ false → ids_left test is ss ts k ≡ ids_left test is ss ts (k + 1)
    unfolding ids picked
    row-left e = row_step (picked_ids test) is ss ts k p q h ∙ rw (sym told, e) cc

    -- it counts as more, which is 0 or 1
    pub row-counted : (more : ℕ) → more ≡ bool_byte b → (more ≤ 1) × (length (ids_left test is ss ts k) ≡ more + length (ids_left test is ss ts (k + 1)))
    row-counted = counted b row-picked row-left
      where
        counted : (a : Bool) → (a ≡ true → ids_left test is ss ts k ≡ get_or is k 0 ∷ ids_left test is ss ts (k + 1))
            → (a ≡ false → ids_left test is ss ts k ≡ ids_left test is ss ts (k + 1)) → (more : ℕ) → more ≡ bool_byte a
            → (more ≤ 1) × (length (ids_left test is ss ts k) ≡ more + length (ids_left test is ss ts (k + 1)))
        counted true f g more m = let e : length (ids_left test is ss ts k) ≡ _ = ap length (f cc) in (omega arith, omega arith)
        counted false f g more m = let e : length (ids_left test is ss ts k) ≡ _ = ap length (g cc) in (omega arith, omega arith)
