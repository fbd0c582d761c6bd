-- A column of codes that a loop reads with a flag, and the columns of a ledger.
--     codes_next, codes_end     the flag and what is left say what the whole column says: one code more, and none left
--     a-ledger, no-ledger       whether the columns are refused
--     refused_none              what is known of columns that are not
-- Assumes nothing.
use mathlib.Core.Path.{◌≡◌, refl, sym, ap, ◌∙◌}
use mathlib.Core.Bool.{Bool, true, false, not, ◌&&◌, ◌||◌, and-true, and_assoc}
use mathlib.Core.List.{List, [], ◌∷◌}
use Prim.Native.Nat.{ℕ, ◌+◌, ◌≤◌, ◌<◌}
use lib.ListN.{length, get_or, drop}
use lib.Dec.{eqb, leb}
use borrow.Author.Tests.{eqb-true}
use Rattle.basics.specs.Tests.{unless, first_of}
use Rattle.basics.proofs.Scans.{at-step, at-end}
use Rattle.basics.proofs.Tests.{unless-zero, first_of-zero}
use Rattle.model.specs.Columns.{all_up_to, uneven, refused}

module _ (top : ℕ) (s : List ℕ) (f : Bool) where
  pub codes_next : (i : ℕ) → all_up_to top s ≡ (f && all_up_to top (drop i s)) → i < length s
      → all_up_to top s ≡ ((f && leb (get_or s i 0) top) && all_up_to top (drop (i + 1) s))
  unfolding all_up_to
  codes_next i e h =
      e ∙ ap (λ (b : Bool). f && b) (at-step (all_up_to top) s i 0 h) ∙ sym (and_assoc f (leb (get_or s i 0) top) (all_up_to top (drop (i + 1) s)))

  pub codes_end : (i : ℕ) → all_up_to top s ≡ (f && all_up_to top (drop i s)) → length s ≤ i → f ≡ all_up_to top s
  unfolding all_up_to
  codes_end i e h = sym (e ∙ ap (λ (b : Bool). f && b) (at-end (all_up_to top) s i h) ∙ and-true f)

-- four tests that refuse with one number are one test
tests : (a b c d : Bool) → first_of (unless a 12 ∷ unless b 12 ∷ unless c 12 ∷ unless d 12 ∷ []) ≡ unless (((a && b) && c) && d) 12
unfolding first_of unless
tests false b c d = refl
tests true false c d = refl
tests true true false d = refl
tests true true true false = refl
tests true true true true = refl

-- not unequal is equal
even : (a b : Bool) → not (not a || not b) ≡ (a && b)
even true true = refl
even true false = refl
even false b = refl

-- what the code says of the columns: u is what it says of their lengths, r and t of their codes
module _ (is ss ts : List ℕ) (u r t : Bool) (d : u ≡ uneven (length is) (length ss) (length ts)) (e : r ≡ all_up_to 2 ss) (g : t ≡ all_up_to 1 ts) where
  equal : (eqb (length ss) (length is) && eqb (length ts) (length is)) ≡ not u
  equal = sym (ap not d ∙ even _ _)

  told : refused is ss ts ≡ unless ((not u && r) && t) 12
  unfolding refused
  told = tests _ _ _ _ ∙ (λ i. unless ((equal i && sym e i) && sym g i) 12)

  pub a-ledger : ((not u && r) && t) ≡ true → 0 ≡ refused is ss ts
  unfolding unless
  a-ledger h = sym (told ∙ ap (λ (b : Bool). unless b 12) h)

  pub no-ledger : ((not u && r) && t) ≡ false → 12 ≡ refused is ss ts
  unfolding unless
  no-ledger h = sym (told ∙ ap (λ (b : Bool). unless b 12) h)

-- what is known of columns that are not refused
pub record Sound (is ss ts : List ℕ) : Type 0 where
  pub states : length ss ≡ length is
  pub torns : length ts ≡ length is
  pub state-codes : all_up_to 2 ss ≡ true
  pub torn-codes : all_up_to 1 ts ≡ true

pub refused_none : (is ss ts : List ℕ) → refused is ss ts ≡ 0 → Sound is ss ts
unfolding refused
refused_none is ss ts e =
    let a : (unless (eqb (length ss) (length is)) 12 ≡ 0) × (first_of (unless (eqb (length ts) (length is)) 12 ∷ unless (all_up_to 2 ss) 12 ∷ unless (all_up_to 1 ts) 12 ∷ []) ≡ 0) = first_of-zero _ _ e in
    let b : (unless (eqb (length ts) (length is)) 12 ≡ 0) × (first_of (unless (all_up_to 2 ss) 12 ∷ unless (all_up_to 1 ts) 12 ∷ []) ≡ 0) = first_of-zero _ _ a.1 in
    let d : (unless (all_up_to 2 ss) 12 ≡ 0) × (first_of (unless (all_up_to 1 ts) 12 ∷ []) ≡ 0) = first_of-zero _ _ b.1 in
    let g : (unless (all_up_to 1 ts) 12 ≡ 0) × (first_of [] ≡ 0) = first_of-zero _ _ d.1 in
    record {
      states = eqb-true _ _ (unless-zero _ 11 a.0);
      torns = eqb-true _ _ (unless-zero _ 11 b.0);
      state-codes = unless-zero _ 11 d.0;
      torn-codes = unless-zero _ 11 g.0;
    }
