-- The ledger that three columns of one length hold, row by row, and the ids that a loop over two of the columns picks.
--     row_step, row-end               what is left of the ledger from row i on
--     length-ledger, ids-are          it has a row for each id, and its ids are the first column
--     len-refused, len_is             what `len` answers
--     attempted-row, committed-row, acknowledged-row, torn-row     what a row's codes say
--     committed-from, acknowledged-from                  the committed and the acknowledged ids as a loop picks them
--     from-picked, from-left, from_end                   a turn of that loop, and its end
-- Assumes nothing.
use mathlib.Core.Path.{◌≡◌, refl, sym, ap, ◌∙◌}
use mathlib.Core.Bool.{Bool, true, false, cond, not, ◌&&◌}
use mathlib.Core.List.{List, [], ◌∷◌}
use Prim.Native.Nat.{ℕ, zero, suc, ◌+◌, ◌≤◌, ◌<◌}
use native.Mathlib.Numerals.{add-one}
use native.Mathlib.Omega.{arith}
use lib.ListN.{length, get_or, drop, drop_of_length-le}
use lib.Seq.{drop-cons}
use lib.Dec.{eqb, leb}
use borrow.Author.Tests.{le-leb, lt-leb, eqb-true, eqb-false}
use Rattle.std.specs.Prelude.{Ok, Err}
use Rattle.basics.proofs.Replies.{taken, refused as is_refused}
use Rattle.refusals.specs.Numbers.{number_of}
use Rattle.refusals.specs.Nonzero.{refusal-nonzero}
use Rattle.refusals.specs.declared.Refusal.{Refusal}
use Rattle.model.specs.Ledger.{Entry, code_of, is_attempted, is_committed, is_acknowledged, is_torn, ids, picked, committed, acknowledged}
use Rattle.model.specs.Columns.{entry_of, ledger_of, refused}
use Rattle.model.specs.Scans.{ids_from}
use Rattle.model.specs.Answers.{len_asked}
use Rattle.model.proofs.Codes.{Sound, refused_none}
use Rattle.model.specs.declared.Durability.TheVariants.{Attempted, PossiblyDurable, Acknowledged}

pub length-ledger : (is ss ts : List ℕ) → length ss ≡ length is → length ts ≡ length is → length (ledger_of is ss ts) ≡ length is
unfolding ledger_of
length-ledger [] ss ts p q = refl
length-ledger (i ∷ is) [] ts p q = absurd (omega arith)
length-ledger (i ∷ is) (s ∷ ss) [] p q = absurd (omega arith)
length-ledger (i ∷ is) (s ∷ ss) (t ∷ ts) p q = ap suc (length-ledger is ss ts (omega arith) (omega arith))

pub ids-are : (is ss ts : List ℕ) → length ss ≡ length is → length ts ≡ length is → ids (ledger_of is ss ts) ≡ is
unfolding ledger_of ids
ids-are [] ss ts p q = refl
ids-are (i ∷ is) [] ts p q = absurd (omega arith)
ids-are (i ∷ is) (s ∷ ss) [] p q = absurd (omega arith)
ids-are (i ∷ is) (s ∷ ss) (t ∷ ts) p q = ap (λ (l : List ℕ). i ∷ l) (ids-are is ss ts (omega arith) (omega arith))

-- what `len` answers where the columns are refused, and where they are not
module _ (is ss ts : List ℕ) where
  pub len-refused : (e : Refusal) → number_of e ≡ refused is ss ts → Err (number_of e) ≡ len_asked is ss ts
  unfolding len_asked
  len-refused e told = is_refused number_of refusal-nonzero _ e _ told

  pub len_is : 0 ≡ refused is ss ts → Ok (length is) ≡ len_asked is ss ts
  unfolding len_asked
  len_is told =
      let g : Sound is ss ts = refused_none is ss ts (sym told) in
      ap Ok (sym (length-ledger is ss ts g.states g.torns)) ∙ taken number_of refusal-nonzero _ _ told

row : (is ss ts : List ℕ) (k : ℕ) → length ss ≡ length is → length ts ≡ length is → k < length is
    → drop k (ledger_of is ss ts) ≡ entry_of (get_or is k 0) (get_or ss k 0) (get_or ts k 0) ∷ drop (suc k) (ledger_of is ss ts)
unfolding ledger_of
row [] ss ts k p q h = absurd (omega arith)
row (i ∷ is) [] ts k p q h = absurd (omega arith)
row (i ∷ is) (s ∷ ss) [] k p q h = absurd (omega arith)
row (i ∷ is) (s ∷ ss) (t ∷ ts) zero p q h = refl
row (i ∷ is) (s ∷ ss) (t ∷ ts) (suc k) p q h = row is ss ts k (omega arith) (omega arith) (omega arith)

module _ {B : Type 0} (f : List Entry → B) (is ss ts : List ℕ) (k : ℕ) (p : length ss ≡ length is) (q : length ts ≡ length is) where
  pub row_step : k < length is → f (drop k (ledger_of is ss ts)) ≡ f (entry_of (get_or is k 0) (get_or ss k 0) (get_or ts k 0) ∷ drop (k + 1) (ledger_of is ss ts))
  row_step h = rw add-one (ap f (row is ss ts k p q h))

  pub row-end : length is ≤ k → f (drop k (ledger_of is ss ts)) ≡ f []
  row-end h =
      let e : length (ledger_of is ss ts) ≡ length is = length-ledger is ss ts p q in
      ap f (drop_of_length-le (ledger_of is ss ts) {i = k} (omega arith))

-- ---- a row's state

code-none : (a b : Bool) → eqb (code_of (cond a Attempted (cond b PossiblyDurable Acknowledged))) 0 ≡ a
code-none true b = refl
code-none false true = refl
code-none false false = refl

pub attempted-row : (i s t : ℕ) → is_attempted (entry_of i s t) ≡ eqb s 0
attempted-row i s t = code-none (eqb s 0) (eqb s 1)

pub torn-row : (i s t : ℕ) → is_torn (entry_of i s t) ≡ (not (eqb s 0) && eqb t 1)
torn-row i s t = ap (λ (b : Bool). not b && eqb t 1) (attempted-row i s t)

pub committed-row : (i s t : ℕ) → is_committed (entry_of i s t) ≡ leb 1 s
committed-row i s t = ap not (attempted-row i s t) ∙ step (eqb s 0) refl
  where
    step : (b : Bool) → eqb s 0 ≡ b → not b ≡ leb 1 s
    step true e = let z : s ≡ 0 = eqb-true s 0 e in sym (lt-leb 1 s (omega arith))
    step false e = sym (le-leb 1 s (omega (arith, eqb-false s 0 e)))

pub acknowledged-row : (i s t : ℕ) → is_acknowledged (entry_of i s t) ≡ leb 2 s
acknowledged-row i s t = step (eqb s 0) (eqb s 1) refl refl
  where
    step : (a b : Bool) → eqb s 0 ≡ a → eqb s 1 ≡ b → eqb (code_of (cond a Attempted (cond b PossiblyDurable Acknowledged))) 2 ≡ leb 2 s
    step true b e g = let z : s ≡ 0 = eqb-true s 0 e in sym (lt-leb 2 s (omega arith))
    step false true e g = let z : s ≡ 1 = eqb-true s 1 g in sym (lt-leb 2 s (omega arith))
    step false false e g = sym (le-leb 2 s (omega (arith, eqb-false s 0 e, eqb-false s 1 g)))

-- ---- the ids of a state at least so much

picked-from : (test : Entry → Bool) (k : ℕ) → ((i s t : ℕ) → test (entry_of i s t) ≡ leb k s)
    → (is ss ts : List ℕ) → length ss ≡ length is → length ts ≡ length is → ids (picked test (ledger_of is ss ts)) ≡ ids_from k is ss
unfolding ledger_of ids picked ids_from
picked-from test k g [] ss ts p q = refl
picked-from test k g (i ∷ is) [] ts p q = refl
picked-from test k g (i ∷ is) (s ∷ ss) [] p q = absurd (omega arith)
picked-from test k g (i ∷ is) (s ∷ ss) (t ∷ ts) p q =
    ap (λ (b : Bool). ids (cond b (entry_of i s t ∷ picked test (ledger_of is ss ts)) (picked test (ledger_of is ss ts)))) (g i s t)
    ∙ step (picked-from test k g is ss ts (omega arith) (omega arith)) (leb k s)
  where
    step : ids (picked test (ledger_of is ss ts)) ≡ ids_from k is ss → (b : Bool)
        → ids (cond b (entry_of i s t ∷ picked test (ledger_of is ss ts)) (picked test (ledger_of is ss ts))) ≡ cond b (i ∷ ids_from k is ss) (ids_from k is ss)
    step r true = ap (λ (l : List ℕ). i ∷ l) r
    step r false = r

pub committed-from : (is ss ts : List ℕ) → length ss ≡ length is → length ts ≡ length is → committed (ledger_of is ss ts) ≡ ids_from 1 is ss
unfolding committed
committed-from is ss ts p q = picked-from is_committed 1 committed-row is ss ts p q

pub acknowledged-from : (is ss ts : List ℕ) → length ss ≡ length is → length ts ≡ length is → acknowledged (ledger_of is ss ts) ≡ ids_from 2 is ss
unfolding acknowledged
acknowledged-from is ss ts p q = picked-from is_acknowledged 2 acknowledged-row is ss ts p q

module _ (k : ℕ) (is ss : List ℕ) (i : ℕ) (p : length ss ≡ length is) where
  both : i < length is → ids_from k (drop i is) (drop i ss) ≡ ids_from k (get_or is i 0 ∷ drop (i + 1) is) (get_or ss i 0 ∷ drop (i + 1) ss)
  both h = let g : i < length ss = omega arith in rw (add-one, drop-cons is i 0, drop-cons ss i 0)

  pub from-picked : i < length is → k ≤ get_or ss i 0 → ids_from k (drop i is) (drop i ss) ≡ get_or is i 0 ∷ ids_from k (drop (i + 1) is) (drop (i + 1) ss)
  unfolding ids_from
  from-picked h t = both h ∙ simp (le-leb _ _ t)

  pub from-left : i < length is → get_or ss i 0 < k → ids_from k (drop i is) (drop i ss) ≡ ids_from k (drop (i + 1) is) (drop (i + 1) ss)
  unfolding ids_from
  from-left h t = both h ∙ simp (lt-leb _ _ t)

  pub from_end : length is ≤ i → ids_from k (drop i is) (drop i ss) ≡ []
  unfolding ids_from
  from_end h = rw (drop_of_length-le is h)
