-- An id's first entry.
--     looked-none, looked-at      in a ledger held by columns: it stands where the id first stands in the first column
--     looked-in                   the id of an entry that a lookup found and that passes a test is among the ids that pass it
--     looked-only                 where no id stands twice, an id's first entry is its only one
-- Assumes nothing.
use mathlib.Core.Path.{◌≡◌, refl, sym}
use mathlib.Core.Logic.{◌⊎◌, inl, inr, ⊎_elim}
use mathlib.Core.Bool.{Bool, true, false, cond, true≢false}
use Rattle.std.specs.Prelude.{Option, None, Some, option_map}
use mathlib.Core.List.Memᴰ
use mathlib.Core.List.{List, [], ◌∷◌, Memᴰ}
use Prim.Native.Nat.{ℕ, suc, ◌<◌}
use native.Mathlib.Omega.{arith}
use lib.ListN.{length, get_or}
use lib.Dec.{eqb}
use borrow.Author.Tests.{eqb-true, eqb-false}
use Rattle.model.specs.Ledger.{Entry, ids, picked, lookup, passes}
use Rattle.model.specs.Columns.{entry_of, ledger_of}
use Rattle.id_columns.specs.Ids.{place_of, Distinct}

-- ---- in columns

no_place : {n : ℕ} → ◌≡◌ {A = Option ℕ} (Some n) None → ⊥
no_place {n} e = let z : ◌≡◌ {A = ℕ} 0 1 = cc in omega arith

later_none : (p : Option ℕ) → option_map suc p ≡ None → p ≡ None
later_none None e = refl
later_none (Some n) e = absurd (no_place e)

pub looked-none : (x : ℕ) (is ss ts : List ℕ) → place_of x is ≡ None → lookup x (ledger_of is ss ts) ≡ None
unfolding place_of lookup ledger_of
looked-none x [] ss ts e = refl
looked-none x (i ∷ is) [] ts e = refl
looked-none x (i ∷ is) (s ∷ ss) [] e = refl
looked-none x (i ∷ is) (s ∷ ss) (t ∷ ts) e = step (looked-none x is ss ts) (eqb i x) e
  where
    step : (place_of x is ≡ None → lookup x (ledger_of is ss ts) ≡ None) → (b : Bool)
        → cond b (Some 0) (option_map suc (place_of x is)) ≡ None → cond b (Some (entry_of i s t)) (lookup x (ledger_of is ss ts)) ≡ None
    step r true e = absurd (no_place e)
    step r false e = r (later_none (place_of x is) e)

pub record LookedAt (x : ℕ) (is ss ts : List ℕ) (k : ℕ) : Type 0 where
  pub below : k < length is
  pub found : lookup x (ledger_of is ss ts) ≡ Some (entry_of (get_or is k 0) (get_or ss k 0) (get_or ts k 0))

pub looked-at : (x : ℕ) (is ss ts : List ℕ) (k : ℕ) → length ss ≡ length is → length ts ≡ length is → place_of x is ≡ Some k → LookedAt x is ss ts k
unfolding place_of lookup ledger_of
looked-at x [] ss ts k p q e = absurd (no_place (sym e))
looked-at x (i ∷ is) [] ts k p q e = absurd (omega arith)
looked-at x (i ∷ is) (s ∷ ss) [] k p q e = absurd (omega arith)
looked-at x (i ∷ is) (s ∷ ss) (t ∷ ts) k p q e = step (λ j. looked-at x is ss ts j (omega arith) (omega arith)) (eqb i x) refl k e
  where
    later : ((j : ℕ) → place_of x is ≡ Some j → LookedAt x is ss ts j) → eqb i x ≡ false → (o : Option ℕ) → place_of x is ≡ o → (k : ℕ)
        → option_map suc o ≡ Some k → LookedAt x (i ∷ is) (s ∷ ss) (t ∷ ts) k
    later r b None o k e = absurd (no_place (sym e))
    later r b (Some j) o k e =
        let z : k ≡ suc j = cc in
        let g : LookedAt x is ss ts j = r j o in
        rw z (record { below = omega (arith, g.below); found = simp (b, g.found) })

    step : ((j : ℕ) → place_of x is ≡ Some j → LookedAt x is ss ts j) → (b : Bool) → eqb i x ≡ b → (k : ℕ)
        → cond b (Some 0) (option_map suc (place_of x is)) ≡ Some k → LookedAt x (i ∷ is) (s ∷ ss) (t ∷ ts) k
    step r true b k e = let z : k ≡ 0 = cc in rw z (record { below = omega arith; found = simp b })
    step r false b k e = later r b (place_of x is) refl k e

-- ---- in any ledger

module _ (test : Entry → Bool) (x : ℕ) where
  -- an entry whose id is x, or a later one
  pub in-picked : (e : Entry) (es : List Entry) → Memᴰ x (ids (picked test (e ∷ es))) → ((x ≡ e.id) × (test e ≡ true)) ⊎ Memᴰ x (ids (picked test es))
  unfolding ids picked
  in-picked e es m = step (test e) refl m
    where
      step : (b : Bool) → test e ≡ b → Memᴰ x (ids (cond b (e ∷ picked test es) (picked test es))) → ((x ≡ e.id) × (test e ≡ true)) ⊎ Memᴰ x (ids (picked test es))
      step true t m = ⊎_elim (λ (q : x ≡ e.id). inl (q, t)) (λ (m' : Memᴰ x (ids (picked test es))). inr m') (Memᴰ.cases_cons m)
      step false t m = inr m

  pub picked-head : (e : Entry) (es : List Entry) → x ≡ e.id → test e ≡ true → Memᴰ x (ids (picked test (e ∷ es)))
  unfolding ids picked
  picked-head e es q t = rw t (Memᴰ.head q)

  pub picked-tail : (e : Entry) (es : List Entry) → Memᴰ x (ids (picked test es)) → Memᴰ x (ids (picked test (e ∷ es)))
  unfolding ids picked
  picked-tail e es m = step (test e)
    where
      step : (b : Bool) → Memᴰ x (ids (cond b (e ∷ picked test es) (picked test es)))
      step true = Memᴰ.tail m
      step false = m

  -- what passes is in the ledger
  pub picked-in : (l : List Entry) → Memᴰ x (ids (picked test l)) → Memᴰ x (ids l)
  unfolding ids picked
  picked-in [] m = m
  picked-in (e ∷ es) m = ⊎_elim (λ w. Memᴰ.head w.0) (λ (m' : Memᴰ x (ids (picked test es))). Memᴰ.tail (picked-in es m')) (in-picked e es m)

  pub looked-in : (l : List Entry) → passes test (lookup x l) ≡ true → Memᴰ x (ids (picked test l))
  unfolding lookup
  looked-in [] e = absurd (true≢false (sym e))
  looked-in (f ∷ es) e = step (looked-in es) (eqb f.id x) refl e
    where
      step : (passes test (lookup x es) ≡ true → Memᴰ x (ids (picked test es))) → (b : Bool) → eqb f.id x ≡ b
          → passes test (cond b (Some f) (lookup x es)) ≡ true → Memᴰ x (ids (picked test (f ∷ es)))
      step r true b e = picked-head f es (sym (eqb-true f.id x b)) e
      step r false b e = picked-tail f es (r e)

  -- where no id stands twice, what passes a test was found by a lookup
  pub looked-only : (l : List Entry) → Distinct (ids l) → Memᴰ x (ids (picked test l)) → passes test (lookup x l) ≡ true
  unfolding ids picked lookup
  looked-only [] d m = absurd (Memᴰ.not-nil m)
  looked-only (f ∷ es) d m = step (looked-only es d.1) (eqb f.id x) refl (in-picked f es m)
    where
      step : (Memᴰ x (ids (picked test es)) → passes test (lookup x es) ≡ true) → (b : Bool) → eqb f.id x ≡ b
          → ((x ≡ f.id) × (test f ≡ true)) ⊎ Memᴰ x (ids (picked test es)) → passes test (cond b (Some f) (lookup x es)) ≡ true
      step r true b (inl w) = w.1
      step r true b (inr m) = absurd (d.0 (Memᴰ.cast (eqb-true f.id x b) (picked-in es m)))
      step r false b (inl w) = absurd (eqb-false f.id x b (sym w.0))
      step r false b (inr m) = r m
