-- A range marked behind, row by row, as a loop over three of the columns finds it.
--     Rows, rows_left                          the loop's iterator, and what it has left
--     behind-first, behind-found, behind-next, behind-none     the loop
--     row-counted                              no more operations than rows
-- Assumes nothing.
use mathlib.Core.Logic.{◌⊎◌, inl, inr, ⊎_elim}
use mathlib.Core.Path.{◌≡◌, refl, sym, ap, ◌∙◌}
use mathlib.Core.Bool.{Bool, true, false, ◌||◌}
use mathlib.Core.List.{List, [], ◌∷◌}
use mir.Val.{bool_byte}
use Prim.Native.Nat.{ℕ, zero, suc, ◌+◌, ◌≤◌}
use native.Mathlib.Nat.{add-zero, suc-ne-zero}
use native.Mathlib.Omega.{arith}
use lib.ListN.{length, take}
use Rattle.std.proofs.lemmas.List.{length-take}
use lib.Dec.{ltb}
use borrow.Author.Tests.{ne_eqb, le-leb, le-ltb}
use denote.Ref.{Bor}
use Rattle.std.proofs.Common.{Iter}
use Rattle.std.specs.Prelude.{None, Some}
use Rattle.std.specs.declared.iter.Zip.{Zip}
use Rattle.std.specs.Iterator.Adapters.{zip_first, zip_second, zip_steps}
use Rattle.std.specs.Slice.Iter.{iter_rest, iter_steps}
use Rattle.basics.specs.Tests.{flag}
use Rattle.rows.proofs.Scanned.{flag-is, flag-le}
use Rattle.script.specs.Calls.{Call}
use Rattle.script.specs.Columns.{Columns}
use Rattle.script.specs.Held.{call_from, rows_in, calls_in}
use Rattle.rows.specs.Ready.{Ready}
use Rattle.sweeps.specs.Decided.{range_behind}
use Rattle.harness.specs.Inner.{is_behind}

one_more : (n : ℕ) → suc n ≡ n + 1
one_more n = omega arith

-- as many operations as a row is
abbrev ops_in : (kind : ℕ) → ℕ
ops_in kind = flag (ltb kind 3)

-- a row's part in it, by its kind
by_kind : (n kind first second third start : ℕ) (pool : List ℕ) (xs : List Call)
    → range_behind n (call_from kind first second third start pool ∷ xs) ≡ (is_behind kind second third n || range_behind (n + ops_in kind) xs)
unfolding range_behind
by_kind n zero first second third start pool xs = ap (λ (m : ℕ). range_behind m xs) (one_more n)
by_kind n (suc zero) first second third start pool xs = ap (λ (m : ℕ). range_behind m xs) (one_more n)
by_kind n (suc (suc zero)) first second third start pool xs = ap (λ (m : ℕ). range_behind m xs) (one_more n)
by_kind n (suc (suc (suc zero))) first second third start pool xs = ap (λ (m : ℕ). range_behind m xs) (sym (add-zero n))
by_kind n (suc (suc (suc (suc zero)))) first second third start pool xs = ap (λ (m : ℕ). range_behind m xs) (sym (add-zero n))
by_kind n (suc (suc (suc (suc (suc k))))) first second third start pool xs =
    let kind : ℕ = suc (suc (suc (suc (suc k)))) in
    rw (
      ne_eqb kind 0 (λ e. omega arith),
      ne_eqb kind 1 (λ e. omega arith),
      ne_eqb kind 2 (λ e. omega arith),
      ne_eqb kind 3 (λ e. omega arith),
      ne_eqb kind 4 (λ e. omega arith),
      le-leb 5 kind (omega arith),
      le-ltb kind 3 (omega arith),
    )
    (ap (λ (m : ℕ). ltb second n || ltb third n || range_behind m xs) (sym (add-zero n)))

-- ---- over the columns

-- some row of these columns marks a range behind, where so many operations come before
unfoldable pub behind_in : (operations : ℕ) → (kinds froms tos : List ℕ) → Bool
behind_in n [] bs cs = false
behind_in n (k ∷ ks) [] cs = false
behind_in n (k ∷ ks) (b ∷ bs) [] = false
behind_in n (k ∷ ks) (b ∷ bs) (c ∷ cs) = is_behind k b c n || behind_in (n + ops_in k) ks bs cs

rows-behind : (n rows : ℕ) (ks xs bs cs ss pool : List ℕ) → length xs ≡ length ks → length bs ≡ length ks → length cs ≡ length ks → length ss ≡ length ks
    → range_behind n (rows_in rows ks xs bs cs ss pool) ≡ behind_in n (take rows ks) bs cs
unfolding rows_in range_behind behind_in
rows-behind n zero ks xs bs cs ss pool p q r o = refl
rows-behind n (suc rows) [] xs bs cs ss pool p q r o = refl
rows-behind n (suc rows) (k ∷ ks) [] bs cs ss pool p q r o = absurd (omega arith)
rows-behind n (suc rows) (k ∷ ks) (a ∷ xs) [] cs ss pool p q r o = absurd (omega arith)
rows-behind n (suc rows) (k ∷ ks) (a ∷ xs) (b ∷ bs) [] ss pool p q r o = absurd (omega arith)
rows-behind n (suc rows) (k ∷ ks) (a ∷ xs) (b ∷ bs) (c ∷ cs) [] pool p q r o = absurd (omega arith)
rows-behind n (suc rows) (k ∷ ks) (a ∷ xs) (b ∷ bs) (c ∷ cs) (s ∷ ss) pool p q r o =
    by_kind n k a b c s pool (rows_in rows ks xs bs cs ss pool)
    ∙ ap (λ (t : Bool). is_behind k b c n || t) (rows-behind (n + ops_in k) rows ks xs bs cs ss pool (omega arith) (omega arith) (omega arith) (omega arith))

none-behind : (n : ℕ) (ks bs cs : List ℕ) → ((length ks ≡ 0) ⊎ (length bs ≡ 0)) ⊎ (length cs ≡ 0) → false ≡ behind_in n ks bs cs
unfolding behind_in
none-behind n [] bs cs e = refl
none-behind n (k ∷ ks) [] cs e = refl
none-behind n (k ∷ ks) (b ∷ bs) [] e = refl
none-behind n (k ∷ ks) (b ∷ bs) (c ∷ cs) (inl (inl e)) = absurd (suc-ne-zero _ e)
none-behind n (k ∷ ks) (b ∷ bs) (c ∷ cs) (inl (inr e)) = absurd (suc-ne-zero _ e)
none-behind n (k ∷ ks) (b ∷ bs) (c ∷ cs) (inr e) = absurd (suc-ne-zero _ e)

-- ---- the loop

abbrev pub Rows : Type 0
Rows = Zip (Zip (Iter ℕ) (Iter ℕ)) (Iter ℕ)

-- the kinds that a loop has left, and whether one of its rows marks a range behind
abbrev pub kinds_left : Rows → List ℕ
kinds_left s = iter_rest (zip_first (zip_first s))

abbrev pub behind_left : (operations : ℕ) → Rows → Bool
behind_left n s = behind_in n (kinds_left s) (iter_rest (zip_second (zip_first s))) (iter_rest (zip_second s))

pub behind-first : (rows : ℕ) (k : Columns) → Ready rows k → range_behind 0 (calls_in rows k) ≡ behind_in 0 (take rows k.kinds) k.seconds k.thirds
behind-first rows k ready =
    rows-behind 0 rows k.kinds k.firsts k.seconds k.thirds k.starts k.pool ready.firsts-even ready.seconds-even ready.thirds-even ready.starts-even

pub few-first : (rows : ℕ) (ks : List ℕ) → 0 + length (take rows ks) ≤ rows
few-first rows ks = rw (length-take rows ks) (omega arith)

module _ (all : Bool) (n : ℕ) (s t : Rows) (e : all ≡ behind_left n s) where
  -- the next row is kind, from and to, and b is whether it marks a range behind
  module _ (kind from to : Bor ℕ) (z : zip_steps (zip_steps iter_steps iter_steps) iter_steps s (Some ((kind, from), to)) t)
      (b : Bool) (told : b ≡ is_behind kind.now from.now to.now n) where
    row_is : all ≡ (b || behind_left (n + ops_in kind.now) t)
    unfolding behind_in
    row_is = e ∙ rw (z.0.0, z.0.1, z.1, told) refl

    pub behind-found : b ≡ true → true ≡ all
    behind-found h = sym (rw h at row_is)

    pub behind-next : b ≡ false → (more : ℕ) → more ≡ bool_byte (ltb kind.now 3) → all ≡ behind_left (n + more) t
    behind-next h more m = (rw h at row_is) ∙ ap (λ (o : ℕ). behind_left (n + o) t) (sym (flag-is (ltb kind.now 3) more m))

    -- no more operations than rows
    pub row-counted : (rows more : ℕ) → more ≡ bool_byte (ltb kind.now 3) → n + length (kinds_left s) ≤ rows → n + more + length (kinds_left t) ≤ rows
    row-counted rows more m h =
        let one : length (kinds_left s) ≡ suc (length (kinds_left t)) = ap (λ (l : List ℕ). length l) z.0.0 in
        let few = flag-le (ltb kind.now 3) more m in
        omega arith

  pub behind-none : zip_steps (zip_steps iter_steps iter_steps) iter_steps s None t → false ≡ all
  behind-none z = none-behind n _ _ _ (⊎_elim (λ w. inl (⊎_elim (λ v. inl v.1.0) (λ v. inr v.1.0) w.1)) (λ w. inr w.1.0) z) ∙ sym e
