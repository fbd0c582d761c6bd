-- The log's rows, as columns: a part of the rows is the rows of the columns' parts, and a test of rows is a test of a column.
--     rows_take, rows_drop, rows-part, rows-length
--     rows-changed, rows_written, rows-ordered, rows-armed     the four tests of a record's rule
-- Assumes nothing.
use mathlib.Core.Path.{◌≡◌, refl, sym, ap, ap₂, ◌∙◌}
use mathlib.Core.Logic.{⊎_elim}
use mathlib.Core.Bool.{Bool, true, false, not, ◌&&◌, ◌||◌, cond, and-false}
use mathlib.Core.List.{List, [], ◌∷◌, map}
use Prim.Native.Nat.{ℕ, zero, suc, ◌+◌, ◌<◌}
use native.Mathlib.Nat.{suc-ne-zero, suc_inj}
use native.Mathlib.Omega.{arith}
use lib.Dec.{eqb, leb, ltb}
use lib.ListN.{length, take, drop}
use borrow.Author.Tests.{lt-ltb, le-ltb, le-leb, lt-leb, eq-eqb, ne_eqb}
use Rattle.basics.proofs.Tests.{le-or-gt}
use Rattle.inject.specs.declared.Injection.{Injection}
use Rattle.std.specs.Prelude.{None as Nothing, Some as At}
use Rattle.session.specs.Armed.{Armed, armed_on, is_armed}
use Rattle.records.specs.Records.{any}
use Rattle.ledger.specs.Ledger.{Row, rows_from}
use Rattle.records.specs.Columns.{last_place, yes, is_one, is_write, ordering, last_barrier, armed_in}
use Rattle.records.proofs.Places.{any-map, last-map}

-- ---- parts

pub rows_take : (n b : ℕ) (ks cs xs : List ℕ) → take n (rows_from b ks cs xs) ≡ rows_from b (take n ks) (take n cs) (take n xs)
unfolding rows_from
rows_take zero b ks cs xs = refl
rows_take (suc n) b [] cs xs = refl
rows_take (suc n) b (k ∷ ks) [] xs = refl
rows_take (suc n) b (k ∷ ks) (c ∷ cs) [] = refl
rows_take (suc n) b (k ∷ ks) (c ∷ cs) (x ∷ xs) =
    ap (λ (l : List Row). record { index = b; kind = k; change = c; answer = x } ∷ l) (rows_take n (suc b) ks cs xs)

pub rows_drop : (n b : ℕ) (ks cs xs : List ℕ) → length cs ≡ length ks → length xs ≡ length ks
    → drop n (rows_from b ks cs xs) ≡ rows_from (b + n) (drop n ks) (drop n cs) (drop n xs)
unfolding rows_from
rows_drop zero b ks cs xs e f = let z : b ≡ b + 0 = omega arith in ap (λ (n : ℕ). rows_from n ks cs xs) z
rows_drop (suc n) b [] cs xs e f = refl
rows_drop (suc n) b (k ∷ ks) [] xs e f = absurd (suc-ne-zero (length ks) (sym e))
rows_drop (suc n) b (k ∷ ks) (c ∷ cs) [] e f = absurd (suc-ne-zero (length ks) (sym f))
rows_drop (suc n) b (k ∷ ks) (c ∷ cs) (x ∷ xs) e f =
    let z : suc b + n ≡ b + suc n = omega arith in
    rows_drop n (suc b) ks cs xs (suc_inj e) (suc_inj f) ∙ ap (λ (i : ℕ). rows_from i (drop n ks) (drop n cs) (drop n xs)) z

-- k rows from `from` on
pub rows-part : (from k : ℕ) (ks cs xs : List ℕ) → length cs ≡ length ks → length xs ≡ length ks
    → take k (drop from (rows_from 0 ks cs xs)) ≡ rows_from from (take k (drop from ks)) (take k (drop from cs)) (take k (drop from xs))
rows-part from k ks cs xs e f =
    ap (take k) (rows_drop from 0 ks cs xs e f ∙ ap (λ (i : ℕ). rows_from i (drop from ks) (drop from cs) (drop from xs)) (omega arith))
    ∙ rows_take k from (drop from ks) (drop from cs) (drop from xs)

-- ---- the rows of three columns of one length

rows_kinds : (b : ℕ) (ks cs xs : List ℕ) → length cs ≡ length ks → length xs ≡ length ks → map (λ (r : Row). r.kind) (rows_from b ks cs xs) ≡ ks
unfolding rows_from
rows_kinds b [] cs xs e f = refl
rows_kinds b (k ∷ ks) [] xs e f = absurd (suc-ne-zero (length ks) (sym e))
rows_kinds b (k ∷ ks) (c ∷ cs) [] e f = absurd (suc-ne-zero (length ks) (sym f))
rows_kinds b (k ∷ ks) (c ∷ cs) (x ∷ xs) e f = ap (λ (l : List ℕ). k ∷ l) (rows_kinds (suc b) ks cs xs (suc_inj e) (suc_inj f))

rows-changes : (b : ℕ) (ks cs xs : List ℕ) → length cs ≡ length ks → length xs ≡ length ks → map (λ (r : Row). r.change) (rows_from b ks cs xs) ≡ cs
unfolding rows_from
rows-changes b [] [] xs e f = refl
rows-changes b [] (c ∷ cs) xs e f = absurd (suc-ne-zero (length cs) e)
rows-changes b (k ∷ ks) [] xs e f = absurd (suc-ne-zero (length ks) (sym e))
rows-changes b (k ∷ ks) (c ∷ cs) [] e f = absurd (suc-ne-zero (length ks) (sym f))
rows-changes b (k ∷ ks) (c ∷ cs) (x ∷ xs) e f = ap (λ (l : List ℕ). c ∷ l) (rows-changes (suc b) ks cs xs (suc_inj e) (suc_inj f))

rows-orders : (b : ℕ) (ks cs xs : List ℕ) → length cs ≡ length ks → length xs ≡ length ks → map (λ (r : Row). eqb r.kind 2 && eqb r.answer 1) (rows_from b ks cs xs) ≡ ordering ks xs
unfolding rows_from ordering
rows-orders b [] cs xs e f = refl
rows-orders b (k ∷ ks) [] xs e f = absurd (suc-ne-zero (length ks) (sym e))
rows-orders b (k ∷ ks) (c ∷ cs) [] e f = absurd (suc-ne-zero (length ks) (sym f))
rows-orders b (k ∷ ks) (c ∷ cs) (x ∷ xs) e f = ap (λ (l : List Bool). (eqb k 2 && eqb x 1) ∷ l) (rows-orders (suc b) ks cs xs (suc_inj e) (suc_inj f))

pub rows-length : (b : ℕ) (ks cs xs : List ℕ) → length cs ≡ length ks → length xs ≡ length ks → length (rows_from b ks cs xs) ≡ length ks
unfolding rows_from
rows-length b [] cs xs e f = refl
rows-length b (k ∷ ks) [] xs e f = absurd (suc-ne-zero (length ks) (sym e))
rows-length b (k ∷ ks) (c ∷ cs) [] e f = absurd (suc-ne-zero (length ks) (sym f))
rows-length b (k ∷ ks) (c ∷ cs) (x ∷ xs) e f = ap suc (rows-length (suc b) ks cs xs (suc_inj e) (suc_inj f))

-- whether a place is among n from b on, one further
inside : (op b n : ℕ) → Bool
inside op b n = leb b op && ltb op (b + n)

module _ (op b n : ℕ) where
  -- at it, past it, before it
  inside-here : op ≡ b → inside op b (suc n) ≡ true
  unfolding inside
  inside-here e = simp (le-leb b op (omega arith), lt-ltb op (b + suc n) (omega arith))

  inside_past : b < op → inside op b (suc n) ≡ inside op (suc b) n
  unfolding inside
  inside_past h =
      let z : b + suc n ≡ suc b + n = omega arith in
      simp (le-leb b op (omega arith), le-leb (suc b) op h, z)

  inside-before : op < b → inside op b n ≡ false
  unfolding inside
  inside-before h = simp (lt-leb b op h)

inside-none : (op b : ℕ) → inside op b 0 ≡ false
unfolding inside
inside-none op b = ⊎_elim (λ h. simp (le-ltb op (b + 0) (omega arith)) (and-false (leb b op))) (λ h. simp (lt-leb b op h)) (le-or-gt b op)

inside-step : (op b n : ℕ) → (eqb op b || inside op (suc b) n) ≡ inside op b (suc n)
inside-step op b n =
    ⊎_elim
    (λ h. ⊎_elim
    (λ k. let e : op ≡ b = omega arith in rw (eq-eqb op b e) (sym (inside-here op b n e)))
    (λ k. rw (ne_eqb op b (λ e. absurd (omega (arith, e, k)))) (sym (inside_past op b n k)))
    (le-or-gt op b))
    (λ h. rw (ne_eqb op b (λ e. absurd (omega (arith, e, h)))) (inside-before op (suc b) n (omega arith) ∙ sym (inside-before op b (suc n) h)))
    (le-or-gt b op)

-- ---- the four tests of a record's rule

module _ (b : ℕ) (ks cs xs : List ℕ) (e : length cs ≡ length ks) (f : length xs ≡ length ks) where
  pub rows-changed : any (λ (r : Row). eqb r.change 1) (rows_from b ks cs xs) ≡ any is_one cs
  rows-changed = any-map (λ (r : Row). r.change) is_one (rows_from b ks cs xs) ∙ ap (any is_one) (rows-changes b ks cs xs e f)

  pub rows_written : last_place (λ (r : Row). not (eqb r.kind 2)) (rows_from b ks cs xs) ≡ last_place is_write ks
  rows_written = last-map (λ (r : Row). r.kind) is_write (rows_from b ks cs xs) ∙ ap (last_place is_write) (rows_kinds b ks cs xs e f)

  pub rows-ordered : last_place (λ (r : Row). eqb r.kind 2 && eqb r.answer 1) (rows_from b ks cs xs) ≡ last_barrier ks xs
  rows-ordered =
      last-map (λ (r : Row). eqb r.kind 2 && eqb r.answer 1) yes (rows_from b ks cs xs) ∙ ap (last_place yes) (rows-orders b ks cs xs e f)

armed-is : (j : Injection) (t : Bool) → is_armed (cond t (At j) Nothing) ≡ t
armed-is j true = refl
armed-is j false = refl

join : (t o i : Bool) → (t && o || o && i) ≡ (o && (t || i))
join true true i = refl
join false true i = refl
join t false i = ap (λ (b : Bool). b || false) (and-false t)

never : (o : Bool) (rs : List Row) → any (λ (r : Row). is_armed (armed_on Nothing r.index) && o) rs ≡ false
unfolding any
never o [] = refl
never o (r ∷ rs) = never o rs

armed-inside : (j : Injection) (o : Bool) (b : ℕ) (ks cs xs : List ℕ) → length cs ≡ length ks → length xs ≡ length ks
    → any (λ (r : Row). is_armed (armed_on (At j) r.index) && o) (rows_from b ks cs xs) ≡ (o && inside j.op b (length ks))
unfolding any rows_from
armed-inside j o b [] cs xs e f = sym (ap (λ (t : Bool). o && t) (inside-none j.op b) ∙ and-false o)
armed-inside j o b (k ∷ ks) [] xs e f = absurd (suc-ne-zero (length ks) (sym e))
armed-inside j o b (k ∷ ks) (c ∷ cs) [] e f = absurd (suc-ne-zero (length ks) (sym f))
armed-inside j o b (k ∷ ks) (c ∷ cs) (x ∷ xs) e f =
    ap₂ (λ (t i : Bool). t && o || i) (armed-is j (eqb j.op b)) (armed-inside j o (suc b) ks cs xs (suc_inj e) (suc_inj f))
    ∙ join (eqb j.op b) o (inside j.op (suc b) (length ks))
    ∙ ap (λ (t : Bool). o && t) (inside-step j.op b (length ks))

pub rows-armed : (a : Armed) (o : Bool) (b : ℕ) (ks cs xs : List ℕ) → length cs ≡ length ks → length xs ≡ length ks
    → any (λ (r : Row). is_armed (armed_on a r.index) && o) (rows_from b ks cs xs) ≡ (o && armed_in a b (b + length ks))
unfolding inside
rows-armed Nothing o b ks cs xs e f = never o (rows_from b ks cs xs) ∙ sym (and-false o)
rows-armed (At j) o b ks cs xs e f = armed-inside j o b ks cs xs e f
