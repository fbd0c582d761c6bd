-- Two lists compared, and the rows of columns.
--     same-lengths, same_true, same_self, same-pointwise   of lists that are not as long, that are equal, and as `==` compares them
--     all-same                                             and as a test of all places compares them
--     op-true, op_self                                     two operations that are alike are one
--     program-row, erase-row, barrier-row                  and an operation that a row holds
--     mark-true, mark-self, mark-eq                        and two marks
--     row_of, through-length, ops-given                    a run's operations, as an iterator over the rows gives them
-- Assumes nothing.
use mathlib.Core.Path.{◌≡◌, refl, sym, ap, ◌∙◌}
use mathlib.Core.Bool.{Bool, true, false, ◌&&◌, true≢false}
use mathlib.Core.List.{List, [], ◌∷◌, map}
use Prim.Native.Nat.{ℕ, zero, suc, ◌≤◌, ◌<◌}
use native.Mathlib.Nat.{not-suc-le-zero, le_of_suc-le-suc, suc-ne-zero, suc_inj}
use native.Mathlib.Omega.{arith}
use lib.Dec.{eqb, leb}
use lib.ListN.{length, take, get_or, length-take}
use lib.Seq.{length-take-le}
use lib.Pointwise.{pointwise}
use borrow.Author.Tests.{eq-eqb, ne_eqb, eqb-true, le-leb}
use Rattle.std.specs.Prelude.{Option, Some, None}
use Rattle.std.specs.Option.{option_eq}
use Rattle.std.specs.List.{list_all, range_with_len}
use Rattle.std.proofs.lemmas.List.{get_or-take, ext_get_or}
use Rattle.std.proofs.lemmas.List.FromFn.{get_or-map-range_with_len, length-map-range_with_len}
use Rattle.inject.specs.declared.Op.{Op}
use Rattle.inject.specs.declared.Op.TheVariants.{Program, Erase, Barrier}
use Rattle.inject.specs.Ops.{op_of, ops_of}
use Rattle.inject.specs.Steps.{op_at}
use Rattle.records.specs.Records.{Label, begin, end, RecordMark}
use Rattle.held.specs.declared.Mark.{Mark}
use Rattle.held.specs.Held.{Recorded, same, same_op, same_label, same_mark, end_of, ops_through}
use Rattle.held.specs.Scans.{label_as, marked_as, Fits}

-- ---- two lists

pub both : (a b : Bool) → (a && b) ≡ true → (a ≡ true) × (b ≡ true)
both true b e = (refl, e)
both false b e = absurd (true≢false (sym e))

and-false : (b : Bool) → (b && false) ≡ false
and-false true = refl
and-false false = refl

pub same-lengths : {A : Type 0} (f : A → A → Bool) (xs ys : List A) → (length xs ≡ length ys → ⊥) → false ≡ same f xs ys
unfolding same
same-lengths f [] [] n = absurd (n refl)
same-lengths f [] (y ∷ ys) n = refl
same-lengths f (x ∷ xs) [] n = refl
same-lengths f (x ∷ xs) (y ∷ ys) n =
    sym (ap (λ (b : Bool). f x y && b) (sym (same-lengths f xs ys (λ q. n (ap suc q)))) ∙ and-false (f x y))

-- two lists that are alike are equal
module _ {A : Type 0} (f : A → A → Bool) where
  pub same_true : ((x y : A) → f x y ≡ true → x ≡ y) → (xs ys : List A) → same f xs ys ≡ true → xs ≡ ys
  unfolding same
  same_true h [] [] e = refl
  same_true h [] (y ∷ ys) e = absurd (true≢false (sym e))
  same_true h (x ∷ xs) [] e = absurd (true≢false (sym e))
  same_true h (x ∷ xs) (y ∷ ys) e =
      let b = both (f x y) (same f xs ys) e in
      ap (λ (z : A). z ∷ xs) (h x y b.0) ∙ ap (λ (l : List A). y ∷ l) (same_true h xs ys b.1)

  pub same_self : ((x : A) → f x x ≡ true) → (xs : List A) → same f xs xs ≡ true
  unfolding same
  same_self h [] = refl
  same_self h (x ∷ xs) = rw (h x, same_self h xs)

-- `==` of two slices
pub same-pointwise : {A : Type 0} (f : A → A → Bool) (xs ys : List A) → pointwise f xs ys ≡ same f xs ys
unfolding same
same-pointwise f [] [] = refl
same-pointwise f [] (y ∷ ys) = refl
same-pointwise f (x ∷ xs) [] = refl
same-pointwise f (x ∷ xs) (y ∷ ys) = ap (λ (b : Bool). f x y && b) (same-pointwise f xs ys)

-- two lists of which each element is made from a number, by a test of all the numbers
pub all-same : {A : Type 0} (f : A → A → Bool) (a b : ℕ → A) (is : List ℕ) → list_all (λ i. f (a i) (b i)) is ≡ same f (map a is) (map b is)
unfolding same
all-same f a b [] = refl
all-same f a b (i ∷ is) = ap (λ (t : Bool). f (a i) (b i) && t) (all-same f a b is)

-- ---- operations

pub ops-length : (ks os ls : List ℕ) → length os ≡ length ks → length ls ≡ length ks → length (ops_of ks os ls) ≡ length ks
unfolding ops_of
ops-length [] os ls p q = refl
ops-length (k ∷ ks) [] ls p q = p
ops-length (k ∷ ks) (o ∷ os) [] p q = q
ops-length (k ∷ ks) (o ∷ os) (l ∷ ls) p q = ap suc (ops-length ks os ls (suc_inj p) (suc_inj q))

pub ops-at : (ks os ls : List ℕ) (i : ℕ) → length os ≡ length ks → length ls ≡ length ks → i < length ks
    → get_or (ops_of ks os ls) i Barrier ≡ op_of (get_or ks i 0) (get_or os i 0) (get_or ls i 0)
unfolding ops_of
ops-at [] os ls i p q h = absurd (not-suc-le-zero h)
ops-at (k ∷ ks) [] ls i p q h = absurd (suc-ne-zero (length ks) (sym p))
ops-at (k ∷ ks) (o ∷ os) [] i p q h = absurd (suc-ne-zero (length ks) (sym q))
ops-at (k ∷ ks) (o ∷ os) (l ∷ ls) zero p q h = refl
ops-at (k ∷ ks) (o ∷ os) (l ∷ ls) (suc i) p q h = ops-at ks os ls i (suc_inj p) (suc_inj q) (le_of_suc-le-suc h)

-- ---- two operations, two marks

pub op-true : (a b : Op) → same_op a b ≡ true → a ≡ b
unfolding same_op
op-true (Program a m) (Program b n) e =
    let t = both (eqb a b) (eqb m n) e in
    ap (λ (x : ℕ). Program x m) (eqb-true a b t.0) ∙ ap (λ (x : ℕ). Program b x) (eqb-true m n t.1)
op-true (Program a m) (Erase b n) e = absurd (true≢false (sym e))
op-true (Program a m) Barrier e = absurd (true≢false (sym e))
op-true (Erase a m) (Program b n) e = absurd (true≢false (sym e))
op-true (Erase a m) (Erase b n) e =
    let t = both (eqb a b) (eqb m n) e in
    ap (λ (x : ℕ). Erase x m) (eqb-true a b t.0) ∙ ap (λ (x : ℕ). Erase b x) (eqb-true m n t.1)
op-true (Erase a m) Barrier e = absurd (true≢false (sym e))
op-true Barrier (Program b n) e = absurd (true≢false (sym e))
op-true Barrier (Erase b n) e = absurd (true≢false (sym e))
op-true Barrier Barrier e = refl

pub op_self : (a : Op) → same_op a a ≡ true
unfolding same_op
op_self (Program a m) = simp (eq-eqb a a refl, eq-eqb m m refl)
op_self (Erase a m) = simp (eq-eqb a a refl, eq-eqb m m refl)
op_self Barrier = refl

-- an operation and a row, kind by kind
no-span : (k o l : ℕ) → op_of (suc (suc k)) o l ≡ Barrier
no-span k o l = rw (ne_eqb (suc (suc k)) 0 (λ q. omega arith), ne_eqb (suc (suc k)) 1 (λ q. omega arith))

pub program-row : (a m k o l : ℕ) → (eqb k 0 && eqb a o && eqb m l) ≡ same_op (Program a m) (op_of k o l)
unfolding same_op
program-row a m zero o l = refl
program-row a m (suc zero) o l = refl
program-row a m (suc (suc k)) o l = rw (no-span k o l, ne_eqb (suc (suc k)) 0 (λ q. omega arith))

pub erase-row : (a m k o l : ℕ) → (eqb k 1 && eqb a o && eqb m l) ≡ same_op (Erase a m) (op_of k o l)
unfolding same_op
erase-row a m zero o l = refl
erase-row a m (suc zero) o l = refl
erase-row a m (suc (suc k)) o l = rw (no-span k o l, ne_eqb (suc (suc k)) 1 (λ q. omega arith))

pub barrier-row : (k o l : ℕ) → leb 2 k ≡ same_op Barrier (op_of k o l)
unfolding same_op
barrier-row zero o l = refl
barrier-row (suc zero) o l = refl
barrier-row (suc (suc k)) o l = rw (no-span k o l, le-leb 2 (suc (suc k)) (omega arith))

label-true : (a b : Label) → same_label a b ≡ true → a ≡ b
unfolding same_label
label-true (begin i) (begin k) e = ap begin (eqb-true i k e)
label-true (begin i) end e = absurd (true≢false (sym e))
label-true end (begin k) e = absurd (true≢false (sym e))
label-true end end e = refl

label-self : (a : Label) → same_label a a ≡ true
unfolding same_label
label-self (begin i) = eq-eqb i i refl
label-self end = refl

pub mark-true : (a b : RecordMark) → same_mark a b ≡ true → a ≡ b
mark-true a b e =
    let t = both (same_label a.label b.label) (eqb a.place b.place) e in
    let l = label-true a.label b.label t.0 in
    let p = eqb-true a.place b.place t.1 in
    λ q. record { label = l q; place = p q }

pub mark-self : (a : RecordMark) → same_mark a a ≡ true
mark-self a = simp (label-self a.label, eq-eqb a.place a.place refl)

pub not-true : (b : Bool) → (b ≡ true → ⊥) → b ≡ false
not-true true n = absurd (n refl)
not-true false n = refl

-- two marks as `==` compares them
label-eq : (i j : Option ℕ) → option_eq eqb i j ≡ same_label (label_as i) (label_as j)
unfolding same_label
label-eq None None = refl
label-eq None (Some j) = refl
label-eq (Some i) None = refl
label-eq (Some i) (Some j) = refl

pub mark-eq : (x y : Mark) → (option_eq eqb x.id y.id && eqb x.place y.place) ≡ same_mark (marked_as x) (marked_as y)
mark-eq x y = ap (λ (b : Bool). b && eqb x.place y.place) (label-eq x.id y.id)

-- ---- a run's operations, row by row

-- a row of a run's operations
abbrev pub row_of : Recorded → ℕ → Op
row_of x i = op_at x.kinds x.offsets x.lens i

module _ (t : ℕ) (x : Recorded) (w : Fits x) where
  within : end_of t x ≤ length x.kinds
  within = omega (arith, w.operations)

  -- a column as far as it is compared
  cut : (xs : List ℕ) → length xs ≡ length x.kinds → length (take (end_of t x) xs) ≡ length (take (end_of t x) x.kinds)
  cut xs e = simp (length-take, e)

  kinds-length : length (take (end_of t x) x.kinds) ≡ end_of t x
  kinds-length = length-take-le (end_of t x) x.kinds within

  pub through-length : length (ops_through t x) ≡ end_of t x
  through-length = ops-length _ _ _ (cut x.offsets w.offsets) (cut x.lens w.lens) ∙ kinds-length

  through-at : (i : ℕ) → i < end_of t x → get_or (ops_through t x) i Barrier ≡ row_of x i
  through-at i h =
      let n : ℕ = end_of t x in
      ops-at (take n x.kinds) (take n x.offsets) (take n x.lens) i (cut x.offsets w.offsets) (cut x.lens w.lens) (rw kinds-length h)
      ∙ (λ q. op_of (get_or-take n x.kinds i 0 h q) (get_or-take n x.offsets i 0 h q) (get_or-take n x.lens i 0 h q))

  -- as an iterator gives them
  pub ops-given : map (row_of x) (range_with_len 0 (end_of t x)) ≡ ops_through t x
  ops-given =
      let l = length-map-range_with_len (row_of x) 0 (end_of t x) in
      ext_get_or Barrier (map (row_of x) (range_with_len 0 (end_of t x))) (ops_through t x) (l ∙ sym through-length)
      (λ i h. let k : i < end_of t x = rw (sym l) h in get_or-map-range_with_len (row_of x) 0 (end_of t x) i i Barrier k (omega arith) ∙ sym (through-at i k))
