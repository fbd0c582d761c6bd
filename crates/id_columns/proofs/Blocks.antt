-- An id is sought in a list: element by element with a flag, block by block, and to the place where it first stands.
--     any_next, any_end            the flag and what is left say what the whole list says: one element more, and none left
--     block-passed, block-found    a block that has it not, and one that has it
--     rest-is                      what is left behind the last block
--     passed-more                  one element more that is not the id
--     place_found, place_none      the first place, once all before it is known not to have the id
-- Assumes nothing.
use mathlib.Core.Path.{◌≡◌, refl, sym, ap, ◌∙◌}
use mathlib.Core.Bool.{Bool, true, false, ◌||◌, or-true, or-false, or_assoc, true≢false}
use mathlib.Core.List.{List, [], ◌∷◌, ◌++◌}
use Prim.Native.Nat.{ℕ, zero, suc, ◌+◌, ◌-◌, ◌≤◌, ◌<◌}
use native.Mathlib.Nat.{not-suc-le-zero, le_of_suc-le-suc}
use native.Mathlib.Numerals.{add-one}
use native.Mathlib.Omega.{arith}
use lib.ListN.{length, get_or, take, drop, length-drop, length-append, take-append-drop}
use lib.Seq.{take_all, take-add, take-suc, drop-drop, take-append_seam, drop-append_seam}
use lib.Dec.{eqb}
use borrow.Author.Tests.{eq-eqb, ne_eqb}
use Rattle.std.specs.Prelude.{None, Some}
use Rattle.basics.proofs.Scans.{at-step, at-end}
use Rattle.id_columns.specs.Ids.{has, place_of}

-- ---- element by element, with a flag

module _ (s : List ℕ) (x : ℕ) (f : Bool) where
  pub any_next : (i : ℕ) → has s x ≡ (f || has (drop i s) x) → i < length s → has s x ≡ ((f || eqb (get_or s i 0) x) || has (drop (i + 1) s) x)
  unfolding has
  any_next i e h =
      e ∙ ap (λ (b : Bool). f || b) (at-step (λ (l : List ℕ). has l x) s i 0 h) ∙ sym (or_assoc f (eqb (get_or s i 0) x) (has (drop (i + 1) s) x))

  pub any_end : (i : ℕ) → has s x ≡ (f || has (drop i s) x) → length s ≤ i → f ≡ has s x
  unfolding has
  any_end i e h = sym (e ∙ ap (λ (b : Bool). f || b) (at-end (λ (l : List ℕ). has l x) s i h) ∙ or-false f)

-- ---- block by block

has-append : (a b : List ℕ) (x : ℕ) → has (a ++ b) x ≡ (has a x || has b x)
unfolding has
has-append [] b x = refl
has-append (y ∷ ys) b x = ap (λ (t : Bool). eqb y x || t) (has-append ys b x) ∙ sym (or_assoc (eqb y x) (has ys x) (has b x))

-- b is the block behind the first i
module _ (l b rest : List ℕ) (x i : ℕ) (h : i ≤ length l) (e : b ++ rest ≡ drop i l) where
  pub block-passed : (k : ℕ) → length b ≡ k → has (take i l) x ≡ false → has b x ≡ false
      → (i + k ≤ length l) × (has (take (i + k) l) x ≡ false) × (rest ≡ drop (i + k) l)
  block-passed k z n f =
      let long : length b + length rest ≡ length l - i = sym (length-append b rest) ∙ ap length e ∙ length-drop i l in
      let own : take k (drop i l) ≡ b = ap (λ (j : ℕ). take j (drop i l)) (sym z) ∙ ap (take (length b)) (sym e) ∙ take-append_seam b rest in
      let left : drop k (drop i l) ≡ rest = ap (λ (j : ℕ). drop j (drop i l)) (sym z) ∙ ap (drop (length b)) (sym e) ∙ drop-append_seam b rest in (
        omega arith,
        ap (λ (m : List ℕ). has m x) (take-add i k l ∙ ap (λ (m : List ℕ). take i l ++ m) own) ∙ has-append (take i l) b x ∙ rw (n, f) refl,
        sym left ∙ drop-drop k i l,
      )

  pub block-found : has b x ≡ true → has l x ≡ true
  block-found t =
      ap (λ (m : List ℕ). has m x) (sym (take-append-drop i l) ∙ ap (λ (m : List ℕ). take i l ++ m) (sym e))
      ∙ has-append (take i l) (b ++ rest) x
      ∙ ap (λ (a : Bool). has (take i l) x || a) (has-append b rest x ∙ ap (λ (a : Bool). a || has rest x) t)
      ∙ or-true (has (take i l) x)

-- b is what is said of `&l[i..]`
pub rest-is : (l : List ℕ) (x i : ℕ) (b : Bool) → b ≡ has (take (length l - i) (drop i l)) x → has (take i l) x ≡ false → b ≡ has l x
rest-is l x i b is n =
    is
    ∙ ap (λ (m : List ℕ). has m x) (take_all (length l - i) (drop i l) (rw length-drop (omega arith)))
    ∙ sym (ap (λ (m : List ℕ). has m x) (sym (take-append-drop i l)) ∙ has-append (take i l) (drop i l) x ∙ ap (λ (a : Bool). a || has (drop i l) x) n)

-- ---- the first place

or-none : (a b : Bool) → a || b ≡ false → (a ≡ false) × (b ≡ false)
or-none true b e = absurd (true≢false e)
or-none false b e = (refl, e)

pub passed-more : (s : List ℕ) (x i : ℕ) → has (take i s) x ≡ false → i < length s → (get_or s i 0 ≡ x → ⊥) → has (take (i + 1) s) x ≡ false
unfolding has
passed-more s x i e h n =
    ap (λ (m : List ℕ). has m x) (ap (λ (k : ℕ). take k s) (add-one i) ∙ take-suc s i 0 h)
    ∙ has-append (take i s) (get_or s i 0 ∷ []) x
    ∙ simp (e, ne_eqb _ _ n)

pub place_found : (s : List ℕ) (x i : ℕ) → has (take i s) x ≡ false → i < length s → get_or s i 0 ≡ x → Some i ≡ place_of x s
unfolding has place_of
place_found [] x i e h q = absurd (not-suc-le-zero h)
place_found (y ∷ ys) x zero e h q = simp (eq-eqb _ _ q)
place_found (y ∷ ys) x (suc i) e h q =
    let p : (eqb y x ≡ false) × (has (take i ys) x ≡ false) = or-none (eqb y x) (has (take i ys) x) e in
    simp (p.0, sym (place_found ys x i p.1 (le_of_suc-le-suc h) q))

none_passed : (s : List ℕ) (x : ℕ) → has s x ≡ false → place_of x s ≡ None
unfolding has place_of
none_passed [] x e = refl
none_passed (y ∷ ys) x e =
    let p : (eqb y x ≡ false) × (has ys x ≡ false) = or-none (eqb y x) (has ys x) e in
    simp (p.0, none_passed ys x p.1)

pub place_none : (s : List ℕ) (x i : ℕ) → has (take i s) x ≡ false → length s ≤ i → None ≡ place_of x s
place_none s x i e h = sym (none_passed s x (ap (λ (m : List ℕ). has m x) (sym (take_all i s h)) ∙ e))
