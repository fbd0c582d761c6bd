-- Points stored in the lent columns, one to a row from a place on, and then more of them. Assumes nothing.
use mathlib.Core.Path.{◌≡◌, refl, sym, ap, ap₂, subst, ◌∙◌}
use mathlib.Core.List.{List, [], ◌∷◌, ◌++◌, map, map-append}
use Prim.Native.Nat.{ℕ, zero, suc, ◌+◌, ◌*◌, ◌≤◌, ◌<◌}
use native.Mathlib.Nat.{add-zero, zero-add, le_trans}
use native.Mathlib.Numerals.{add-one}
use native.Mathlib.Omega.{arith}
use lib.ListN.{length, set, replicate, length-append, length-map, length-replicate, replicate-append-replicate}
use lib.Seq.{sets, length-sets, sets-eq}
use Rattle.inject.specs.declared.Progress.TheVariants.{None, Bytes, Whole}
use Rattle.inject.specs.declared.Interruption.{Interruption}
use Rattle.inject.specs.declared.Injection.{Injection}
use Rattle.inject.specs.declared.group.Group.{Group}
use Rattle.inject.specs.Points.{point}
use Rattle.inject.specs.Answers.{progress_code, count_code, interruption_code}
use Rattle.inject_columns.specs.Answers.{PointColumns, columns_of, begun, written}
use Rattle.inject.specs.Steps.{steps, grouped}
use Rattle.inject_columns.specs.Steps.{laid, laid_from, bytes_at, Room, Rows, rows}
use Rattle.inject.proofs.Groups.{length-steps}

-- ---- a run of stores, and then more of them

sets-append : {A : Type 0} (l : List A) (i : ℕ) (xs ys : List A) → sets l i (xs ++ ys) ≡ sets (sets l i xs) (i + length xs) ys
sets-append l i [] ys = ap (λ (k : ℕ). sets l k ys) (sym (add-zero i))
sets-append l i (x ∷ xs) ys =
    let e : suc i + length xs ≡ i + suc (length xs) = omega arith in
    sets-append (set l i x) (suc i) xs ys ∙ ap (λ (k : ℕ). sets (sets (set l i x) (suc i) xs) k ys) e

-- the same of what is told of each point
sets-map : {A B : Type 0} (f : A → B) (l : List B) (i : ℕ) (ps qs : List A)
    → sets (sets l i (map f ps)) (i + length ps) (map f qs) ≡ sets l i (map f (ps ++ qs))
sets-map f l i ps qs =
    ap (λ (k : ℕ). sets (sets l i (map f ps)) (i + k) (map f qs)) (sym (length-map ps f))
    ∙ sym (ap (sets l i) (map-append f ps qs) ∙ sets-append l i (map f ps) (map f qs))

map-replicate : {A B : Type 0} (f : A → B) (n : ℕ) (a : A) → map f (replicate n a) ≡ replicate n (f a)
map-replicate f zero a = refl
map-replicate {A} {B} f (suc n) a = ap (λ (xs : List B). f a ∷ xs) (map-replicate f n a)

-- ---- four columns

same-columns : (a b d e a' b' d' e' : List ℕ) → a ≡ a' → b ≡ b' → d ≡ d' → e ≡ e' → columns_of a b d e ≡ columns_of a' b' d' e'
same-columns a b d e a' b' d' e' p q r s = cc

laid-append : (at : ℕ) (ps qs : List Injection) (c : PointColumns) → laid (at + length ps) qs (laid at ps c) ≡ laid at (ps ++ qs) c
unfolding laid
laid-append at ps qs c =
    same-columns _ _ _ _ _ _ _ _
    (sets-map (λ p. p.op) c.ops at ps qs)
    (sets-map (λ p. progress_code p.progress) c.progresses at ps qs)
    (sets-map (λ p. count_code p.progress) c.counts at ps qs)
    (sets-map (λ p. interruption_code p.interruption) c.interruptions at ps qs)

-- what is to follow some rows, laid after them
pub rest-rows : (at n : ℕ) (xs ys : List Injection) (c d : PointColumns) → rows n d ≡ laid_from at xs c
    → laid_from n ys d ≡ laid_from at (xs ++ ys) c
rest-rows at n xs ys c d p =
    let k : n ≡ at + length xs = ap (λ (r : Rows). r.next) p in
    let l : at + length xs + length ys ≡ at + length (xs ++ ys) = rw length-append (omega arith) in
    ap₂ (λ (j : ℕ) (t : PointColumns). laid_from j ys t) k (ap (λ (r : Rows). r.columns) p)
    ∙ ap₂ (λ (j : ℕ) (t : PointColumns). rows j t) l (laid-append at xs ys c)

-- rows, and then rows
pub then-rows : (at n m : ℕ) (xs ys : List Injection) (c d e : PointColumns) → rows n d ≡ laid_from at xs c → rows m e ≡ laid_from n ys d
    → rows m e ≡ laid_from at (xs ++ ys) c
then-rows at n m xs ys c d e p q = q ∙ rest-rows at n xs ys c d p

-- no rows
pub no_rows : (at : ℕ) (c : PointColumns) → rows at c ≡ laid_from at [] c
unfolding laid
no_rows at c = ap (λ (j : ℕ). rows j c) (sym (add-zero at))

pub none_yet : (at : ℕ) (c : PointColumns) → rows (at + 0) c ≡ laid_from at [] c
unfolding laid
none_yet at c = refl

-- one row
pub one-row : (at : ℕ) (p : Injection) (c d : PointColumns) → d ≡ laid at (p ∷ []) c → rows (at + 1) d ≡ laid_from at (p ∷ []) c
one-row at p c d e = ap (λ (t : PointColumns). rows (at + 1) t) e

-- rows, and then one row
pub then-row : (at n : ℕ) (xs : List Injection) (p : Injection) (c d e : PointColumns) → rows n d ≡ laid_from at xs c → e ≡ laid n (p ∷ []) d
    → rows (n + 1) e ≡ laid_from at (xs ++ (p ∷ [])) c
then-row at n xs p c d e a b = then-rows at n (n + 1) xs (p ∷ []) c d e a (one-row n p d e b)

-- the same point once more
pub same_rows : (at k : ℕ) (p : Injection) (c d e : PointColumns) → rows (at + k) d ≡ laid_from at (replicate k p) c → e ≡ laid (at + k) (p ∷ []) d
    → rows (at + (k + 1)) e ≡ laid_from at (replicate (k + 1) p) c
same_rows at k p c d e a b =
    let n : at + (k + 1) ≡ at + k + 1 = omega arith in
    ap (λ (j : ℕ). rows j e) n ∙ then-row at (at + k) (replicate k p) p c d e a b ∙ ap (λ (xs : List Injection). laid_from at xs c) (replicate-append-replicate k 1 p)

-- the next byte point
pub byte-rows : (at k op unit : ℕ) (w : Interruption) (c d e : PointColumns) → rows (at + k) d ≡ laid_from at (bytes_at op w unit k) c
    → e ≡ laid (at + k) (point op w (Bytes ((k + 1) * unit)) ∷ []) d → rows (at + (k + 1)) e ≡ laid_from at (bytes_at op w unit (k + 1)) c
unfolding steps
byte-rows at k op unit w c d e a b =
    let n : at + (k + 1) ≡ at + k + 1 = omega arith in
    ap (λ (j : ℕ). rows j e) n
    ∙ then-row at (at + k) (bytes_at op w unit k) (point op w (Bytes ((k + 1) * unit))) c d e a b
    ∙ ap (λ (xs : List Injection). laid_from at xs c)
    (simp (add-one) (sym (ap (map (point op w)) (map-append Bytes (steps unit k) (suc k * unit ∷ [])) ∙ map-append (point op w) (map Bytes (steps unit k)) _)))

-- ---- the columns keep their lengths

pub record Kept (c d : PointColumns) : Type 0 where
  pub ops : length d.ops ≡ length c.ops
  pub progresses : length d.progresses ≡ length c.progresses
  pub counts : length d.counts ≡ length c.counts
  pub interruptions : length d.interruptions ≡ length c.interruptions

laid_kept : (at : ℕ) (ps : List Injection) (c : PointColumns) → Kept c (laid at ps c)
unfolding laid
laid_kept at ps c = record {
  ops = length-sets c.ops at (map (λ p. p.op) ps);
  progresses = length-sets c.progresses at (map (λ p. progress_code p.progress) ps);
  counts = length-sets c.counts at (map (λ p. count_code p.progress) ps);
  interruptions = length-sets c.interruptions at (map (λ p. interruption_code p.interruption) ps);
}

pub kept : (at n : ℕ) (ps : List Injection) (c d : PointColumns) → rows n d ≡ laid_from at ps c → Kept c d
kept at n ps c d e = subst (λ (t : PointColumns). Kept c t) (sym (ap (λ (r : Rows). r.columns) e)) (laid_kept at ps c)

pub kept_trans : (c d e : PointColumns) → Kept c d → Kept d e → Kept c e
kept_trans c d e p q = record {
  ops = q.ops ∙ p.ops;
  progresses = q.progresses ∙ p.progresses;
  counts = q.counts ∙ p.counts;
  interruptions = q.interruptions ∙ p.interruptions;
}

pub kept-room : (n m : ℕ) (c d : PointColumns) → Kept c d → m ≤ n → Room n c → Room m d
kept-room n m c d k l r = record {
  in-ops = rw k.ops (le_trans l r.in-ops);
  in-progresses = rw k.progresses (le_trans l r.in-progresses);
  in-counts = rw k.counts (le_trans l r.in-counts);
  in-interruptions = rw k.interruptions (le_trans l r.in-interruptions);
}

pub less-room : (n m : ℕ) (c : PointColumns) → m ≤ n → Room n c → Room m c
less-room n m c l r = record {
  in-ops = le_trans l r.in-ops;
  in-progresses = le_trans l r.in-progresses;
  in-counts = le_trans l r.in-counts;
  in-interruptions = le_trans l r.in-interruptions;
}

-- there is room for one more row
pub row-room : (at k n : ℕ) (ps : List Injection) (c d : PointColumns) → rows (at + k) d ≡ laid_from at ps c → k < n → Room (at + n) c → Room (at + k + 1) d
row-room at k n ps c d e h r = kept-room (at + n) (at + k + 1) c d (kept at (at + k) ps c d e) (omega arith) r

-- room for two parts is room for the first, and then for the second
module _ (at : ℕ) (xs ys : List Injection) (c : PointColumns) (r : Room (at + length (xs ++ ys)) c) where
  pub first-room : Room (at + length xs) c
  first-room = less-room (at + length (xs ++ ys)) (at + length xs) c (rw length-append (omega arith)) r

  pub next-room : (n : ℕ) (d : PointColumns) → rows n d ≡ laid_from at xs c → Room (n + length ys) d
  next-room n d e =
      let k : n ≡ at + length xs = ap (λ (s : Rows). s.next) e in
      kept-room (at + length (xs ++ ys)) (n + length ys) c d (kept at n xs c d e) (rw length-append (omega arith)) r

pub same-room : (at times : ℕ) (p : Injection) (c : PointColumns) → Room (at + length (replicate times p)) c → Room (at + times) c
same-room at times p c r = rw length-replicate at r

-- ---- one operation's points, in three parts

module _ (r : Group) (op : ℕ) (w : Interruption) where
  abbrev nones_of : List Injection
  nones_of = replicate r.nones (point op w None)

  abbrev bytes_of : List Injection
  bytes_of = bytes_at op w r.unit r.inner

  abbrev wholes_of : List Injection
  wholes_of = replicate r.wholes (point op w Whole)

  in_three : map (point op w) (grouped r) ≡ nones_of ++ (bytes_of ++ wholes_of)
  unfolding grouped
  in_three =
      map-append (point op w) (replicate r.nones None) _
      ∙ rw (map-append (point op w) (map Bytes (steps r.unit r.inner)) (replicate r.wholes Whole), map-replicate (point op w) r.nones None, map-replicate (point op w) r.wholes Whole)

  -- what each of the three calls asks, and what they leave together
  module _ (at : ℕ) (c : PointColumns) (room : Room (at + length (grouped r)) c) where
    room-in-three : Room (at + length (nones_of ++ (bytes_of ++ wholes_of))) c
    room-in-three = rw (← in_three, length-map) room

    pub nones-room : Room (at + r.nones) c
    nones-room = same-room at r.nones (point op w None) c (first-room at nones_of (bytes_of ++ wholes_of) c room-in-three)

    module _ (n : ℕ) (d : PointColumns) (e : rows n d ≡ laid_from at nones_of c) where
      rest-room : Room (n + length (bytes_of ++ wholes_of)) d
      rest-room = next-room at nones_of (bytes_of ++ wholes_of) c room-in-three n d e

      pub bytes-room : Room (n + r.inner) d
      bytes-room = simp (length-map, length-steps) at (first-room n bytes_of wholes_of d rest-room)

      module _ (m : ℕ) (f : PointColumns) (q : rows m f ≡ laid_from n bytes_of d) where
        pub wholes-room : Room (m + r.wholes) f
        wholes-room = same-room m r.wholes (point op w Whole) f (next-room n bytes_of wholes_of d rest-room m f q)

        pub group-rows : (k : ℕ) (l : PointColumns) → rows k l ≡ laid_from m wholes_of f → rows k l ≡ laid_from at (map (point op w) (grouped r)) c
        group-rows k l s =
            then-rows at n k nones_of (bytes_of ++ wholes_of) c d l e (then-rows n m k bytes_of wholes_of d f l q s)
            ∙ ap (λ (xs : List Injection). laid_from at xs c) (sym in_three)

-- ---- from the first row on

begins : (new l : List ℕ) (n : ℕ) → length new ≡ n → n ≤ length l → sets l 0 new ≡ begun new l
begins new l n e h = sets-eq new l 0 (rw zero-add (rw e h)) ∙ rw zero-add

pub begun-rows : (ps : List Injection) (c : PointColumns) → Room (length ps) c → laid 0 ps c ≡ written ps c
unfolding laid
begun-rows ps c r =
    same-columns _ _ _ _ _ _ _ _
    (begins (map (λ p. p.op) ps) c.ops (length ps) (length-map ps _) r.in-ops)
    (begins (map (λ p. progress_code p.progress) ps) c.progresses (length ps) (length-map ps _) r.in-progresses)
    (begins (map (λ p. count_code p.progress) ps) c.counts (length ps) (length-map ps _) r.in-counts)
    (begins (map (λ p. interruption_code p.interruption) ps) c.interruptions (length ps) (length-map ps _) r.in-interruptions)
