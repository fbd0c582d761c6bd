-- Marks below an end, in columns that grow.
--     clipped                  a place as far as an end can tell it: any at or above the end counts as the end
--     below-clipped            the marks below an end are told by clipped places
--     map-set, map-take        a store and a beginning of a mapped column
--     Same, same-stored        marks of two runs that differ at or above the end alone; the same mark stored in both keeps it
--     seen, seen_same          the marks below an end of the first that count; alike in such two
--     shown_all, seen_stored    marks stored add those of them that are below the end
-- Assumes nothing.
use mathlib.Core.Path.{◌≡◌, refl, sym, ap, ap₂, ◌∙◌}
use mathlib.Core.Bool.{Bool, true, false, cond}
use mathlib.Core.List.{List, [], ◌∷◌, ◌++◌, map, append-nil, append_assoc}
use Prim.Native.Nat.{ℕ, zero, suc, ◌+◌, ◌≤◌}
use native.Mathlib.Nat.{suc-ne-zero, suc_inj, add-zero}
use native.Mathlib.Omega.{arith}
use lib.ListN.{length, take, set, length-set}
use lib.Seq.{length-take-le}
use lib.Dec.{ltb}
use borrow.Author.Tests.{le-ltb}
use Rattle.basics.proofs.Columns.{column-stored}
use Rattle.session.specs.Log.{Marks, Mark, mark_of, marked}
use Rattle.session.specs.Marks.{marked_from}
use Rattle.records.specs.Records.{RecordMark}
use Rattle.ledger.specs.Ledger.{label_of, marks_from}
use Rattle.held.specs.Held.{below}

-- ---- columns

pub map-set : {A B : Type 0} (f : A → B) (l : List A) (k : ℕ) (a : A) → map f (set l k a) ≡ set (map f l) k (f a)
map-set f [] k a = refl
map-set f (x ∷ l) zero a = refl
map-set {B = B} f (x ∷ l) (suc k) a = ap (λ (r : List B). f x ∷ r) (map-set f l k a)

map-take : {A B : Type 0} (f : A → B) (n : ℕ) (l : List A) → map f (take n l) ≡ take n (map f l)
map-take f zero l = refl
map-take f (suc n) [] = refl
map-take {B = B} f (suc n) (x ∷ l) = ap (λ (r : List B). f x ∷ r) (map-take f n l)

-- a mark as the ledger reads it
abbrev pub read : Mark → RecordMark
read x = record { label = label_of x.code x.id; place = x.place }

-- ---- a place as far as an end can tell it

abbrev pub clipped : (end : ℕ) → ℕ → ℕ
clipped end p = cond (ltb p end) p end

pub clipped-far : (end p : ℕ) → end ≤ p → clipped end p ≡ end
clipped-far end p h = rw (le-ltb p end h)

below-clipped : (end : ℕ) (cs is ps : List ℕ) → below end (marks_from cs is (map (clipped end) ps)) ≡ below end (marks_from cs is ps)
unfolding below marks_from
below-clipped end [] is ps = refl
below-clipped end (c ∷ cs) [] ps = refl
below-clipped end (c ∷ cs) (i ∷ is) [] = refl
below-clipped end (c ∷ cs) (i ∷ is) (p ∷ ps) = go _ (below-clipped end cs is ps) (ltb p end) refl
  where
    go : (l : List RecordMark) → l ≡ below end (marks_from cs is ps) → (b : Bool) → ltb p end ≡ b
        → cond (ltb (cond b p end) end) (read (mark_of c i (cond b p end)) ∷ l) l ≡ cond b (read (mark_of c i p) ∷ below end (marks_from cs is ps)) (below end (marks_from cs is ps))
    go l h true e = rw (e, h)
    go l h false e = rw (le-ltb end end (omega arith), h)

-- ---- the marks of two runs

pub record Same (end : ℕ) (m n : Marks) : Type 0 where
  pub codes_same : m.codes ≡ n.codes
  pub ids-same : m.ids ≡ n.ids
  pub places_same : map (clipped end) m.places ≡ map (clipped end) n.places

pub same-stored : (end : ℕ) (m n : Marks) (k : ℕ) (x y : Mark) → Same end m n → x.code ≡ y.code → x.id ≡ y.id
    → clipped end x.place ≡ clipped end y.place → Same end (marked m k x) (marked n k y)
same-stored end m n k x y z c i p = record {
  codes_same = ap₂ (λ (l : List ℕ) (v : ℕ). set l k v) z.codes_same c;
  ids-same = ap₂ (λ (l : List ℕ) (v : ℕ). set l k v) z.ids-same i;
  places_same =
      map-set (clipped end) m.places k x.place ∙ ap₂ (λ (l : List ℕ) (v : ℕ). set l k v) z.places_same p
      ∙ sym (map-set (clipped end) n.places k y.place);
}

-- ---- the marks below an end

-- the first marks of three columns
abbrev counted : (count : ℕ) → Marks → List RecordMark
counted count m = marks_from (take count m.codes) (take count m.ids) (take count m.places)

abbrev pub seen : (end count : ℕ) → Marks → List RecordMark
seen end count m = below end (counted count m)

pub seen_same : (end count : ℕ) (m n : Marks) → Same end m n → seen end count m ≡ seen end count n
seen_same end count m n z =
    sym (below-clipped end (take count m.codes) (take count m.ids) (take count m.places))
    ∙ alike ∙ below-clipped end (take count n.codes) (take count n.ids) (take count n.places)
  where
    places : map (clipped end) (take count m.places) ≡ map (clipped end) (take count n.places)
    places = map-take (clipped end) count m.places ∙ ap (take count) z.places_same ∙ sym (map-take (clipped end) count n.places)

    alike : below end (marks_from (take count m.codes) (take count m.ids) (map (clipped end) (take count m.places)))
        ≡ below end (marks_from (take count n.codes) (take count n.ids) (map (clipped end) (take count n.places)))
    alike = λ i. below end (marks_from (take count (z.codes_same i)) (take count (z.ids-same i)) (places i))

below-append : (end : ℕ) (ms ns : List RecordMark) → below end (ms ++ ns) ≡ below end ms ++ below end ns
unfolding below
below-append end [] ns = refl
below-append end (m ∷ ms) ns = go _ (below-append end ms ns) (ltb m.place end)
  where
    go : (l : List RecordMark) → l ≡ below end ms ++ below end ns → (b : Bool)
        → cond b (m ∷ l) l ≡ cond b (m ∷ below end ms) (below end ms) ++ below end ns
    go l h true = ap {B = List RecordMark} (λ r. m ∷ r) h
    go l h false = h

-- those of a list of marks that are below the end
abbrev pub shown_all : (end : ℕ) → List Mark → List RecordMark
shown_all end xs = below end (map read xs)

marks-more : (cs is ps : List ℕ) (x : Mark) → length is ≡ length cs → length ps ≡ length cs
    → marks_from (cs ++ (x.code ∷ [])) (is ++ (x.id ∷ [])) (ps ++ (x.place ∷ [])) ≡ marks_from cs is ps ++ (read x ∷ [])
unfolding marks_from
marks-more [] [] [] x e h = refl
marks-more [] [] (p ∷ ps) x e h = absurd (suc-ne-zero (length ps) h)
marks-more [] (i ∷ is) ps x e h = absurd (suc-ne-zero (length is) e)
marks-more (c ∷ cs) [] ps x e h = absurd (suc-ne-zero (length cs) (sym e))
marks-more (c ∷ cs) (i ∷ is) [] x e h = absurd (suc-ne-zero (length cs) (sym h))
marks-more (c ∷ cs) (i ∷ is) (p ∷ ps) x e h =
    ap {B = List RecordMark} (λ r. read (mark_of c i p) ∷ r) (marks-more cs is ps x (suc_inj e) (suc_inj h))

-- columns that are long enough for so many
pub record Room (count : ℕ) (m : Marks) : Type 0 where
  pub codes-room : count ≤ length m.codes
  pub ids-room : count ≤ length m.ids
  pub places-room : count ≤ length m.places

counted-one : (k : ℕ) (m : Marks) (x : Mark) → Room (k + 1) m → counted (k + 1) (marked m k x) ≡ counted k m ++ (read x ∷ [])
counted-one k m x r =
    let a = r.codes-room in
    let b = r.ids-room in
    let c = r.places-room in
    let cl : length (take k m.codes) ≡ k = length-take-le k m.codes (omega arith) in
    let il : length (take k m.ids) ≡ k = length-take-le k m.ids (omega arith) in
    let pl : length (take k m.places) ≡ k = length-take-le k m.places (omega arith) in
    stored (column-stored m.codes k x.code (omega arith)) (column-stored m.ids k x.id (omega arith)) (column-stored m.places k x.place (omega arith))
    ∙ marks-more (take k m.codes) (take k m.ids) (take k m.places) x (il ∙ sym cl) (pl ∙ sym cl)
  where
    stored : {a a' b b' c c' : List ℕ} → a ≡ a' → b ≡ b' → c ≡ c' → marks_from a b c ≡ marks_from a' b' c'
    stored p q w = λ i. marks_from (p i) (q i) (w i)

room-stored : (n k : ℕ) (m : Marks) (x : Mark) → Room n m → Room n (marked m k x)
room-stored n k m x r = record {
  codes-room = rw (length-set m.codes k x.code) r.codes-room;
  ids-room = rw (length-set m.ids k x.id) r.ids-room;
  places-room = rw (length-set m.places k x.place) r.places-room;
}

room-less : (n k : ℕ) (m : Marks) → k ≤ n → Room n m → Room k m
room-less n k m h r =
    let a = r.codes-room in
    let b = r.ids-room in
    let c = r.places-room in
    record { codes-room = omega arith; ids-room = omega arith; places-room = omega arith }

counted-stored : (xs : List Mark) (k : ℕ) (m : Marks) → Room (k + length xs) m
    → counted (k + length xs) (marked_from m k xs) ≡ counted k m ++ map read xs
unfolding marked_from
counted-stored [] k m r = rw add-zero (sym (append-nil (counted k m)))
counted-stored (x ∷ xs) k m r =
    let n : k + suc (length xs) ≡ k + 1 + length xs = omega arith in
    let r' : Room (k + 1 + length xs) m = rw (← n) r in
    ap (λ (c : ℕ). counted c (marked_from (marked m k x) (k + 1) xs)) n
    ∙ counted-stored xs (k + 1) (marked m k x) (room-stored (k + 1 + length xs) k m x r')
    ∙ ap (λ (l : List RecordMark). l ++ map read xs) (counted-one k m x (room-less (k + 1 + length xs) (k + 1) m (omega arith) r'))
    ∙ append_assoc (counted k m) (read x ∷ []) (map read xs)

pub seen_stored : (end : ℕ) (xs : List Mark) (k : ℕ) (m : Marks) → Room (k + length xs) m
    → seen end (k + length xs) (marked_from m k xs) ≡ seen end k m ++ shown_all end xs
seen_stored end xs k m r = ap (below end) (counted-stored xs k m r) ∙ below-append end (counted k m) (map read xs)
