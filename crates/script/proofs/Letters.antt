-- A line after the first, by its letter: what each way out of the line readers says of the line.
-- Assumes nothing.
use mathlib.Core.Path.{◌≡◌, refl, ap, ◌∙◌}
use mathlib.Core.Bool.{Bool, true, false, cond, not, ◌&&◌}
use mathlib.Core.List.{List, [], ◌∷◌}
use Prim.Native.Nat.{ℕ, ◌+◌, ◌*◌, ◌%◌, ◌≤◌, ◌<◌}
use native.Mathlib.Nat.{mul-pos}
use native.Mathlib.Omega.{arith}
use lib.ListN.{length, get_or, drop, drop_of_length-le}
use lib.Dec.{eqb}
use borrow.Author.Tests.{ne_eqb, eqb-true, eqb-false, le-leb, lt-leb}
use Rattle.basics.proofs.Scans.{at-step}
use Rattle.std.specs.Prelude.{Some, None}
use Rattle.text.specs.Fields.{field_to}
use Rattle.text.specs.Numbers.{Decimal, number, none, number_of}
use Rattle.text.specs.Pairs.{is_pairs, pair_values}
use Rattle.read_fields.specs.Answers.{number_at}
use Rattle.hex_pairs.specs.Answers.{pairs_at}
use Rattle.script.specs.Calls.{begin, end, mark, program, erase, barrier, malformed, begin_with, mark_with, erase_with, program_with, is_bytes, call_of}
use Rattle.script.specs.Inner.{Cells, cells, broken, onto_cell, push_cell, cells_of, in_front, meaning_in, Opened, row_of, Taken}
use Rattle.script.proofs.Told.{inner-value, inner-none, last-value, last_none, pairs-value, pairs-none}

-- ---- the letter and the byte after it

pub opened : (s : List ℕ) (from k e : ℕ) → from + 1 < length s → get_or s from 0 ≡ k → get_or s (from + 1) 0 ≡ e → Opened s from k e
opened s from k e h p q =
    let a : from < length s = omega arith in
    let two : from + 1 + 1 ≡ from + 2 = omega arith in
    record {
      is =
          at-step (λ (l : List ℕ). l) s from 0 a
          ∙ ap (λ (l : List ℕ). get_or s from 0 ∷ l) (at-step (λ (l : List ℕ). l) s (from + 1) 0 h)
          ∙ rw (p, q, two);
      inside = omega arith;
    }

pub neither : (t u : Bool) → (not t && not u) ≡ true → (t ≡ false) × (u ≡ false)
neither true u e = absurd (let z : ◌≡◌ {A = ℕ} 0 1 = cc in omega arith)
neither false true e = absurd (let z : ◌≡◌ {A = ℕ} 0 1 = cc in omega arith)
neither false false e = (refl, refl)

-- ---- one field: `N` and `S`

-- the product is 0 for these two letters alone
product-by : (k : ℕ) → k < 256 → (t u : Bool) → eqb k 78 ≡ t → eqb k 83 ≡ u → not (eqb ((k + 178) % 256 * ((k + 173) % 256)) 0) ≡ (not t && not u)
product-by k h true u p q = rw (eqb-true k 78 p)
product-by k h false true p q = rw (eqb-true k 83 q)
product-by k h false false p q =
    let n = eqb-false k 78 p in
    let m = eqb-false k 83 q in
    let a : 0 < (k + 178) % 256 = omega arith in
    let b : 0 < (k + 173) % 256 = omega arith in
    let ab : 0 < (k + 178) % 256 * ((k + 173) % 256) = mul-pos a b in
    rw (ne_eqb ((k + 178) % 256 * ((k + 173) % 256)) 0 (λ e. omega arith))

pub product-tells : (k : ℕ) → k < 256 → not (eqb ((k + 178) % 256 * ((k + 173) % 256)) 0) ≡ (not (eqb k 78) && not (eqb k 83))
product-tells k h = product-by k h (eqb k 78) (eqb k 83) refl refl

alone-by : (t u : Bool) (k : ℕ) (xs : List ℕ) → (k ≡ 78 → ⊥) → (k ≡ 83 → ⊥) → meaning_in (cond t (cells [] [] (10 ∷ xs)) (cond u (push_cell (cells [] [] xs)) (onto_cell k (cells [] [] xs)))) ≡ malformed
unfolding call_of
alone-by true u k xs n m = refl
alone-by false true k xs n m = refl
alone-by false false k xs n m = simp (ne_eqb k 78 n, ne_eqb k 83 m) (by (eqb k 66) (eqb k 77) (eqb k 80) (eqb k 69))
  where
    by : (a b c d : Bool) → cond a malformed (cond b malformed (cond c malformed (cond d malformed malformed))) ≡ malformed
    by true b c d = refl
    by false true c d = refl
    by false false true d = refl
    by false false false true = refl
    by false false false false = refl

module _ (s : List ℕ) (from k : ℕ) (w : Opened s from k 10) where
  alone-cells : cells_of (drop from s) ≡ cells_of (k ∷ 10 ∷ drop (from + 2) s)
  alone-cells = ap cells_of w.is

  pub alone-end : k ≡ 78 → Taken s from (row_of 4 0 0 0 (from + 2) 0) (from + 2)
  unfolding cells_of call_of
  alone-end e = record { it = end; field = 78 ∷ []; others = []; is = alone-cells ∙ rw e; means = refl; kind-is = refl; first-is = refl; second_is = refl; third-is = refl; size_is = refl; bytes = refl; small = omega arith; forward = omega arith; inside = w.inside }

  alone-barrier : k ≡ 83 → Taken s from (row_of 2 0 0 0 (from + 2) 0) (from + 2)
  unfolding cells_of call_of
  alone-barrier e = record { it = barrier; field = 83 ∷ []; others = []; is = alone-cells ∙ rw e; means = refl; kind-is = refl; first-is = refl; second_is = refl; third-is = refl; size_is = refl; bytes = refl; small = omega arith; forward = omega arith; inside = w.inside }

  barrier-by : (t u : Bool) → eqb k 78 ≡ t → eqb k 83 ≡ u → (not t && not u) ≡ false → (k ≡ 78 → ⊥) → k ≡ 83
  barrier-by true u p q e n = absurd (n (eqb-true k 78 p))
  barrier-by false true p q e n = eqb-true k 83 q
  barrier-by false false p q e n = absurd (let z : ◌≡◌ {A = ℕ} 0 1 = cc in omega arith)

  pub alone-other : (not (eqb k 78) && not (eqb k 83)) ≡ false → (k ≡ 78 → ⊥) → Taken s from (row_of 2 0 0 0 (from + 2) 0) (from + 2)
  alone-other e n = alone-barrier (barrier-by (eqb k 78) (eqb k 83) refl refl e n)

  pub alone-faulty : (not (eqb k 78) && not (eqb k 83)) ≡ true → meaning_in (cells_of (drop from s)) ≡ malformed
  unfolding cells_of
  alone-faulty e =
      let t = neither (eqb k 78) (eqb k 83) e in
      ap meaning_in alone-cells ∙ alone-by (eqb k 10) (eqb k 9) k (drop (from + 2) s) (eqb-false k 78 t.0) (eqb-false k 83 t.1)

-- ---- a letter and a tab, which others follow

module _ (s : List ℕ) (from k : ℕ) (h : 10 < k) (w : Opened s from k 9) where
  front_by : (C : Cells) → onto_cell k (push_cell C) ≡ in_front (k ∷ []) C
  front_by broken = refl
  front_by (cells f fs r) = refl

  pub fronted : cells_of (drop from s) ≡ in_front (k ∷ []) (cells_of (drop (from + 2) s))
  unfolding cells_of
  fronted =
      let n : k ≡ 10 → ⊥ = λ e. omega arith in
      let m : k ≡ 9 → ⊥ = λ e. omega arith in
      ap cells_of w.is ∙ simp (ne_eqb k 10 n, ne_eqb k 9 m) (front_by (cells_of (drop (from + 2) s)))

-- what a letter whose line does not read means, whatever the other fields are
abbrev Missed : ℕ → Cells → Type 0
Missed k C = meaning_in (in_front (k ∷ []) C) ≡ malformed

-- ---- `B`

begin-missed : (C : Cells) → ((f rest : List ℕ) → C ≡ cells f [] rest → number_of f ≡ none) → Missed 66 C
unfolding call_of
begin-missed broken n = refl
begin-missed (cells f [] rest) n = rw (n f rest refl)
begin-missed (cells f (g ∷ gs) rest) n = refl

module _ (s : List ℕ) (from : ℕ) (w : Opened s from 66 9) where
  pub begin-taken : (id next : ℕ) → Some (id, next) ≡ number_at (from + 2) (field_to 10 (drop (from + 2) s)) → Taken s from (row_of 3 id 0 0 next 0) next
  unfolding call_of
  begin-taken id next e =
      let l = last-value s (from + 2) id next e in
      let a = l.forward in
      record { it = begin id; field = 66 ∷ []; others = l.f ∷ []; is = fronted s from 66 (omega arith) w ∙ ap (in_front (66 ∷ [])) l.is; means = ap begin_with l.number_is; kind-is = refl; first-is = refl; second_is = refl; third-is = refl; size_is = refl; bytes = refl; small = omega arith; forward = omega arith; inside = l.inside }

  pub begin-faulty : None ≡ number_at (from + 2) (field_to 10 (drop (from + 2) s)) → meaning_in (cells_of (drop from s)) ≡ malformed
  begin-faulty e = ap meaning_in (fronted s from 66 (omega arith) w) ∙ begin-missed (cells_of (drop (from + 2) s)) (last_none s (from + 2) e)

-- ---- `E`

erase-none : (d : Decimal) → erase_with d none ≡ malformed
erase-none (number n) = refl
erase-none none = refl

erase-missed : (C : Cells) → ((f g : List ℕ) (gs : List (List ℕ)) (rest : List ℕ) → C ≡ cells f (g ∷ gs) rest → number_of f ≡ none) → Missed 69 C
unfolding call_of
erase-missed broken n = refl
erase-missed (cells f [] rest) n = refl
erase-missed (cells f (g ∷ []) rest) n = rw (n f g [] rest refl)
erase-missed (cells f (g ∷ h ∷ hs) rest) n = refl

erase-missed-2 : (f : List ℕ) (C : Cells) → ((g rest : List ℕ) → C ≡ cells g [] rest → number_of g ≡ none) → Missed 69 (in_front f C)
unfolding call_of
erase-missed-2 f broken n = refl
erase-missed-2 f (cells g [] rest) n = rw (n g rest refl) (erase-none (number_of f))
erase-missed-2 f (cells g (h ∷ hs) rest) n = refl

module _ (s : List ℕ) (from : ℕ) (w : Opened s from 69 9) where
  pub erase-faulty : None ≡ number_at (from + 2) (field_to 9 (drop (from + 2) s)) → meaning_in (cells_of (drop from s)) ≡ malformed
  erase-faulty e = ap meaning_in (fronted s from 69 (omega arith) w) ∙ erase-missed (cells_of (drop (from + 2) s)) (inner-none s (from + 2) e)

  module _ (offset at : ℕ) (e : Some (offset, at) ≡ number_at (from + 2) (field_to 9 (drop (from + 2) s))) where
    pub erase-faulty-2 : None ≡ number_at at (field_to 10 (drop at s)) → meaning_in (cells_of (drop from s)) ≡ malformed
    erase-faulty-2 p =
        let i = inner-value s (from + 2) offset at e in
        ap meaning_in (fronted s from 69 (omega arith) w ∙ ap (in_front (69 ∷ [])) i.is) ∙ erase-missed-2 i.f (cells_of (drop at s)) (last_none s at p)

    pub erase-taken : (len next : ℕ) → Some (len, next) ≡ number_at at (field_to 10 (drop at s)) → Taken s from (row_of 1 offset len 0 next 0) next
    unfolding call_of
    erase-taken len next p =
        let i = inner-value s (from + 2) offset at e in
        let l = last-value s at len next p in
        let a = i.forward in
        let b = l.forward in
        record { it = erase offset len; field = 69 ∷ []; others = i.f ∷ l.f ∷ []; is = fronted s from 69 (omega arith) w ∙ ap (in_front (69 ∷ [])) (i.is ∙ ap (in_front i.f) l.is); means = rw (i.number_is, l.number_is); kind-is = refl; first-is = refl; second_is = refl; third-is = refl; size_is = refl; bytes = refl; small = omega arith; forward = omega arith; inside = l.inside }

-- ---- `M`

mark-none : (d e : Decimal) → mark_with d e none ≡ malformed
mark-none (number n) (number m) = refl
mark-none (number n) none = refl
mark-none none e = refl

mark-none-2 : (d e : Decimal) → mark_with d none e ≡ malformed
mark-none-2 (number n) e = refl
mark-none-2 none e = refl

mark-missed : (C : Cells) → ((f g : List ℕ) (gs : List (List ℕ)) (rest : List ℕ) → C ≡ cells f (g ∷ gs) rest → number_of f ≡ none) → Missed 77 C
unfolding call_of
mark-missed broken n = refl
mark-missed (cells f [] rest) n = refl
mark-missed (cells f (g ∷ []) rest) n = refl
mark-missed (cells f (g ∷ h ∷ []) rest) n = rw (n f g (h ∷ []) rest refl)
mark-missed (cells f (g ∷ h ∷ i ∷ is) rest) n = refl

mark-missed-2 : (f : List ℕ) (C : Cells) → ((g h : List ℕ) (hs : List (List ℕ)) (rest : List ℕ) → C ≡ cells g (h ∷ hs) rest → number_of g ≡ none) → Missed 77 (in_front f C)
unfolding call_of
mark-missed-2 f broken n = refl
mark-missed-2 f (cells g [] rest) n = refl
mark-missed-2 f (cells g (h ∷ []) rest) n = rw (n g h [] rest refl) (mark-none-2 (number_of f) (number_of h))
mark-missed-2 f (cells g (h ∷ i ∷ is) rest) n = refl

mark-missed-3 : (f g : List ℕ) (C : Cells) → ((h rest : List ℕ) → C ≡ cells h [] rest → number_of h ≡ none) → Missed 77 (in_front f (in_front g C))
unfolding call_of
mark-missed-3 f g broken n = refl
mark-missed-3 f g (cells h [] rest) n = rw (n h rest refl) (mark-none (number_of f) (number_of g))
mark-missed-3 f g (cells h (i ∷ is) rest) n = refl

module _ (s : List ℕ) (from : ℕ) (w : Opened s from 77 9) where
  pub mark-faulty : None ≡ number_at (from + 2) (field_to 9 (drop (from + 2) s)) → meaning_in (cells_of (drop from s)) ≡ malformed
  mark-faulty e = ap meaning_in (fronted s from 77 (omega arith) w) ∙ mark-missed (cells_of (drop (from + 2) s)) (inner-none s (from + 2) e)

  module _ (id at : ℕ) (e : Some (id, at) ≡ number_at (from + 2) (field_to 9 (drop (from + 2) s))) where
    pub mark-faulty-2 : None ≡ number_at at (field_to 9 (drop at s)) → meaning_in (cells_of (drop from s)) ≡ malformed
    mark-faulty-2 p =
        let i = inner-value s (from + 2) id at e in
        ap meaning_in (fronted s from 77 (omega arith) w ∙ ap (in_front (77 ∷ [])) i.is) ∙ mark-missed-2 i.f (cells_of (drop at s)) (inner-none s at p)

    module _ (low past : ℕ) (p : Some (low, past) ≡ number_at at (field_to 9 (drop at s))) where
      pub mark-faulty-3 : None ≡ number_at past (field_to 10 (drop past s)) → meaning_in (cells_of (drop from s)) ≡ malformed
      mark-faulty-3 o =
          let i = inner-value s (from + 2) id at e in
          let j = inner-value s at low past p in
          ap meaning_in (fronted s from 77 (omega arith) w ∙ ap (in_front (77 ∷ [])) (i.is ∙ ap (in_front i.f) j.is)) ∙ mark-missed-3 i.f j.f (cells_of (drop past s)) (last_none s past o)

      pub mark-taken : (high next : ℕ) → Some (high, next) ≡ number_at past (field_to 10 (drop past s)) → Taken s from (row_of 5 id low high next 0) next
      unfolding call_of
      mark-taken high next o =
          let i = inner-value s (from + 2) id at e in
          let j = inner-value s at low past p in
          let l = last-value s past high next o in
          let a = i.forward in
          let b = j.forward in
          let z = l.forward in
          record { it = mark id low high; field = 77 ∷ []; others = i.f ∷ j.f ∷ l.f ∷ []; is = fronted s from 77 (omega arith) w ∙ ap (in_front (77 ∷ [])) (i.is ∙ ap (in_front i.f) (j.is ∙ ap (in_front j.f) l.is)); means = rw (i.number_is, j.number_is, l.number_is); kind-is = refl; first-is = refl; second_is = refl; third-is = refl; size_is = refl; bytes = refl; small = omega arith; forward = omega arith; inside = l.inside }

-- ---- `P`

program-bad : (d : Decimal) (bs : List ℕ) → program_with d false bs ≡ malformed
program-bad (number n) bs = refl
program-bad none bs = refl

program-missed : (C : Cells) → ((f g : List ℕ) (gs : List (List ℕ)) (rest : List ℕ) → C ≡ cells f (g ∷ gs) rest → number_of f ≡ none) → Missed 80 C
unfolding call_of
program-missed broken n = refl
program-missed (cells f [] rest) n = refl
program-missed (cells f (g ∷ []) rest) n = rw (n f g [] rest refl)
program-missed (cells f (g ∷ h ∷ hs) rest) n = refl

program-missed-2 : (f : List ℕ) (C : Cells) → ((g rest : List ℕ) → C ≡ cells g [] rest → is_bytes g ≡ false) → Missed 80 (in_front f C)
unfolding call_of
program-missed-2 f broken n = refl
program-missed-2 f (cells g [] rest) n = rw (n g rest refl) (program-bad (number_of f) (pair_values g))
program-missed-2 f (cells g (h ∷ hs) rest) n = refl

no_pairs : (f : List ℕ) → is_pairs f ≡ false → is_bytes f ≡ false
unfolding is_bytes
no_pairs f e = rw e

too_many : (f : List ℕ) → is_pairs f ≡ true → 4096 < length (pair_values f) → is_bytes f ≡ false
unfolding is_bytes
too_many f e h = rw (e, lt-leb _ _ h)

enough : (f : List ℕ) → is_pairs f ≡ true → length (pair_values f) ≤ 4096 → is_bytes f ≡ true
unfolding is_bytes
enough f e h = rw (e, le-leb _ _ h)

module _ (s : List ℕ) (from : ℕ) (w : Opened s from 80 9) where
  pub program-faulty : None ≡ number_at (from + 2) (field_to 9 (drop (from + 2) s)) → meaning_in (cells_of (drop from s)) ≡ malformed
  program-faulty e = ap meaning_in (fronted s from 80 (omega arith) w) ∙ program-missed (cells_of (drop (from + 2) s)) (inner-none s (from + 2) e)

  module _ (offset start : ℕ) (e : Some (offset, start) ≡ number_at (from + 2) (field_to 9 (drop (from + 2) s))) where
    pub program-faulty-2 : None ≡ pairs_at start (field_to 10 (drop start s)) → meaning_in (cells_of (drop from s)) ≡ malformed
    program-faulty-2 p =
        let i = inner-value s (from + 2) offset start e in
        ap meaning_in (fronted s from 80 (omega arith) w ∙ ap (in_front (80 ∷ [])) i.is) ∙ program-missed-2 i.f (cells_of (drop start s)) (λ g rest c. no_pairs g (pairs-none s start p g rest c))

    module _ (count next : ℕ) (p : Some (count, next) ≡ pairs_at start (field_to 10 (drop start s))) where
      pub program-faulty-3 : 4096 < count → meaning_in (cells_of (drop from s)) ≡ malformed
      program-faulty-3 h =
          let i = inner-value s (from + 2) offset start e in
          let l = pairs-value s start count next p in
          let n : 4096 < length (pair_values l.f) = rw (← l.count) h in
          ap meaning_in (fronted s from 80 (omega arith) w ∙ ap (in_front (80 ∷ [])) (i.is ∙ ap (in_front i.f) l.is)) ∙ program-long i.f l.f (drop next s) (too_many l.f l.pairs-are n)
        where
          program-long : (f g rest : List ℕ) → is_bytes g ≡ false → Missed 80 (in_front f (cells g [] rest))
          program-long f g rest b = program-missed-2 f (cells g [] rest) (λ h' rest' c. let a : h' ≡ g = cc in rw a b)

      pub program-taken : count ≤ 4096 → Taken s from (row_of 0 offset count 0 start count) next
      unfolding call_of
      program-taken h =
          let i = inner-value s (from + 2) offset start e in
          let l = pairs-value s start count next p in
          let n : length (pair_values l.f) ≤ 4096 = rw (← l.count) h in
          let a = i.forward in
          let b = l.forward in
          record { it = program offset (pair_values l.f); field = 80 ∷ []; others = i.f ∷ l.f ∷ []; is = fronted s from 80 (omega arith) w ∙ ap (in_front (80 ∷ [])) (i.is ∙ ap (in_front i.f) l.is); means = rw (i.number_is, enough l.f l.pairs-are n); kind-is = refl; first-is = refl; second_is = l.count; third-is = refl; size_is = l.count; bytes = l.bytes; small = h; forward = omega arith; inside = l.inside }

-- ---- a line whose letter is none of these, or whose first field is no letter

none-front : (k : ℕ) (C : Cells) → (k ≡ 66 → ⊥) → (k ≡ 77 → ⊥) → (k ≡ 80 → ⊥) → (k ≡ 69 → ⊥) → meaning_in (onto_cell k (push_cell C)) ≡ malformed
unfolding call_of
none-front k broken a b c d = refl
none-front k (cells f fs rest) a b c d = simp (ne_eqb k 66 a, ne_eqb k 77 b, ne_eqb k 80 c, ne_eqb k 69 d) (by (eqb k 78) (eqb k 83))
  where
    by : (t u : Bool) → cond t malformed (cond u malformed malformed) ≡ malformed
    by true u = refl
    by false true = refl
    by false false = refl

none-by : (t u : Bool) (k : ℕ) (xs : List ℕ) (C : Cells) → (k ≡ 66 → ⊥) → (k ≡ 77 → ⊥) → (k ≡ 80 → ⊥) → (k ≡ 69 → ⊥)
    → meaning_in (cond t (cells [] [] xs) (cond u (push_cell (push_cell C)) (onto_cell k (push_cell C)))) ≡ malformed
unfolding call_of
none-by true u k xs C a b c d = refl
none-by false true k xs broken a b c d = refl
none-by false true k xs (cells f fs rest) a b c d = refl
none-by false false k xs C a b c d = none-front k C a b c d

line-none : (s : List ℕ) (from k : ℕ) → Opened s from k 9 → (k ≡ 66 → ⊥) → (k ≡ 77 → ⊥) → (k ≡ 80 → ⊥) → (k ≡ 69 → ⊥) → meaning_in (cells_of (drop from s)) ≡ malformed
unfolding cells_of
line-none s from k w a b c d = ap (λ (l : List ℕ). meaning_in (cells_of l)) w.is ∙ none-by (eqb k 10) (eqb k 9) k (9 ∷ drop (from + 2) s) (cells_of (drop (from + 2) s)) a b c d

long-by : (t u : Bool) (k x : ℕ) (xs : List ℕ) (C : Cells) → meaning_in (cond t (cells [] [] xs) (cond u (push_cell (onto_cell x C)) (onto_cell k (onto_cell x C)))) ≡ malformed
unfolding call_of
long-by true u k x xs C = refl
long-by false true k x xs broken = refl
long-by false true k x xs (cells f fs rest) = refl
long-by false false k x xs broken = refl
long-by false false k x xs (cells f fs rest) = refl

line-long : (s : List ℕ) (from k x : ℕ) → Opened s from k x → (x ≡ 10 → ⊥) → (x ≡ 9 → ⊥) → meaning_in (cells_of (drop from s)) ≡ malformed
unfolding cells_of
line-long s from k x w a b =
    ap (λ (l : List ℕ). meaning_in (cells_of l)) w.is
    ∙ simp (ne_eqb x 10 a, ne_eqb x 9 b) (long-by (eqb k 10) (eqb k 9) k x (x ∷ drop (from + 2) s) (cells_of (drop (from + 2) s)))

-- the same, as the reader knows it
module _ (s : List ℕ) (from : ℕ) (h : from + 1 < length s) where
  pub line-long-at : (get_or s (from + 1) 0 ≡ 10 → ⊥) → (get_or s (from + 1) 0 ≡ 9 → ⊥) → meaning_in (cells_of (drop from s)) ≡ malformed
  line-long-at a b = line-long s from (get_or s from 0) (get_or s (from + 1) 0) (opened s from _ _ h refl refl) a b

  pub line-none-at : get_or s (from + 1) 0 ≡ 9 → (get_or s from 0 ≡ 66 → ⊥) → (get_or s from 0 ≡ 77 → ⊥) → (get_or s from 0 ≡ 80 → ⊥) → (get_or s from 0 ≡ 69 → ⊥)
      → meaning_in (cells_of (drop from s)) ≡ malformed
  line-none-at e a b c d = line-none s from (get_or s from 0) (opened s from _ _ h refl e) a b c d

cut-by : (t u : Bool) (k : ℕ) → meaning_in (cond t (cells [] [] []) (cond u (push_cell broken) (onto_cell k broken))) ≡ malformed
unfolding call_of
cut-by true u k = refl
cut-by false true k = refl
cut-by false false k = refl

pub line-cut : (s : List ℕ) (from : ℕ) → from < length s → length s ≤ from + 1 → meaning_in (cells_of (drop from s)) ≡ malformed
unfolding cells_of
line-cut s from h k =
    ap (λ (l : List ℕ). meaning_in (cells_of l)) (at-step (λ (l : List ℕ). l) s from 0 h ∙ ap (λ (l : List ℕ). get_or s from 0 ∷ l) (drop_of_length-le s {i = from + 1} k))
    ∙ cut-by (eqb (get_or s from 0) 10) (eqb (get_or s from 0) 9) (get_or s from 0)

-- all of them, for `search (rules, letters)`
pub ruleset letters = (opened, alone-end, alone-other, alone-faulty, begin-taken, begin-faulty, erase-faulty, erase-faulty-2, erase-taken, mark-faulty, mark-faulty-2, mark-faulty-3, mark-taken, program-faulty, program-faulty-2, program-faulty-3, program-taken, line-long-at, line-none-at, line-cut)
