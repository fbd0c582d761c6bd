-- What the answers of `read_fields` and `hex_pairs` tell of a line: a number, a letter or pairs that were read up to a tab are a field before
-- others, those that were read up to an LF are the last field; and where none was read, that field is none.
-- Assumes nothing.
use mathlib.Core.Path.{◌≡◌, refl, ap, sym, ◌∙◌}
use mathlib.Core.Bool.{Bool, true, false, cond}
use mathlib.Core.List.{List, [], ◌∷◌, ◌++◌}
use Prim.Native.Nat.{ℕ, suc, ◌+◌, ◌-◌, ◌/◌, ◌%◌, ◌≤◌, ◌<◌}
use native.Mathlib.Omega.{arith}
use lib.ListN.{length, take, drop, length-append, length-drop}
use lib.Seq.{drop-drop, take_at}
use lib.Dec.{eqb}
use borrow.Author.Tests.{eqb-true}
use Rattle.std.specs.Prelude.{Option, Some, None}
use Rattle.std.proofs.lemmas.Option.{some_pair_parts}
use Rattle.text.specs.Fields.{Field, field, missing, field_to}
use Rattle.text.specs.Numbers.{Decimal, number, none, number_of}
use Rattle.text.specs.Pairs.{all_hex, is_pairs, pair_values}
use Rattle.read_fields.specs.Answers.{letter_at, number_then, number_at}
use Rattle.hex_pairs.specs.Answers.{pairs_at}
use Rattle.text.proofs.Fields.{field-splits}
use Rattle.std.proofs.lemmas.Bool.{and_parts}
use Rattle.text.proofs.Plain.{number-plain, hex-plain}
use Rattle.hex_pairs.proofs.Bytes.{pair-count, pairs-append}
use Rattle.script.specs.Inner.{cells, cells_of, in_front}
use Rattle.script.proofs.Cells.{cells-last, cells-more, last-cell, more-cell}

-- ---- a field that was read, as it stands in the text

pub record Spanned (s : List ℕ) (at end : ℕ) (f : List ℕ) (next : ℕ) : Type 0 where
  pub is : field_to end (drop at s) ≡ field f
  pub next-is : next ≡ at + length f + 1
  pub inside : next ≤ length s

spanned : (s : List ℕ) (at end : ℕ) (f : List ℕ) (next : ℕ) → field_to end (drop at s) ≡ field f → next ≡ at + length f + 1 → Spanned s at end f next
spanned s at end f next e q =
    let a : length (drop at s) ≡ length f + suc (length (drop (length f + 1) (drop at s))) = ap length (field-splits end (drop at s) f e) ∙ length-append f (end ∷ drop (length f + 1) (drop at s)) in
    let b : length (drop at s) ≡ length s - at = length-drop at s in
    record { is = e; next-is = q; inside = omega arith }

-- what follows it
past : (s : List ℕ) (at end : ℕ) (f : List ℕ) (next : ℕ) → Spanned s at end f next → drop (length f + 1) (drop at s) ≡ drop next s
past s at end f next w = let q = w.next-is in drop-drop (length f + 1) at s ∙ ap (λ (n : ℕ). drop n s) (let e : at + (length f + 1) ≡ next = omega arith in e)

-- ---- numbers

then-value : (d : Decimal) (n v next : ℕ) → number_then d n ≡ Some (v, next) → (d ≡ number v) × (n ≡ next)
then-value (number w) n v next e = let p = some_pair_parts w v n next e in (ap number p.0, p.1)
then-value none n v next e = absurd (let z : ◌≡◌ {A = ℕ} 0 1 = cc in omega arith)

then-none : (d : Decimal) (n : ℕ) → number_then d n ≡ None → d ≡ none
then-none (number w) n e = absurd (let z : ◌≡◌ {A = ℕ} 0 1 = cc in omega arith)
then-none none n e = refl

record Numbered (s : List ℕ) (at end v next : ℕ) : Type 0 where
  f : List ℕ
  number_is : number_of f ≡ number v
  span : Spanned s at end f next

numbered-by : (F : Field) (s : List ℕ) (at end v next : ℕ) → field_to end (drop at s) ≡ F → number_at at F ≡ Some (v, next) → Numbered s at end v next
numbered-by missing s at end v next q e = absurd (let z : ◌≡◌ {A = ℕ} 0 1 = cc in omega arith)
numbered-by (field f) s at end v next q e =
    let t = then-value (number_of f) (at + length f + 1) v next e in
    record { f = f; number_is = t.0; span = spanned s at end f next q (sym t.1) }

module _ (s : List ℕ) (at : ℕ) where
  -- a number with a tab after it
  pub record Inner (v next : ℕ) : Type 0 where
    pub f : List ℕ
    pub number_is : number_of f ≡ number v
    pub is : cells_of (drop at s) ≡ in_front f (cells_of (drop next s))
    pub forward : at < next
    pub inside : next ≤ length s

  pub inner-value : (v next : ℕ) → Some (v, next) ≡ number_at at (field_to 9 (drop at s)) → Inner v next
  inner-value v next e =
      let n = numbered-by (field_to 9 (drop at s)) s at 9 v next refl (sym e) in
      let l = n.span.next-is in
      record {
        f = n.f;
        number_is = n.number_is;
        is = cells-more (drop at s) n.f n.span.is (number-plain n.f v n.number_is) ∙ ap (λ (x : List ℕ). in_front n.f (cells_of x)) (past s at 9 n.f next n.span);
        forward = omega arith;
        inside = n.span.inside;
      }

  pub inner-none : None ≡ number_at at (field_to 9 (drop at s))
      → (f g : List ℕ) (gs : List (List ℕ)) (rest : List ℕ) → cells_of (drop at s) ≡ cells f (g ∷ gs) rest → number_of f ≡ none
  inner-none e f g gs rest c =
      let k : number_at at (field f) ≡ None = ap (number_at at) (sym (more-cell (drop at s) f g gs rest c)) ∙ sym e in
      then-none (number_of f) (at + length f + 1) k

  -- a number with an LF after it
  pub record Last (v next : ℕ) : Type 0 where
    pub f : List ℕ
    pub number_is : number_of f ≡ number v
    pub is : cells_of (drop at s) ≡ cells f [] (drop next s)
    pub forward : at < next
    pub inside : next ≤ length s

  pub last-value : (v next : ℕ) → Some (v, next) ≡ number_at at (field_to 10 (drop at s)) → Last v next
  last-value v next e =
      let n = numbered-by (field_to 10 (drop at s)) s at 10 v next refl (sym e) in
      let l = n.span.next-is in
      record {
        f = n.f;
        number_is = n.number_is;
        is = cells-last (drop at s) n.f n.span.is (number-plain n.f v n.number_is) ∙ ap (λ (x : List ℕ). cells n.f [] x) (past s at 10 n.f next n.span);
        forward = omega arith;
        inside = n.span.inside;
      }

  pub last_none : None ≡ number_at at (field_to 10 (drop at s))
      → (f rest : List ℕ) → cells_of (drop at s) ≡ cells f [] rest → number_of f ≡ none
  last_none e f rest c =
      let k : number_at at (field f) ≡ None = ap (number_at at) (sym (last-cell (drop at s) f rest c)) ∙ sym e in
      then-none (number_of f) (at + length f + 1) k

-- ---- letters

letter-by : (F : Field) (at x next : ℕ) → letter_at at F ≡ Some (x, next) → (F ≡ field (x ∷ [])) × (next ≡ at + 2)
letter-by missing at x next e = absurd (let z : ◌≡◌ {A = ℕ} 0 1 = cc in omega arith)
letter-by (field []) at x next e = absurd (let z : ◌≡◌ {A = ℕ} 0 1 = cc in omega arith)
letter-by (field (y ∷ [])) at x next e = let p = some_pair_parts y x (at + 2) next e in (ap (λ (z : ℕ). field (z ∷ [])) p.0, sym p.1)
letter-by (field (y ∷ z ∷ f)) at x next e = absurd (let o : ◌≡◌ {A = ℕ} 0 1 = cc in omega arith)

no-letter-by : (f : List ℕ) (at : ℕ) → letter_at at (field f) ≡ None → (x : ℕ) → f ≡ x ∷ [] → ⊥
no-letter-by [] at e x q = let z : ◌≡◌ {A = ℕ} 0 1 = cc in omega arith
no-letter-by (y ∷ []) at e x q = let z : ◌≡◌ {A = ℕ} 0 1 = cc in omega arith
no-letter-by (y ∷ z ∷ f) at e x q = let o : ◌≡◌ {A = ℕ} 0 1 = cc in omega arith

module _ (s : List ℕ) (at : ℕ) where
  module _ (x next : ℕ) (e : Some (x, next) ≡ letter_at at (field_to 9 (drop at s))) where
    inner-letter-is : (field_to 9 (drop at s) ≡ field (x ∷ [])) × (next ≡ at + 2)
    inner-letter-is = letter-by (field_to 9 (drop at s)) at x next (sym e)

    inner-span : Spanned s at 9 (x ∷ []) next
    inner-span = let n : next ≡ at + 2 = inner-letter-is.1 in spanned s at 9 (x ∷ []) next inner-letter-is.0 (omega arith)

    pub inner-letter : 10 < x → cells_of (drop at s) ≡ in_front (x ∷ []) (cells_of (drop next s))
    inner-letter h = cells-more (drop at s) (x ∷ []) inner-letter-is.0 (h, tt) ∙ ap (λ (l : List ℕ). in_front (x ∷ []) (cells_of l)) (past s at 9 (x ∷ []) next inner-span)

    pub inner-inside : next ≤ length s
    inner-inside = inner-span.inside

    -- whatever the letter is, it is the field where others follow
    pub inner-same : (f g : List ℕ) (gs : List (List ℕ)) (rest : List ℕ) → cells_of (drop at s) ≡ cells f (g ∷ gs) rest → f ≡ x ∷ []
    inner-same f g gs rest c = let k : field f ≡ field (x ∷ []) = sym (more-cell (drop at s) f g gs rest c) ∙ inner-letter-is.0 in cc

  pub inner-no-letter : None ≡ letter_at at (field_to 9 (drop at s)) → (f g : List ℕ) (gs : List (List ℕ)) (rest : List ℕ) → cells_of (drop at s) ≡ cells f (g ∷ gs) rest → (x : ℕ) → f ≡ x ∷ [] → ⊥
  inner-no-letter e f g gs rest c = no-letter-by f at (ap (letter_at at) (sym (more-cell (drop at s) f g gs rest c)) ∙ sym e)

  module _ (x next : ℕ) (e : Some (x, next) ≡ letter_at at (field_to 10 (drop at s))) where
    last-letter-is : (field_to 10 (drop at s) ≡ field (x ∷ [])) × (next ≡ at + 2)
    last-letter-is = letter-by (field_to 10 (drop at s)) at x next (sym e)

    last-span : Spanned s at 10 (x ∷ []) next
    last-span = let n : next ≡ at + 2 = last-letter-is.1 in spanned s at 10 (x ∷ []) next last-letter-is.0 (omega arith)

    pub last_letter : 10 < x → cells_of (drop at s) ≡ cells (x ∷ []) [] (drop next s)
    last_letter h = cells-last (drop at s) (x ∷ []) last-letter-is.0 (h, tt) ∙ ap (λ (l : List ℕ). cells (x ∷ []) [] l) (past s at 10 (x ∷ []) next last-span)

    pub last-inside : next ≤ length s
    last-inside = last-span.inside

    pub last-same : (f rest : List ℕ) → cells_of (drop at s) ≡ cells f [] rest → f ≡ x ∷ []
    last-same f rest c = let k : field f ≡ field (x ∷ []) = sym (last-cell (drop at s) f rest c) ∙ last-letter-is.0 in cc

  pub last-no-letter : None ≡ letter_at at (field_to 10 (drop at s)) → (f rest : List ℕ) → cells_of (drop at s) ≡ cells f [] rest → (x : ℕ) → f ≡ x ∷ [] → ⊥
  last-no-letter e f rest c = no-letter-by f at (ap (letter_at at) (sym (last-cell (drop at s) f rest c)) ∙ sym e)

-- ---- pairs

paired_by : (t : Bool) (m k n next : ℕ) → cond {A = Option (ℕ × ℕ)} t (Some (m, k)) None ≡ Some (n, next) → (t ≡ true) × ((m ≡ n) × (k ≡ next))
paired_by true m k n next e = (refl, some_pair_parts m n k next e)
paired_by false m k n next e = absurd (let z : ◌≡◌ {A = ℕ} 0 1 = cc in omega arith)

unpaired-by : (t : Bool) (m k : ℕ) → cond {A = Option (ℕ × ℕ)} t (Some (m, k)) None ≡ None → t ≡ false
unpaired-by true m k e = absurd (let z : ◌≡◌ {A = ℕ} 0 1 = cc in omega arith)
unpaired-by false m k e = refl

-- pairs with an LF after them: how many, and what they stand for
pub record PairsLast (s : List ℕ) (at n next : ℕ) : Type 0 where
  pub f : List ℕ
  pub pairs-are : is_pairs f ≡ true
  pub is : cells_of (drop at s) ≡ cells f [] (drop next s)
  pub count : n ≡ length (pair_values f)
  pub bytes : pair_values f ≡ take n (pair_values (drop at s))
  pub forward : at < next
  pub inside : next ≤ length s

pairs-parts : (f : List ℕ) → is_pairs f ≡ true → (all_hex f ≡ true) × (length f % 2 ≡ 0)
unfolding is_pairs
pairs-parts f e = let t = and_parts (all_hex f) (eqb (length f % 2) 0) e in (t.0, eqb-true _ _ t.1)

pairs-by : (F : Field) (s : List ℕ) (at n next : ℕ) → field_to 10 (drop at s) ≡ F → pairs_at at F ≡ Some (n, next) → PairsLast s at n next
pairs-by missing s at n next q e = absurd (let z : ◌≡◌ {A = ℕ} 0 1 = cc in omega arith)
pairs-by (field f) s at n next q e =
    let t = paired_by (is_pairs f) (length f / 2) (at + length f + 1) n next e in
    let p = pairs-parts f t.0 in
    let w = spanned s at 10 f next q (sym t.1.1) in
    let l = w.next-is in
    let c : n ≡ length (pair_values f) = sym (pair-count f ∙ t.1.0) in
    let b : pair_values (drop at s) ≡ pair_values f ++ pair_values (10 ∷ drop (length f + 1) (drop at s)) = ap pair_values (field-splits 10 (drop at s) f q) ∙ pairs-append f _ p.1 in
    record {
      f = f;
      pairs-are = t.0;
      is = cells-last (drop at s) f q (hex-plain f p.0) ∙ ap (λ (x : List ℕ). cells f [] x) (past s at 10 f next w);
      count = c;
      bytes = sym (ap (take n) b ∙ take_at (pair_values f) _ n (sym c));
      forward = omega arith;
      inside = w.inside;
    }

module _ (s : List ℕ) (at : ℕ) where
  pub pairs-value : (n next : ℕ) → Some (n, next) ≡ pairs_at at (field_to 10 (drop at s)) → PairsLast s at n next
  pairs-value n next e = pairs-by (field_to 10 (drop at s)) s at n next refl (sym e)

  pub pairs-none : None ≡ pairs_at at (field_to 10 (drop at s)) → (f rest : List ℕ) → cells_of (drop at s) ≡ cells f [] rest → is_pairs f ≡ false
  pairs-none e f rest c = unpaired-by (is_pairs f) (length f / 2) (at + length f + 1) (ap (pairs_at at) (sym (last-cell (drop at s) f rest c)) ∙ sym e)
