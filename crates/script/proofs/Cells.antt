-- The first line of a text as fields: what it is of the lines, and how a field that is read from its place splits it.
--     cells-split, cells-broken        a line that an LF ends, and one that none ends, among the lines
--     cells-last, cells-more           a field that is read up to an LF, or a tab, is the line's last, or one before others
--     last-cell, more-cell             and the other way round
-- Assumes nothing.
use mathlib.Core.Path.{◌≡◌, refl, ap, ◌∙◌}
use mathlib.Core.Bool.{Bool, true, false, cond}
use mathlib.Core.List.{List, [], ◌∷◌, ◌++◌}
use Prim.Native.Nat.{ℕ, ◌+◌, ◌≤◌, ◌<◌}
use native.Mathlib.Omega.{arith}
use lib.ListN.{length, drop}
use lib.Dec.{eqb}
use borrow.Author.Tests.{ne_eqb}
use Rattle.text.specs.Lines.{ended, unended, onto_line, lines_of, fields_of}
use Rattle.text.specs.Fields.{Field, field, onto, field_to}
use Rattle.text.proofs.Fields.{field-splits}
use Rattle.text.proofs.Plain.{Plain}
use Rattle.script.specs.Inner.{Cells, cells, broken, onto_cell, push_cell, cells_of, in_front}

-- ---- the line among the lines

pub record Split (xs f : List ℕ) (fs : List (List ℕ)) (rest : List ℕ) : Type 0 where
  pub line : List ℕ
  pub is : lines_of xs ≡ ended line ∷ lines_of rest
  pub fields : fields_of line ≡ f ∷ fs

split-here : (x : ℕ) (xs f : List ℕ) (fs : List (List ℕ)) (rest : List ℕ) → eqb x 10 ≡ true → cells [] [] xs ≡ cells f fs rest → Split (x ∷ xs) f fs rest
unfolding lines_of fields_of
split-here x xs f fs rest t e =
    let a : [] ≡ f = cc in
    let b : [] ≡ fs = cc in
    let c : xs ≡ rest = cc in
    record { line = []; is = rw t (ap (λ (l : List ℕ). ended [] ∷ lines_of l) c); fields = rw (← a, ← b) }

split-tab : (x : ℕ) (xs f : List ℕ) (fs : List (List ℕ)) (rest : List ℕ) (C : Cells) → eqb x 10 ≡ false → eqb x 9 ≡ true → push_cell C ≡ cells f fs rest
    → ((g : List ℕ) (gs : List (List ℕ)) (r : List ℕ) → C ≡ cells g gs r → Split xs g gs r) → Split (x ∷ xs) f fs rest
unfolding lines_of fields_of
split-tab x xs f fs rest broken t u e k = absurd (let z : ◌≡◌ {A = ℕ} 0 1 = cc in omega arith)
split-tab x xs f fs rest (cells g gs r) t u e k =
    let a : [] ≡ f = cc in
    let b : g ∷ gs ≡ fs = cc in
    let c : r ≡ rest = cc in
    let s = k g gs r refl in
    record { line = x ∷ s.line; is = rw (t, s.is) (ap (λ (l : List ℕ). ended (x ∷ s.line) ∷ lines_of l) c); fields = rw (u, s.fields, a, b) }

split-byte : (x : ℕ) (xs f : List ℕ) (fs : List (List ℕ)) (rest : List ℕ) (C : Cells) → eqb x 10 ≡ false → eqb x 9 ≡ false → onto_cell x C ≡ cells f fs rest
    → ((g : List ℕ) (gs : List (List ℕ)) (r : List ℕ) → C ≡ cells g gs r → Split xs g gs r) → Split (x ∷ xs) f fs rest
unfolding lines_of fields_of
split-byte x xs f fs rest broken t u e k = absurd (let z : ◌≡◌ {A = ℕ} 0 1 = cc in omega arith)
split-byte x xs f fs rest (cells g gs r) t u e k =
    let a : x ∷ g ≡ f = cc in
    let b : gs ≡ fs = cc in
    let c : r ≡ rest = cc in
    let s = k g gs r refl in
    record { line = x ∷ s.line; is = rw (t, s.is) (ap (λ (l : List ℕ). ended (x ∷ s.line) ∷ lines_of l) c); fields = rw (u, s.fields, a, b) }

split_step : (t u : Bool) (x : ℕ) (xs f : List ℕ) (fs : List (List ℕ)) (rest : List ℕ) (C : Cells) → eqb x 10 ≡ t → eqb x 9 ≡ u
    → cond t (cells [] [] xs) (cond u (push_cell C) (onto_cell x C)) ≡ cells f fs rest
    → ((g : List ℕ) (gs : List (List ℕ)) (r : List ℕ) → C ≡ cells g gs r → Split xs g gs r) → Split (x ∷ xs) f fs rest
split_step true u x xs f fs rest C p q e k = split-here x xs f fs rest p e
split_step false true x xs f fs rest C p q e k = split-tab x xs f fs rest C p q e k
split_step false false x xs f fs rest C p q e k = split-byte x xs f fs rest C p q e k

pub cells-split : (xs f : List ℕ) (fs : List (List ℕ)) (rest : List ℕ) → cells_of xs ≡ cells f fs rest → Split xs f fs rest
unfolding cells_of
cells-split [] f fs rest e = absurd (let z : ◌≡◌ {A = ℕ} 0 1 = cc in omega arith)
cells-split (x ∷ xs) f fs rest e = split_step (eqb x 10) (eqb x 9) x xs f fs rest (cells_of xs) refl refl e (λ g gs r q. cells-split xs g gs r q)

-- what is put in front of broken cells leaves them so, and nothing else does
push-broken : (C : Cells) → push_cell C ≡ broken → C ≡ broken
push-broken broken e = refl
push-broken (cells f fs r) e = absurd (let z : ◌≡◌ {A = ℕ} 0 1 = cc in omega arith)

onto-broken : (x : ℕ) (C : Cells) → onto_cell x C ≡ broken → C ≡ broken
onto-broken x broken e = refl
onto-broken x (cells f fs r) e = absurd (let z : ◌≡◌ {A = ℕ} 0 1 = cc in omega arith)

broken-step : (t u : Bool) (x : ℕ) (xs : List ℕ) (C : Cells) → cond t (cells [] [] xs) (cond u (push_cell C) (onto_cell x C)) ≡ broken → (t ≡ false) × (C ≡ broken)
broken-step true u x xs C e = absurd (let z : ◌≡◌ {A = ℕ} 0 1 = cc in omega arith)
broken-step false true x xs C e = (refl, push-broken C e)
broken-step false false x xs C e = (refl, onto-broken x C e)

pub cells-broken : (x : ℕ) (xs : List ℕ) → cells_of (x ∷ xs) ≡ broken → lines_of (x ∷ xs) ≡ unended (x ∷ xs) ∷ []
unfolding cells_of lines_of
cells-broken x [] e = let b = broken-step (eqb x 10) (eqb x 9) x [] broken e in rw b.0
cells-broken x (y ∷ ys) e =
    let b = broken-step (eqb x 10) (eqb x 9) x (y ∷ ys) (cells_of (y ∷ ys)) e in
    rw b.0 (ap (onto_line x) (cells-broken y ys b.1))

-- ---- fields that are read from their place

-- what is no tab and no LF
pub above-ne : (x n : ℕ) → n ≤ 10 → 10 < x → x ≡ n → ⊥
above-ne x n h k e = omega arith

plain-last : (f rest : List ℕ) → Plain f → cells_of (f ++ (10 ∷ rest)) ≡ cells f [] rest
unfolding cells_of
plain-last [] rest p = refl
plain-last (x ∷ f) rest p = simp (ne_eqb x 10 (above-ne x 10 (omega arith) p.0), ne_eqb x 9 (above-ne x 9 (omega arith) p.0), plain-last f rest p.1)

front-onto : (x : ℕ) (f : List ℕ) (C : Cells) → onto_cell x (in_front f C) ≡ in_front (x ∷ f) C
front-onto x f broken = refl
front-onto x f (cells g gs r) = refl

front-none : (C : Cells) → push_cell C ≡ in_front [] C
front-none broken = refl
front-none (cells g gs r) = refl

plain_more : (f rest : List ℕ) → Plain f → cells_of (f ++ (9 ∷ rest)) ≡ in_front f (cells_of rest)
unfolding cells_of
plain_more [] rest p = front-none (cells_of rest)
plain_more (x ∷ f) rest p =
    simp (ne_eqb x 10 (above-ne x 10 (omega arith) p.0), ne_eqb x 9 (above-ne x 9 (omega arith) p.0), plain_more f rest p.1) (front-onto x f (cells_of rest))

pub cells-last : (xs f : List ℕ) → field_to 10 xs ≡ field f → Plain f → cells_of xs ≡ cells f [] (drop (length f + 1) xs)
cells-last xs f e p = ap cells_of (field-splits 10 xs f e) ∙ plain-last f (drop (length f + 1) xs) p

pub cells-more : (xs f : List ℕ) → field_to 9 xs ≡ field f → Plain f → cells_of xs ≡ in_front f (cells_of (drop (length f + 1) xs))
cells-more xs f e p = ap cells_of (field-splits 9 xs f e) ∙ plain_more f (drop (length f + 1) xs) p

last-tab : (C : Cells) (f rest : List ℕ) → push_cell C ≡ cells f [] rest → ⊥
last-tab broken f rest e = let z : ◌≡◌ {A = ℕ} 0 1 = cc in omega arith
last-tab (cells g gs r) f rest e = let z : ◌≡◌ {A = ℕ} 0 1 = cc in omega arith

last_byte : (x : ℕ) (C : Cells) (f rest : List ℕ) (F : Field) → onto_cell x C ≡ cells f [] rest → ((g : List ℕ) → C ≡ cells g [] rest → F ≡ field g) → onto x F ≡ field f
last_byte x broken f rest F e k = absurd (let z : ◌≡◌ {A = ℕ} 0 1 = cc in omega arith)
last_byte x (cells g gs r) f rest F e k =
    let a : x ∷ g ≡ f = cc in
    let b : cells g gs r ≡ cells g [] rest = cc in
    rw (k g b) (ap field a)

last_step : (t u : Bool) (x : ℕ) (xs f rest : List ℕ) (C : Cells) (F : Field) → cond t (cells [] [] xs) (cond u (push_cell C) (onto_cell x C)) ≡ cells f [] rest
    → ((g : List ℕ) → C ≡ cells g [] rest → F ≡ field g) → cond t (field []) (onto x F) ≡ field f
last_step true u x xs f rest C F e k = cc
last_step false true x xs f rest C F e k = absurd (last-tab C f rest e)
last_step false false x xs f rest C F e k = last_byte x C f rest F e k

pub last-cell : (xs f rest : List ℕ) → cells_of xs ≡ cells f [] rest → field_to 10 xs ≡ field f
unfolding cells_of field_to
last-cell [] f rest e = absurd (let z : ◌≡◌ {A = ℕ} 0 1 = cc in omega arith)
last-cell (x ∷ xs) f rest e = last_step (eqb x 10) (eqb x 9) x xs f rest (cells_of xs) (field_to 10 xs) e (λ g q. last-cell xs g rest q)

more-tab : (C : Cells) (f g : List ℕ) (gs : List (List ℕ)) (rest : List ℕ) → push_cell C ≡ cells f (g ∷ gs) rest → [] ≡ f
more-tab broken f g gs rest e = absurd (let z : ◌≡◌ {A = ℕ} 0 1 = cc in omega arith)
more-tab (cells h hs r) f g gs rest e = cc

more_byte : (x : ℕ) (C : Cells) (f g : List ℕ) (gs : List (List ℕ)) (rest : List ℕ) (F : Field) → onto_cell x C ≡ cells f (g ∷ gs) rest
    → ((h : List ℕ) → C ≡ cells h (g ∷ gs) rest → F ≡ field h) → onto x F ≡ field f
more_byte x broken f g gs rest F e k = absurd (let z : ◌≡◌ {A = ℕ} 0 1 = cc in omega arith)
more_byte x (cells h hs r) f g gs rest F e k =
    let a : x ∷ h ≡ f = cc in
    let b : cells h hs r ≡ cells h (g ∷ gs) rest = cc in
    rw (k h b) (ap field a)

more-step : (t u : Bool) (x : ℕ) (xs f g : List ℕ) (gs : List (List ℕ)) (rest : List ℕ) (C : Cells) (F : Field)
    → cond t (cells [] [] xs) (cond u (push_cell C) (onto_cell x C)) ≡ cells f (g ∷ gs) rest
    → ((h : List ℕ) → C ≡ cells h (g ∷ gs) rest → F ≡ field h) → cond u (field []) (onto x F) ≡ field f
more-step true u x xs f g gs rest C F e k = absurd (let z : ◌≡◌ {A = ℕ} 0 1 = cc in omega arith)
more-step false true x xs f g gs rest C F e k = ap field (more-tab C f g gs rest e)
more-step false false x xs f g gs rest C F e k = more_byte x C f g gs rest F e k

pub more-cell : (xs f g : List ℕ) (gs : List (List ℕ)) (rest : List ℕ) → cells_of xs ≡ cells f (g ∷ gs) rest → field_to 9 xs ≡ field f
unfolding cells_of field_to
more-cell [] f g gs rest e = absurd (let z : ◌≡◌ {A = ℕ} 0 1 = cc in omega arith)
more-cell (x ∷ xs) f g gs rest e = more-step (eqb x 10) (eqb x 9) x xs f g gs rest (cells_of xs) (field_to 9 xs) e (λ h q. more-cell xs h g gs rest q)
