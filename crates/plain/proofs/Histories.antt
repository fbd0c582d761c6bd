-- Of any ledger in which only the last committed record can be torn: which beginnings of the committed ids hold every acknowledged
-- id and no torn one.
--     reaches, holds-all         every acknowledged id, exactly if it is as long as the last acknowledged one's place
--     stays-short, holds-none    no torn one, exactly if it is no longer than the number not torn
--     acknowledged-untorn        there is such a length
-- Assumes nothing.
use mathlib.Core.Path.{◌≡◌, refl, sym}
use mathlib.Core.Logic.{⊎_elim}
use mathlib.Core.Bool.{Bool, true, false, ◌||◌, cond, or-true}
use mathlib.Core.List.Memᴰ
use mathlib.Core.List.{List, [], ◌∷◌, Memᴰ}
use Prim.Native.Nat.{ℕ, zero, suc, ◌≤◌, zero-le}
use native.Mathlib.Nat.{not-suc-le-zero, le_of_suc-le-suc}
use native.Mathlib.Omega.{arith}
use lib.ListN.{length, take}
use Rattle.model.specs.Ledger.{Entry, is_acknowledged, is_torn, ids, picked}
use Rattle.id_columns.specs.Ids.{Distinct}
use Rattle.id_columns.proofs.Members.{not-both}
use Rattle.model.proofs.Lookups.{in-picked, picked-head, picked-tail, picked-in}
use Rattle.oracle_legal.specs.Legal.{Holds, Without}
use Rattle.plain.specs.Claims.{TornLast, any_acknowledged, last_acknowledged, untorn}

-- ---- entries that pass a test

-- of those that pass a weaker test
pub picked-twice : (p q : Entry → Bool) → ((e : Entry) → p e ≡ true → q e ≡ true) → (l : List Entry) → picked p (picked q l) ≡ picked p l
unfolding picked
picked-twice p q weaker [] = refl
picked-twice p q weaker (e ∷ es) = go (q e) (p e) refl refl (picked-twice p q weaker es)
  where
    go : (b a : Bool) → q e ≡ b → p e ≡ a → picked p (picked q es) ≡ picked p es
        → picked p (cond b (e ∷ picked q es) (picked q es)) ≡ cond a (e ∷ picked p es) (picked p es)
    go true true eb ea ih = rw (ea, ih)
    go true false eb ea ih = rw (ea, ih)
    go false true eb ea ih = absurd (not-both (weaker e ea) eb)
    go false false eb ea ih = ih

pub picked-distinct : (p : Entry → Bool) (l : List Entry) → Distinct (ids l) → Distinct (ids (picked p l))
unfolding ids picked
picked-distinct p [] d = tt
picked-distinct p (e ∷ es) d = go (p e) (picked-distinct p es d.1)
  where
    go : (b : Bool) → Distinct (ids (picked p es)) → Distinct (ids (cond b (e ∷ picked p es) (picked p es)))
    go true ih = ((λ m. d.0 (picked-in p e.id es m)), ih)
    go false ih = ih

-- an id that passes further on is not the first one's
other-id : (p : Entry → Bool) (x : ℕ) (e : Entry) (es : List Entry) → Distinct (ids (e ∷ es)) → Memᴰ x (ids (picked p es)) → x ≡ e.id → ⊥
unfolding ids
other-id p x e es d m q = d.0 (Memᴰ.cast (sym q) (picked-in p x es m))

-- ---- every acknowledged id

some-acknowledged : (x : ℕ) (es : List Entry) → Memᴰ x (ids (picked is_acknowledged es)) → any_acknowledged es ≡ true
unfolding any_acknowledged ids picked
some-acknowledged x [] m = absurd (Memᴰ.not-nil m)
some-acknowledged x (e ∷ es) m =
    ⊎_elim (λ w. rw w.1) (λ (k : Memᴰ x (ids (picked is_acknowledged es))). rw (some-acknowledged x es k) (or-true (is_acknowledged e)))
    (in-picked is_acknowledged x e es m)

none-acknowledged : (es : List Entry) → Holds [] (ids (picked is_acknowledged es)) → any_acknowledged es ≡ false
unfolding any_acknowledged
none-acknowledged [] h = refl
none-acknowledged (e ∷ es) h = go (is_acknowledged e) refl (none-acknowledged es (λ x m. h x (picked-tail is_acknowledged x e es m)))
  where
    go : (b : Bool) → is_acknowledged e ≡ b → any_acknowledged es ≡ false → (b || any_acknowledged es) ≡ false
    go true t ih = absurd (Memᴰ.not-nil (h e.id (picked-head is_acknowledged e.id e es refl t)))
    go false t ih = ih

-- the last acknowledged one's place, where there is one
later-place : (e : Entry) (es : List Entry) → any_acknowledged (e ∷ es) ≡ true → last_acknowledged (e ∷ es) ≡ suc (last_acknowledged es)
unfolding last_acknowledged
later-place e es h = rw h

pub reaches : (n : ℕ) (es : List Entry) → Distinct (ids es) → Holds (take n (ids es)) (ids (picked is_acknowledged es)) → last_acknowledged es ≤ n
unfolding last_acknowledged ids
reaches n [] d h = zero-le
reaches zero (e ∷ es) d h = rw (none-acknowledged (e ∷ es) h) zero-le
reaches (suc n) (e ∷ es) d h = go (any_acknowledged (e ∷ es)) (reaches n es d.1 rest)
  where
    rest : Holds (take n (ids es)) (ids (picked is_acknowledged es))
    rest x m =
        ⊎_elim (λ (q : x ≡ e.id). absurd (other-id is_acknowledged x e es d m q)) (λ (k : Memᴰ x (take n (ids es))). k)
        (Memᴰ.cases_cons (h x (picked-tail is_acknowledged x e es m)))

    go : (b : Bool) → last_acknowledged es ≤ n → cond b (suc (last_acknowledged es)) 0 ≤ suc n
    go true ih = omega arith
    go false ih = zero-le

pub holds-all : (n : ℕ) (es : List Entry) → last_acknowledged es ≤ n → Holds (take n (ids es)) (ids (picked is_acknowledged es))
unfolding ids picked
holds-all n [] h x m = absurd (Memᴰ.not-nil m)
holds-all zero (e ∷ es) h x m = absurd (not-suc-le-zero (rw (later-place e es (some-acknowledged x (e ∷ es) m)) at h))
holds-all (suc n) (e ∷ es) h x m =
    let k : suc (last_acknowledged es) ≤ suc n = rw (later-place e es (some-acknowledged x (e ∷ es) m)) at h in
    ⊎_elim (λ w. Memᴰ.head w.0)
    (λ (i : Memᴰ x (ids (picked is_acknowledged es))). Memᴰ.tail (holds-all n es (le_of_suc-le-suc k) x i))
    (in-picked is_acknowledged x e es m)

-- ---- no torn one

-- a torn one is the last, so none before it counts
untorn-head : (e : Entry) (es : List Entry) → TornLast (e ∷ es) → is_torn e ≡ true → untorn (e ∷ es) ≡ 0
unfolding picked
untorn-head e es o t = rw (o.0 t, t)

untorn-more : (e : Entry) (es : List Entry) → is_torn e ≡ false → untorn (e ∷ es) ≡ suc (untorn es)
unfolding picked
untorn-more e es t = rw t

pub stays-short : (n : ℕ) (es : List Entry) → TornLast es → n ≤ length (ids es) → Without (take n (ids es)) (ids (picked is_torn es)) → n ≤ untorn es
unfolding ids
stays-short zero es o l h = zero-le
stays-short (suc n) [] o l h = absurd (not-suc-le-zero l)
stays-short (suc n) (e ∷ es) o l h = go (is_torn e) refl (stays-short n es o.1 (le_of_suc-le-suc l) (λ x m k. h x (Memᴰ.tail m) (picked-tail is_torn x e es k)))
  where
    go : (b : Bool) → is_torn e ≡ b → n ≤ untorn es → suc n ≤ untorn (e ∷ es)
    go true t ih = absurd (h e.id (Memᴰ.head refl) (picked-head is_torn e.id e es refl t))
    go false t ih = rw (untorn-more e es t) (omega arith)

pub holds-none : (n : ℕ) (es : List Entry) → Distinct (ids es) → TornLast es → n ≤ untorn es → Without (take n (ids es)) (ids (picked is_torn es))
unfolding ids
holds-none zero es d o l x m k = Memᴰ.not-nil m
holds-none (suc n) [] d o l x m k = Memᴰ.not-nil m
holds-none (suc n) (e ∷ es) d o l x m k = go (is_torn e) refl (λ q. holds-none n es d.1 o.1 q x)
  where
    go : (b : Bool) → is_torn e ≡ b → (n ≤ untorn es → Memᴰ x (take n (ids es)) → Memᴰ x (ids (picked is_torn es)) → ⊥) → ⊥
    go true t ih = not-suc-le-zero (rw (untorn-head e es o t) at l)
    go false t ih =
        let z : suc n ≤ suc (untorn es) = rw (untorn-more e es t) at l in
        ⊎_elim (λ w. not-both w.1 t)
        (λ (i : Memᴰ x (ids (picked is_torn es))). ⊎_elim (other-id is_torn x e es d i) (λ (r : Memᴰ x (take n (ids es))). ih (le_of_suc-le-suc z) r i) (Memᴰ.cases_cons m))
        (in-picked is_torn x e es k)

-- ---- there is such a length

-- no entry is both
abbrev pub TornOrAcknowledged : List Entry → Type 0
TornOrAcknowledged [] = Unit {0}
TornOrAcknowledged (e ∷ es) = (is_torn e ≡ true → is_acknowledged e ≡ false) × TornOrAcknowledged es

pub picked-either : (p : Entry → Bool) (l : List Entry) → TornOrAcknowledged l → TornOrAcknowledged (picked p l)
unfolding picked
picked-either p [] h = tt
picked-either p (e ∷ es) h = go (p e) (picked-either p es h.1)
  where
    go : (b : Bool) → TornOrAcknowledged (picked p es) → TornOrAcknowledged (cond b (e ∷ picked p es) (picked p es))
    go true ih = (h.0, ih)
    go false ih = ih

pub acknowledged-untorn : (es : List Entry) → TornLast es → TornOrAcknowledged es → last_acknowledged es ≤ untorn es
unfolding last_acknowledged any_acknowledged
acknowledged-untorn [] o s = zero-le
acknowledged-untorn (e ∷ es) o s = go (is_torn e) refl (acknowledged-untorn es o.1 s.1)
  where
    up : (b : Bool) → last_acknowledged es ≤ untorn es → cond b (suc (last_acknowledged es)) 0 ≤ suc (untorn es)
    up true ih = omega arith
    up false ih = zero-le

    go : (b : Bool) → is_torn e ≡ b → last_acknowledged es ≤ untorn es → cond (is_acknowledged e || any_acknowledged es) (suc (last_acknowledged es)) 0 ≤ untorn (e ∷ es)
    go true t ih = rw (s.0 t, o.0 t) zero-le
    go false t ih = rw (untorn-more e es t) (up (is_acknowledged e || any_acknowledged es) ih)
