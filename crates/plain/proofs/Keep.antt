-- One record, in a run that was cut and in one that went on: what is acknowledged stays so. The operations of the first run from the
-- record's begin on are `front` and `x`, those of the second `front`, `b` and `rest`, where x is b as cut. Assumes nothing.
use mathlib.Core.Path.{◌≡◌, refl, sym, ap, ◌∙◌}
use mathlib.Core.Logic.{◌⊎◌, inl, inr, ⊎_elim}
use mathlib.Core.Bool.{Bool, true, false, not, ◌||◌, cond, false≢true, or-true}
use mathlib.Core.List.{List, [], ◌∷◌, ◌++◌}
use Prim.Native.Nat.{ℕ, zero, suc, ◌-◌}
use native.Mathlib.Nat.{zero-sub, suc-sub-suc, sub-zero}
use lib.ListN.{length, take, drop}
use lib.Seq.{take-nil, drop-nil}
use lib.Dec.{eqb}
use borrow.Author.Tests.{not-true}
use Rattle.device.specs.Media.{any_pair}
use Rattle.device.proofs.Pairs.{false_left, false_right}
use Rattle.model.specs.Ledger.{is_acknowledged}
use Rattle.records.specs.Records.{Kept, any, behind, judged, followed, entry_by}
use Rattle.plain.specs.Plain.{Op}
use Rattle.plain.specs.Ledger.{is_write, orders, changed, withheld, asked, in_order}
use Rattle.plain.proofs.Flags.{first-true, second-true, either_true, only-first, any_append}
use Rattle.plain.proofs.Tidy.{All, all_take, Whole, Bare}
use Rattle.plain.proofs.Only.{no-pair, none-withheld}

take-append : {A : Type 0} (n : ℕ) (xs ys : List A) → take n (xs ++ ys) ≡ take n xs ++ take (n - length xs) ys
take-append n [] ys = rw (take-nil, sub-zero)
take-append zero (x ∷ xs) ys = rw zero-sub
take-append {A} (suc n) (x ∷ xs) ys = rw suc-sub-suc (ap {B = List A} (λ (l : List A). x ∷ l) (take-append n xs ys))

-- ---- a barrier that answered 0 behind the last program or erase of the first r operations, or among all where these have none

abbrev settled : ℕ → List Op → Bool
settled r os = any orders (behind is_write (take r os) ++ drop r os)

behind-none : (os : List Op) → any is_write os ≡ false → behind is_write os ≡ os
unfolding behind
behind-none [] h = refl
behind-none (o ∷ os) h = rw h

orders-barrier : (o : Op) → orders o ≡ true → is_write o ≡ false
unfolding orders
orders-barrier o h = not-true (is_write o) (first-true (not (is_write o)) (eqb o.answer 0) h)

-- without the first operation: it may have been the barrier, and then nothing behind it writes
settled-without : (r : ℕ) (o : Op) (os : List Op) → settled (suc r) (o ∷ os) ≡ true
    → (settled r os ≡ true) ⊎ ((orders o ≡ true) × (any is_write (take r os) ≡ false))
unfolding behind any
settled-without r o os h = go (any is_write (o ∷ take r os)) refl h
  where
    go : (b : Bool) → any is_write (o ∷ take r os) ≡ b → any orders (cond b (behind is_write (take r os)) (o ∷ take r os) ++ drop r os) ≡ true
        → (settled r os ≡ true) ⊎ ((orders o ≡ true) × (any is_write (take r os) ≡ false))
    go true e h = inl h
    go false e h =
        let n : any is_write (take r os) ≡ false = false_right (is_write o) (any is_write (take r os)) e in
        ⊎_elim (λ (a : orders o ≡ true). inr (a, n)) (λ (a : any orders (take r os ++ drop r os) ≡ true). inl (rw (behind-none (take r os) n) a))
        (either_true (orders o) (any orders (take r os ++ drop r os)) h)

settled-with : (r : ℕ) (o : Op) (os : List Op) → settled r os ≡ true → settled (suc r) (o ∷ os) ≡ true
unfolding behind any
settled-with r o os h = go (any is_write (o ∷ take r os)) refl
  where
    go : (b : Bool) → any is_write (o ∷ take r os) ≡ b → any orders (cond b (behind is_write (take r os)) (o ∷ take r os) ++ drop r os) ≡ true
    go true e = h
    go false e =
        let n : any is_write (take r os) ≡ false = false_right (is_write o) (any is_write (take r os)) e in
        let k : any orders (take r os ++ drop r os) ≡ true = rw (behind-none (take r os) n) at h in
        rw k (or-true (orders o))

settled-first : (r : ℕ) (o : Op) (os : List Op) → orders o ≡ true → any is_write (take r os) ≡ false → settled (suc r) (o ∷ os) ≡ true
unfolding behind any
settled-first r o os a n = rw (orders-barrier o a, n, a)

settled-nil : (r : ℕ) → settled r [] ≡ false
unfolding behind any
settled-nil r = rw (take-nil, drop-nil)

-- in order, and the first is a barrier: nothing behind it writes
in-order-behind : (o : Op) (os : List Op) → in_order (o ∷ os) ≡ true → is_write o ≡ false → any is_write os ≡ false
unfolding in_order
in-order-behind o os h n = not-true (any is_write os) (rw n at (first-true (is_write o || not (any is_write os)) (in_order os) h))

module _ (x b : Op) (rest : List Op) (kinds : x.kind ≡ b.kind) (whole : Whole b) where
  -- a cut barrier that answered 0 answers 0 uncut
  orders-uncut : orders x ≡ true → orders b ≡ true
  unfolding orders
  orders-uncut a = rw (← kinds, orders-barrier x a, whole.answers-0)

  -- the record goes on to be settled, and writes nothing more
  still : (r : ℕ) (front : List Op) → in_order (take r (front ++ b ∷ rest)) ≡ true → settled r (front ++ x ∷ []) ≡ true
      → (settled r (front ++ b ∷ rest) ≡ true) × (any is_write (take (r - length front) (b ∷ rest)) ≡ false)
  unfolding any behind in_order
  still zero [] o h =
      ⊎_elim (λ (a : orders x ≡ true). (rw (orders-uncut a), refl)) (λ (a : false ≡ true). absurd (false≢true a)) (either_true (orders x) false h)
  still (suc r) [] o h =
      ⊎_elim (λ (f : settled r [] ≡ true). absurd (false≢true (sym (settled-nil r) ∙ f)))
      (λ (z : (orders x ≡ true) × (any is_write (take r []) ≡ false)).
      let a : orders b ≡ true = orders-uncut z.0 in
      let n : is_write b ≡ false = orders-barrier b a in
      let q : any is_write (take r rest) ≡ false = in-order-behind b (take r rest) o n in
      (settled-first r b rest a q, rw (sub-zero (suc r), n) q))
      (settled-without r x [] h)
  still zero (p ∷ front) o h =
      ⊎_elim (λ (a : orders p ≡ true). (rw a, rw zero-sub))
      (λ (a : any orders (front ++ x ∷ []) ≡ true). (rw (still zero front refl a).0 (or-true (orders p)), rw zero-sub))
      (either_true (orders p) (any orders (front ++ x ∷ [])) h)
  still (suc r) (p ∷ front) o h =
      let later : List Op = take r (front ++ b ∷ rest) in
      ⊎_elim
      (λ (f : settled r (front ++ x ∷ []) ≡ true).
      let ih = still r front (second-true (is_write p || not (any is_write later)) (in_order later) o) f in
      (settled-with r p (front ++ b ∷ rest) ih.0, rw suc-sub-suc ih.1))
      (λ (z : (orders p ≡ true) × (any is_write (take r (front ++ x ∷ [])) ≡ false)).
      let q : any is_write later ≡ false = in-order-behind p later o (orders-barrier p z.0) in (
        settled-first r p (front ++ b ∷ rest) z.0 q,
        rw suc-sub-suc (false_right (any is_write (take r front)) (any is_write (take (r - length front) (b ∷ rest))) (rw (take-append, any_append) at q)),
      ))
      (settled-without r p (front ++ x ∷ []) h)

-- ---- barriers change nothing and withhold nothing

bare-withholds : (media : List ℕ) (o : Op) → Bare o → is_write o ≡ false → withheld media o ≡ false
unfolding withheld
bare-withholds media o h n = rw (h.no-want n, drop-nil) (no-pair _ _)

bare-changes : (o : Op) → Bare o → is_write o ≡ false → changed o ≡ false
unfolding changed any_pair
bare-changes o h n = rw (h.no_old n, take-nil)

none-held : (media : List ℕ) (os : List Op) → All Bare os → any is_write os ≡ false → any (withheld media) os ≡ false
unfolding any
none-held media [] h n = refl
none-held media (o ∷ os) h n =
    rw (bare-withholds media o h.0 (false_left (is_write o) (any is_write os) n)) (none-held media os h.1 (false_right (is_write o) (any is_write os) n))

none-changed : (os : List Op) → All Bare os → any is_write os ≡ false → any changed os ≡ false
unfolding any
none-changed [] h n = refl
none-changed (o ∷ os) h n =
    rw (bare-changes o h.0 (false_left (is_write o) (any is_write os) n)) (none-changed os h.1 (false_right (is_write o) (any is_write os) n))

-- ---- acknowledged

is-acknowledged : (id : ℕ) (c w f : Bool) → is_acknowledged (judged id c w f) ≡ true → (c ≡ true) × (w ≡ false) × (f ≡ true)
unfolding judged
is-acknowledged id false w f e = absurd (false≢true e)
is-acknowledged id true true f e = absurd (false≢true e)
is-acknowledged id true false true e = (refl, refl, refl)
is-acknowledged id true false false e = absurd (false≢true e)

acknowledged-if : (id : ℕ) (c w f : Bool) → c ≡ true → w ≡ false → f ≡ true → is_acknowledged (judged id c w f) ≡ true
unfolding judged
acknowledged-if id c w f p q r = rw (p, q, r)

-- the record of the first r of these operations
abbrev pub record_of : (id r : ℕ) → List Op → Kept Op
record_of id r os = record { id = id; own = take r os; later = drop r os }

-- the kind alone tells a write
quiet-cut : (n : ℕ) (x b : Op) (rest : List Op) → x.kind ≡ b.kind → any is_write (take n (b ∷ rest)) ≡ false → any is_write (take n (x ∷ [])) ≡ false
unfolding any
quiet-cut zero x b rest k q = refl
quiet-cut (suc n) x b rest k q = rw (take-nil {A = Op} n, k, false_left (is_write b) (any is_write (take n rest)) q)

pub keep-record : (mc md : List ℕ) (id r : ℕ) (front : List Op) (x b : Op) (rest : List Op)
    → All Whole front → Whole b → x.kind ≡ b.kind → Bare x → All Bare (b ∷ rest) → in_order (take r (front ++ b ∷ rest)) ≡ true
    → is_acknowledged (entry_by (asked mc) (record_of id r (front ++ x ∷ []))) ≡ true → is_acknowledged (entry_by (asked md) (record_of id r (front ++ b ∷ rest))) ≡ true
unfolding entry_by
keep-record mc md id r front x b rest wf wb k bx bb o h =
    let q : ℕ = r - length front in
    let z = is-acknowledged id (any changed (take r (front ++ x ∷ []))) (any (withheld mc) (take r (front ++ x ∷ []))) (followed (asked mc) (record_of id r (front ++ x ∷ []))) h in
    let s = still x b rest k wb r front o (second-true (any is_write (take r (front ++ x ∷ []))) (settled r (front ++ x ∷ [])) z.2) in
    let n : any is_write (take q (b ∷ rest)) ≡ false = s.1 in
    let silent : any is_write (take q (x ∷ [])) ≡ false = quiet-cut q x b rest k n in
    let w : (any is_write (take r front) || any is_write (take q (x ∷ []))) ≡ true =
    rw (take-append, any_append) at (first-true (any is_write (take r (front ++ x ∷ []))) (settled r (front ++ x ∷ [])) z.2) in
    let writes : any is_write (take r (front ++ b ∷ rest)) ≡ true = rw (take-append, any_append, only-first (any is_write (take r front)) (any is_write (take q (x ∷ []))) w silent) in
    let c : (any changed (take r front) || any changed (take q (x ∷ []))) ≡ true = rw (take-append, any_append) at z.0 in
    let quiet : any changed (take q (x ∷ [])) ≡ false = none-changed (take q (x ∷ [])) (all_take Bare q (x ∷ []) (bx, tt)) silent in
    acknowledged-if id (any changed (take r (front ++ b ∷ rest))) (any (withheld md) (take r (front ++ b ∷ rest))) (followed (asked md) (record_of id r (front ++ b ∷ rest)))
    (rw (take-append, any_append, only-first (any changed (take r front)) (any changed (take q (x ∷ []))) c quiet))
    (rw (take-append, any_append, none-withheld md (take r front) (all_take Whole r front wf)) (none-held md (take q (b ∷ rest)) (all_take Bare q (b ∷ rest) bb) n))
    (rw writes s.0)
