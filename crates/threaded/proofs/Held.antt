-- The one withheld copy: the operations that landed whole have nothing in it, and the armed one has its rest there.
--     HeldFrom        of a list of operations, the first of which has an index
--     held-snoc       one operation more
--     held-before     before the armed one there is nothing to hold, whatever the copy becomes
--     held-says       what the session asks of an operation by its index is what the plain run asks of its bytes
-- Assumes nothing.
use mathlib.Core.Path.{◌≡◌, refl, sym, ◌∙◌}
use mathlib.Core.Logic.{◌⊎◌, inl, inr}
use mathlib.Core.Bool.{Bool, true, false, cond, ◌&&◌, true≢false}
use mathlib.Core.List.{List, [], ◌∷◌, ◌++◌}
use Prim.Native.Nat.{ℕ, suc, ◌+◌, ◌≤◌}
use native.Mathlib.Omega.{arith}
use lib.ListN.{length, drop, drop_of_length-le}
use lib.Dec.{eqb}
use borrow.Author.Tests.{eqb-true}
use Rattle.basics.specs.Parts.{part}
use Rattle.device.specs.Media.{any_pair, unequal}
use Rattle.inject.specs.declared.Injection.{Injection}
use Rattle.std.specs.Prelude.{None as Nothing, Some as At}
use Rattle.session.specs.Armed.{Armed, armed_on, is_armed}
use Rattle.plain.specs.Plain.{Op}
use Rattle.plain.specs.Ledger.{withheld}
use Rattle.threaded.proofs.Cells.{drop-part}
use Rattle.threaded.proofs.Steps.{rest_of}

-- what is armed on an index is armed on it alone

armed-cond : (j : Injection) (b : Bool) → is_armed (cond b (At j) Nothing) ≡ b
armed-cond j true = refl
armed-cond j false = refl

pub armed-once : (a : Armed) (i n : ℕ) → is_armed (armed_on a i) ≡ true → is_armed (armed_on a n) ≡ true → i ≡ n
armed-once Nothing i n e f = absurd (true≢false (sym e))
armed-once (At j) i n e f =
    let p : j.op ≡ i = eqb-true j.op i (sym (armed-cond j (eqb j.op i)) ∙ e) in
    let q : j.op ≡ n = eqb-true j.op n (sym (armed-cond j (eqb j.op n)) ∙ f) in
    sym p ∙ q

-- the copy holds from `place` on, `held` bytes, what the operation did not land
pub record HeldBy (place held : ℕ) (copy : List ℕ) (o : Op) : Type 0 where
  pub held-is : held ≡ rest_of o
  pub kept : part copy place held ≡ drop o.landed o.want
  pub place_is : (held ≡ 0) ⊎ (place ≡ o.offset + o.landed)

module _ (a : Armed) where
  abbrev pub HeldAt : (place held : ℕ) (copy : List ℕ) (i : ℕ) → Op → Type 0
  HeldAt place held copy i o =
      ((is_armed (armed_on a i) ≡ false) × (o.landed ≡ length o.want)) ⊎ ((is_armed (armed_on a i) ≡ true) × HeldBy place held copy o)

  abbrev pub HeldFrom : (place held : ℕ) (copy : List ℕ) (i : ℕ) → List Op → Type 0
  HeldFrom place held copy i [] = Unit {0}
  HeldFrom place held copy i (o ∷ os) = HeldAt place held copy i o × HeldFrom place held copy (suc i) os

  pub held-snoc : (place held : ℕ) (copy : List ℕ) (i : ℕ) (os : List Op) (o : Op) → HeldFrom place held copy i os → HeldAt place held copy (i + length os) o
      → HeldFrom place held copy i (os ++ (o ∷ []))
  held-snoc place held copy i [] o h k = (rw (sym (plus_none i)) k, tt)
    where
      plus_none : (n : ℕ) → n + 0 ≡ n
      plus_none n = omega arith
  held-snoc place held copy i (x ∷ os) o h k = (h.0, held-snoc place held copy (suc i) os o h.1 (rw (shift i (length os)) k))
    where
      shift : (n m : ℕ) → suc n + m ≡ n + suc m
      shift n m = omega arith

  pub held-before : (place held place' held' : ℕ) (copy copy' : List ℕ) (i n : ℕ) (os : List Op) → is_armed (armed_on a n) ≡ true → i + length os ≤ n
      → HeldFrom place held copy i os → HeldFrom place' held' copy' i os
  held-before place held place' held' copy copy' i n [] f le h = tt
  held-before place held place' held' copy copy' i n (o ∷ os) f le h =
      (go h.0, held-before place held place' held' copy copy' (suc i) n os f (omega arith) h.1)
    where
      go : HeldAt place held copy i o → HeldAt place' held' copy' i o
      go (inl w) = inl w
      go (inr w) = absurd (let e : i ≡ n = armed-once a i n w.0 f in omega arith)

-- ---- asked at the end of the run

nothing-differs : (xs : List ℕ) → any_pair unequal xs [] ≡ false
unfolding any_pair
nothing-differs [] = refl
nothing-differs (x ∷ xs) = refl

module _ (a : Armed) (place held : ℕ) (copy media : List ℕ) where
  pub held-says : (i : ℕ) (o : Op) → HeldAt a place held copy i o
      → (is_armed (armed_on a i) && any_pair unequal (part media place held) (part copy place held)) ≡ withheld media o
  unfolding withheld
  held-says i o (inl w) =
      let none : drop o.landed o.want ≡ [] = drop_of_length-le o.want {i = o.landed} (omega (arith, w.1)) in
      rw (w.0, none) (sym (nothing-differs _))
  held-says i o (inr w) = rw (w.0, w.1.kept) (go w.1.place_is)
    where
      go : (held ≡ 0) ⊎ (place ≡ o.offset + o.landed)
          → any_pair unequal (part media place held) (drop o.landed o.want)
          ≡ any_pair unequal (drop o.landed (part media o.offset (length o.want))) (drop o.landed o.want)
      go (inl z) =
          let e : rest_of o ≡ 0 = sym w.1.held-is ∙ z in
          let none : drop o.landed o.want ≡ [] = drop_of_length-le o.want {i = o.landed} (omega (arith, e)) in
          rw none (nothing-differs _ ∙ sym (nothing-differs _))
      go (inr p) = rw (p, w.1.held-is, drop-part media o.offset (length o.want) o.landed)
