-- The points under an interruption from row i on: what is left of a walk over the rows. Assumes nothing.
use mathlib.Core.Path.{◌≡◌, sym, ap, ◌∙◌}
use mathlib.Core.List.{List, [], ◌++◌, map}
use Prim.Native.Nat.{ℕ, ◌+◌, ◌-◌, ◌≤◌, ◌<◌}
use native.Mathlib.Numerals.{add-one}
use lib.ListN.{length, get_or, drop, length-append, length-map, drop_of_length-le}
use lib.Seq.{drop-cons}
use Rattle.std.proofs.lemmas.List.{get_or-map}
use Rattle.storage.specs.declared.Geometry.{Geometry}
use Rattle.inject.specs.declared.Progress.TheVariants.{None}
use Rattle.inject.specs.declared.Interruption.{Interruption}
use Rattle.inject.specs.declared.Injection.{Injection}
use Rattle.inject.specs.declared.Sequence.{Sequence}
use Rattle.inject.specs.declared.group.Group.{Group}
use Rattle.std.specs.Prelude.{Ok as At}
use Rattle.inject.specs.Ops.{ops_of}
use Rattle.inject.specs.Points.{progresses, point, under}
use Rattle.inject.specs.Steps.{Sound, op_at, grouped, GroupOf, sought}
use Rattle.inject.proofs.Searches.{sought-in, sought-past}

abbrev pub rest : Geometry → Interruption → ℕ → (kinds offsets lens : List ℕ) → List Injection
rest g w i ks os ls = under g w i (ops_of (drop i ks) (drop i os) (drop i ls))

rest-cons : (g : Geometry) (w : Interruption) (i : ℕ) (ks os ls : List ℕ) → i < length ks → i < length os → i < length ls
    → rest g w i ks os ls ≡ map (point i w) (progresses g w (op_at ks os ls i)) ++ rest g w (i + 1) ks os ls
unfolding under ops_of
rest-cons g w i ks os ls h j k = rw (add-one, drop-cons ks i 0 h, drop-cons os i 0 j, drop-cons ls i 0 k)

pub rest_end : (g : Geometry) (w : Interruption) (i : ℕ) (ks os ls : List ℕ) → length ks ≤ i → rest g w i ks os ls ≡ []
unfolding under ops_of
rest_end g w i ks os ls h = rw (drop_of_length-le ks h)

-- a list that nothing refuses is sound
pub sound : (s : Sequence) → Sound s.geometry s.ops.kinds.now s.ops.offsets.now s.ops.lens.now
sound s = record { offsets-equal = s.sound.0; lens-equal = s.sound.1; few = s.sound.2 }

-- a row of a sound list, and its group
module _ (g : Geometry) (w : Interruption) (ks os ls : List ℕ) (s : Sound g ks os ls)
    (i : ℕ) (h : i < length ks) (r : Group) (q : GroupOf g w (op_at ks os ls i) r) where
  -- row i's points, and then the rest
  pub rest-step : rest g w i ks os ls ≡ map (point i w) (grouped r) ++ rest g w (i + 1) ks os ls
  rest-step =
      rest-cons g w i ks os ls h (rw (← s.offsets-equal) h) (rw (← s.lens-equal) h) ∙ rw q.points

  pub rest-length : length (rest g w i ks os ls) ≡ length (grouped r) + length (rest g w (i + 1) ks os ls)
  rest-length = ap length rest-step ∙ simp (length-append, length-map)

  -- the place lies in row i's points, or past them
  pub rest_in : (n : ℕ) → n < length (grouped r) → sought (rest g w i ks os ls) n ≡ At (point i w (get_or (grouped r) n None))
  rest_in n l =
      ap (λ (xs : List Injection). sought xs n) rest-step
      ∙ sought-in (map (point i w) (grouped r)) _ n (point i w None) (rw length-map l)
      ∙ ap At (get_or-map (point i w) (grouped r) n None (point i w None) l)

  pub rest-past : (n m : ℕ) → m ≡ length (grouped r) → m ≤ n
      → sought (rest g w i ks os ls) n ≡ sought (rest g w (i + 1) ks os ls) (n - m)
  rest-past n m e l =
      let z : length (map (point i w) (grouped r)) ≡ m = length-map (grouped r) (point i w) ∙ sym e in
      ap (λ (xs : List Injection). sought xs n) rest-step
      ∙ sought-past (map (point i w) (grouped r)) _ n (rw z l)
      ∙ rw z
