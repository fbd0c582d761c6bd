-- The crash points of an uncut run: the log's first rows are the plain run's operations.
--     ops-same     the columns that `Alike` of `threaded` speaks of, as operations
-- Assumes nothing.
use mathlib.Core.Path.{◌≡◌, refl, ap₂}
use mathlib.Core.List.{List, [], ◌∷◌, map}
use Prim.Native.Nat.{ℕ}
use lib.ListN.{length}
use Rattle.inject.specs.declared.Op as Inject
use Rattle.inject.specs.Ops.{op_of, ops_of}
use Rattle.plain.specs.Plain.{Kind, is_program, is_erase, is_barrier, Op}
use Rattle.threaded.proofs.Steps.{kind_code}
use Rattle.plain_printed.specs.Reached.{op_for}

kind-same : (k : Kind) (offset len : ℕ) → op_of (kind_code k) offset len ≡ op_for k offset len
kind-same is_program offset len = refl
kind-same is_erase offset len = refl
kind-same is_barrier offset len = refl

pub ops-same : (os : List Op)
    → ops_of (map (λ (o : Op). kind_code o.kind) os) (map (λ (o : Op). o.offset) os) (map (λ (o : Op). length o.want) os)
    ≡ map (λ (o : Op). op_for o.kind o.offset (length o.want)) os
unfolding ops_of
ops-same [] = refl
ops-same (o ∷ os) = ap₂ {C = List Inject.Op} (λ (x : Inject.Op) (xs : List Inject.Op). x ∷ xs) (kind-same o.kind o.offset (length o.want)) (ops-same os)
