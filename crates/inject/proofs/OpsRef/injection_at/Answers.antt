-- `inject::OpsRef::injection_at` meets its contract: the number that refuses, or what the search tells. Assumes nothing.
use mathlib.Core.Path.{◌≡◌, sym}
use mathlib.Core.Bool.{true}
use mathlib.Core.List.{List}
use Prim.Native.Nat.{ℕ}
use Rattle.std.specs.Prelude.{Result, Ok, Err, MatchResult, IsErrAnd}
use Rattle.std.proofs.Common.{rules}
use Rattle.basics.specs.Replies.{numbered}
use Rattle.refusals.specs.Numbers.{number_of}
use Rattle.refusals.specs.Nonzero.{refusal-nonzero}
use Rattle.refusals.specs.declared.Refusal.{Refusal}
use Rattle.refusals.specs.declared.Refusal.TheVariants.{NoSuchPlace}
use Rattle.storage.specs.declared.Geometry.{Geometry}
use Rattle.inject.specs.declared.Injection.{Injection}
use Rattle.inject.specs.Answers.{list_test, points_of, found}
use Rattle.inject.specs.Steps.{Sought, sought}
use Rattle.inject.proofs.Refusals.{passes}
use Rattle.inject.proofs.Whole.{place-refused, place_found, place-past}
use Rattle.inject.proofs.OpsRef.injection_at.Goals as goal

-- what the search tells, and what is answered
answer : (g : Geometry) (ks os ls : List ℕ) (place : ℕ) → 0 ≡ list_test g ks os ls true → (r : Sought) (a : Result Injection Refusal) (Q : ℕ → Refusal → Type 0)
    → sought (points_of g ks os ls) place ≡ r → MatchResult r (λ x. a ≡ Ok x) (λ n. IsErrAnd a (Q n)) → ((n : ℕ) (e : Refusal) → Q n e → e ≡ NoSuchPlace)
    → numbered number_of a ≡ found g ks os ls place
answer g ks os ls place told (Ok p) a Q e m f = rw m (place_found g ks os ls place told p e)
answer g ks os ls place told (Err n) (Ok p) Q e m f = absurd m
answer g ks os ls place told (Err n) (Err x) Q e m f = rw (f n x m) (place-past g ks os ls place told n e)

pub returns-in_err-refuse : goal.returns-in_err-refuse
returns-in_err-refuse c =
    let o = c.args.self.now in
    let t = place-refused c.args.geometry o.kinds.now o.offsets.now o.lens.now c.args.place _ c.in_err-refuse.ensures (refusal-nonzero _) in search rules

pub invariant_of-sequence : goal.invariant_of-sequence
invariant_of-sequence c =
    let s = (passes _ _ _ _ _ (sym c.in_ok-refuse.ensures)).sound in
    record { sound = (s.offsets-equal, s.lens-equal, s.few) }

pub returns : goal.returns
returns c =
    let o = c.args.self.now in
    answer c.args.geometry o.kinds.now o.offsets.now o.lens.now c.args.place c.in_ok-refuse.ensures c.point_at.result c.map_err.result _ (sym c.point_at.ensures) c.map_err.ensures.cases (λ n e q. search rules)
