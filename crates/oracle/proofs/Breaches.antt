-- The first breach of a list of verdicts.
--     breach-past, breach-here      past a verdict that accepts; at one that does not
--     breach-none                   where there is none, each verdict accepts
--     number-zero                   only a verdict that accepts has the number 0
-- Assumes nothing.
use mathlib.Core.Path.{◌≡◌, refl}
use mathlib.Core.List.{List, [], ◌∷◌}
use Rattle.std.specs.Prelude.{Ok, Err}
use Rattle.basics.specs.Replies.{number_in}
use Rattle.oracle.specs.Verdict.{Verdict, Accepted, number_of, first_breach}
use Rattle.oracle.specs.Nonzero.{breach-nonzero}
use Rattle.oracle.specs.declared.Breach.{Breach}

pub number-zero : (v : Verdict) → number_in number_of v ≡ 0 → v ≡ Accepted
number-zero (Ok x) e = refl
number-zero (Err b) e = absurd (breach-nonzero b e)

pub not-accepted : (b : Breach) → ◌≡◌ {A = Verdict} (Err b) Accepted → ⊥
not-accepted b e = cc

module _ (v : Verdict) (vs : List Verdict) where
  pub breach-past : v ≡ Accepted → first_breach (v ∷ vs) ≡ first_breach vs
  unfolding first_breach
  breach-past e = rw e refl

  pub breach-here : (b : Breach) → v ≡ Err b → first_breach (v ∷ vs) ≡ Err b
  unfolding first_breach
  breach-here b e = rw e refl

-- where the first breach is none, neither the first verdict nor one after it is a breach
pub breach-none : (v : Verdict) (vs : List Verdict) → first_breach (v ∷ vs) ≡ Accepted → (v ≡ Accepted) × (first_breach vs ≡ Accepted)
unfolding first_breach
breach-none (Ok x) vs e = (refl, e)
breach-none (Err b) vs e = absurd (not-accepted b e)

-- a list of one verdict says what it says
pub last-is : (v : Verdict) → first_breach (v ∷ []) ≡ v
unfolding first_breach
last-is (Ok x) = refl
last-is (Err b) = refl
