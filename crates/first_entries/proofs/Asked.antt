-- What `state` and `torn` answer at each of their ways out: one law for each, whose premises are what the calls ensure and what
-- the tests say. `asked` is all of them, for `search (rules, asked)`. Assumes nothing.
use mathlib.Core.Path.{◌≡◌, sym, ap, ◌∙◌}
use mathlib.Core.Bool.{Bool, not, ◌&&◌}
use mathlib.Core.List.{List}
use Prim.Native.Nat.{ℕ, ◌<◌}
use native.Mathlib.Omega.{arith}
use lib.ListN.{length, get_or}
use lib.Dec.{eqb}
use Rattle.std.specs.Prelude.{None, Some, Ok, Err}
use Rattle.basics.proofs.Replies.{taken, refused as is_refused}
use Rattle.refusals.specs.Numbers.{number_of}
use Rattle.refusals.specs.Nonzero.{refusal-nonzero}
use Rattle.refusals.specs.declared.Refusal.{Refusal}
use Rattle.id_columns.specs.Ids.{place_of}
use Rattle.model.specs.Ledger.{lookup}
use Rattle.model.specs.Columns.{state_of, ledger_of, refused}
use Rattle.model.specs.declared.Durability.{Durability}
use Rattle.model.proofs.Codes.{Sound, refused_none}
use Rattle.model.proofs.Rows.{torn-row}
use Rattle.model.proofs.Lookups.{LookedAt, looked-none, looked-at}
use Rattle.first_entries.specs.Answers.{state_found, torn_found, state_asked, torn_asked}

module _ (is ss ts : List ℕ) (x : ℕ) where
  -- `refusal` refused
  pub state-refused : (e : Refusal) → number_of e ≡ refused is ss ts → Err (number_of e) ≡ state_asked is ss ts x
  unfolding state_asked
  state-refused e told = is_refused number_of refusal-nonzero _ e _ told

  pub torn-refused : (e : Refusal) → number_of e ≡ refused is ss ts → Err (number_of e) ≡ torn_asked is ss ts x
  unfolding torn_asked
  torn-refused e told = is_refused number_of refusal-nonzero _ e _ told

  module _ (told : 0 ≡ refused is ss ts) where
    sound : Sound is ss ts
    sound = refused_none is ss ts (sym told)

    stated : Ok (state_found (lookup x (ledger_of is ss ts))) ≡ state_asked is ss ts x
    unfolding state_asked
    stated = taken number_of refusal-nonzero _ _ told

    torned : Ok (torn_found (lookup x (ledger_of is ss ts))) ≡ torn_asked is ss ts x
    unfolding torn_asked
    torned = taken number_of refusal-nonzero _ _ told

    pub no-state : None ≡ place_of x is → Ok None ≡ state_asked is ss ts x
    no-state q = ap (λ f. Ok (state_found f)) (sym (looked-none x is ss ts (sym q))) ∙ stated

    pub no-torn : None ≡ place_of x is → Ok None ≡ torn_asked is ss ts x
    no-torn q = ap (λ f. Ok (torn_found f)) (sym (looked-none x is ss ts (sym q))) ∙ torned

    -- the id first stands at i
    module _ (i : ℕ) (q : Some i ≡ place_of x is) where
      looked : LookedAt x is ss ts i
      looked = looked-at x is ss ts i sound.states sound.torns (sym q)

      pub state-below : i < length ss
      state-below = omega (arith, looked.below, sound.states)

      pub torn-below : i < length ts
      torn-below = omega (arith, looked.below, sound.torns)

      pub state-is : (d : Durability) → d ≡ state_of (get_or ss i 0) → Ok (Some d) ≡ state_asked is ss ts x
      state-is d g = ap (λ s. Ok (Some s)) g ∙ ap (λ f. Ok (state_found f)) (sym looked.found) ∙ stated

      pub torn-is : Ok (Some (not (eqb (get_or ss i 0) 0) && eqb (get_or ts i 0) 1)) ≡ torn_asked is ss ts x
      torn-is =
          ap (λ (b : Bool). Ok (Some b)) (sym (torn-row (get_or is i 0) (get_or ss i 0) (get_or ts i 0))) ∙ ap (λ f. Ok (torn_found f)) (sym looked.found) ∙ torned

pub ruleset asked = (state-refused, torn-refused, no-state, no-torn, state-below, torn-below, state-is, torn-is)
