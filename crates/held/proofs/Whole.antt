-- The whole call, from what its parts found.
--     refused-call, terminal-call, never-call, differ-call, kept-call   each answer of `held_to`
--     fits                                                              what it knows of the columns that are not refused
-- Assumes nothing.
use mathlib.Core.Path.{◌≡◌, sym, ap, ◌∙◌}
use mathlib.Core.Bool.{Bool, true, false, not, ◌&&◌}
use Prim.Native.Nat.{ℕ, suc}
use lib.Dec.{eqb}
use borrow.Author.Tests.{eq-eqb, ne_eqb}
use Rattle.std.specs.Prelude.{Result, Ok, Err}
use Rattle.refusals.specs.declared.Refusal.{Refusal}
use Rattle.refusals.specs.Numbers.{number_of}
use Rattle.refusals.specs.Nonzero.{refusal-nonzero}
use Rattle.inject.specs.declared.Injection.{Injection}
use Rattle.held.specs.declared.Held.{Held}
use Rattle.held.specs.declared.Held.TheVariants.{Relabelled, Kept}
use Rattle.held.specs.Held.{Recorded, is_relabelled, is_opening, same_through, held_number, columns_test, held_test, held_call}
use Rattle.held.specs.Scans.{Fits}
use Rattle.held.proofs.Numbers.{columns-fit, lowest-none}

module _ (j : Injection) (f r : Recorded) where
  pub refused-call : (e : Refusal) → number_of e ≡ held_test f r → ◌≡◌ {A = Result Held ℕ} (Err (number_of e)) (held_call j f r)
  unfolding held_call
  refused-call e q = ap Err q ∙ sym (rw (ne_eqb (held_test f r) 0 (λ z. refusal-nonzero e (q ∙ z))))

  module _ (z : 0 ≡ held_test f r) where
    pub fits : Fits f × Fits r
    fits = let none = lowest-none (columns_test f) (columns_test r) (sym z) in (columns-fit f none.0, columns-fit r none.1)

    tested : eqb (held_test f r) 0 ≡ true
    tested = eq-eqb (held_test f r) 0 (sym z)

    module _ (t : Bool) (u : t ≡ is_relabelled j f.counters.operations) where
      pub terminal-call : t ≡ true → Ok Relabelled ≡ held_call j f r
      unfolding held_call
      terminal-call y = rw (tested, ← u, y)

      module _ (v : t ≡ false) (o : Bool) (w : o ≡ is_opening j f.counters.operations) where
        pub never-call : (not r.counters.fired && not o) ≡ true → Err 25 ≡ held_call j f r
        unfolding held_call held_number
        never-call y = rw (tested, ← u, v, ← w, y)

        module _ (x : (not r.counters.fired && not o) ≡ false) (s : Bool) (y : s ≡ same_through (suc j.op) f r) where
          pub kept-call : s ≡ true → Ok Kept ≡ held_call j f r
          unfolding held_call held_number
          kept-call e = rw (tested, ← u, v, ← w, x, ← y, e)

          pub differ-call : s ≡ false → Err 26 ≡ held_call j f r
          unfolding held_call held_number
          differ-call e = rw (tested, ← u, v, ← w, x, ← y, e)
