-- A `while` in a walk by hand: `while c { body } rest`, as MIR has it, `seq (block (loop (seq (t = c) (seq (if t skip (exit 1)) body)))) rest`.
--     whiles       the loop, at any well-founded order. At the loop's head the context is `J x`, the one item that a turn changes, and Δ, which is again there at the end of each turn. A turn's proof is handed Q, what is to hold where it ends, with
--         tested       the test: where it holds the turn goes on, and where it fails the code after the loop runs
--         turned       the turn has ended: the context is `J x'` and Δ, and x' is below x
-- Assumes `Logic`, and a `Tables`.
use mathlib.Core.Bool.{Bool, not}
use mathlib.Core.List.{List, ◌∷◌}
use mathlib.Core.WellFounded.{WellFounded}
use seplogic.Ra.Ura.{Ura}
use lib.Dec.{T}
use mir.Syntax.{Opd as Operand, Body, skip, seq, cond, block, loop, exit}
use mir.Val.{vbool}
use prog.Wp.{Env, Calls, Loops, Wp, Tables, next, after_seq, after_block, after_turn}
use types.Logic.{Logic}
use types.Kit.{Item, Post, any_q, post, prop, runs, Seq, ◌$◌}
use types.Run.{Opd, first, skips, jumps, blocks, branches, loops, Below, again}

-- the test of a turn
pub record Testing {M : Type 1} {𝓤 : Ura M} (K : Type 0) (𝓛 : Logic 𝓤) (C : Calls 𝓤 𝓛.H) (Λ : Loops 𝓤 𝓛.H) (E : Env 𝓤 𝓛.H) (rest : Body) (q Q : Post 𝓤 𝓛.H) : Type 2 where
  pub tested : {Γ : List (Item 𝓤)} {c : Operand} {b : Body} {y : Bool} → Opd K 𝓛 Γ E c (vbool y) → (T y → Seq K 𝓛 Γ (runs C Λ E b Q)) → (T (not y) → Seq K 𝓛 Γ (runs C Λ E rest q)) → Seq K 𝓛 Γ (runs C Λ E (seq (cond c skip (exit 1)) b) Q)

module _ {M : Type 1} {𝓤 : Ura M} {𝓛 : Logic 𝓤} {K : Type 0} {X : Type 0} where
  open 𝓛 use {H}

  pub whiles : K → (𝓣 : Tables 𝓤 H) (≺ : X → X → Type 0) → WellFounded ≺ → (J : X → Item 𝓤) {Δ : List (Item 𝓤)} {E : Env 𝓤 H} {turn rest : Body} {q : Post 𝓤 H}
      → ((x : X) (Q : Post 𝓤 H) → Testing K 𝓛 𝓣.C 𝓣.Λ E rest q Q → ((x' : X) → ≺ x' x → Seq K 𝓛 (J x' ∷ Δ) (prop (post 𝓤 H Q next))) → Seq K 𝓛 (J x ∷ Δ) (runs 𝓣.C 𝓣.Λ E turn Q))
      → (x : X) → Seq K 𝓛 (J x ∷ Δ) (runs 𝓣.C 𝓣.Λ E (seq (block (loop turn)) rest) q)
  unfolding after_turn
  whiles t 𝓣 ≺ wf I {Δ} {E} {turn} {rest} {q} walk x = first t $ blocks t $ loops t 𝓣 ≺ wf (λ y. I y ∷ Δ) (λ y.
      walk y (any_q (after_turn 𝓤 H (Below 𝓛 ≺ (λ z. I z ∷ Δ) y) (after_block 𝓤 H (after_seq 𝓤 H (Wp 𝓤 H 𝓣.C 𝓣.Λ E rest (post 𝓤 H q)) (post 𝓤 H q)))))
      (record { tested = λ {Γ} {c} {b} {y} o held failed. first t $ branches t o (λ z. skips t $ record { prf = (held z).prf }) (λ z. jumps t $ record { prf = (failed z).prf }) })
      (λ y' l. again t ≺ (λ z. I z ∷ Δ) y y' l)) x
