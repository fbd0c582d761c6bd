-- What a thin function has at exit of the parameters that it passes on to its callee for good: what the callee's contract says of their last values, as it stands. So no parameter is taken apart after the call.
--     stay-said s k        of one parameter.        all_said ss ks       of a list of them
--     goes-said, all_go    the law that each owes: there is nothing to give up
--     early        `if c { a } rest`, where a returns: the walk goes on with a, and, where the test failed, with rest
-- Definitions assume nothing. The laws assume `Logic`.
use Prim.Native.Nat.{ℕ}
use mathlib.Core.Bool.{Bool, not}
use mathlib.Core.List.{List, [], ◌∷◌}
use lib.Dec.{T}
use mir.Syntax.{Opd as Operand, Body, skip, seq, cond}
use mir.Val.{vbool}
use seplogic.Ra.Ura.{Ura}
use prog.Wp.{Env, Calls, Loops, Wp, after_seq}
use types.Logic.{Logic, sem}
use types.Kit.{Item, Post, any_q, post, runs, Seq, ◌$◌}
use types.Run.{Opd, first, skips, branches}
use denote.Exit.{Kept, left}
use denote.Triple.End.{Kepts}
use denote.Signature.{Slot}
use denote.Triple.Walked.{Stay, Stays, Goes, AllGo}

module _ {n : ℕ} where
  -- the parameters after the first
  abbrev pub after : List (Slot n) → List (Slot n)
  after [] = []
  after (s ∷ ss) = ss

  abbrev pub stay-said : (s : Slot n) (k : Kept) → Stay s k
  stay-said s k = record { fit = λ κs x f. Unit {0}; has = λ κs x f vs. left ((s.row κs).exit k) x f }

  abbrev pub all_said : (ss : List (Slot n)) (ks : Kepts ss) → Stays ss ks
  all_said [] ks = tt
  all_said (s ∷ ss) ks = (stay-said s ks.0, all_said ss ks.1)

module _ {M : Type 1} {𝓤 : Ura M} (𝓛 : Logic 𝓤) (n : ℕ) where
  pub goes-said : (s : Slot n) (k : Kept) → Goes 𝓛 n s k (stay-said s k)
  goes-said s k κs x f vs ok = 𝓛.laws.⇛_intro (sem 𝓛 (left ((s.row κs).exit k) x f))

  pub all_go : (ss : List (Slot n)) (ks : Kepts ss) → AllGo 𝓛 n ss ks (all_said ss ks)
  all_go [] ks = tt
  all_go (s ∷ ss) ks = (goes-said s ks.0, all_go ss ks.1)

module _ {M : Type 1} {𝓤 : Ura M} {𝓛 : Logic 𝓤} {K : Type 0} {Γ : List (Item 𝓤)} {C : Calls 𝓤 𝓛.H} {Λ : Loops 𝓤 𝓛.H} {E : Env 𝓤 𝓛.H} {q : Post 𝓤 𝓛.H} where
  open 𝓛 use {H}

  pub early : K → {c : Operand} {a b : Body} {y : Bool} → Opd K 𝓛 Γ E c (vbool y)
      → (T y → Seq K 𝓛 Γ (runs C Λ E a (any_q (after_seq 𝓤 H (Wp 𝓤 H C Λ E b (post 𝓤 H q)) (post 𝓤 H q))))) → (T (not y) → Seq K 𝓛 Γ (runs C Λ E b q))
      → Seq K 𝓛 Γ (runs C Λ E (seq (cond c a skip) b) q)
  early t o held failed = first t $ branches t o held (λ z. skips t $ record { prf = (failed z).prf })
