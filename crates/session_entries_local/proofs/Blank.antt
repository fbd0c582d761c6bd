-- The local: an array of 1,024 entries, all of them the one that no operation leaves. Its machine value, and that it is one; and the
-- operand 1024, which MIR writes as a constant whose bound a proof supplies. Assumes nothing, but `big-lit` `Logic`.
use mathlib.Core.Path.{◌≡◌, refl, sym, subst}
use Prim.Native.Nat.{ℕ, zero, suc}
use mathlib.Core.List.{[], ◌∷◌, List}
use lib.ListN.{length, replicate, length-replicate}
use lib.Dec.{lit<}
use seplogic.Ra.Ura.{Ura}
use mir.Syntax.{Width, int_big}
use mir.Val.{Val, vint, Fits}
use base.Logic.{via, guard_i}
use prog.Wp.{Env}
use types.Logic.{Logic}
use types.Kit.{Item}
use types.Run.{Opd}
use denote.RattleType.{RattleType}
use denote.Shadow.{shadow}
use denote.Laws.{Is}
use denote.Array.{Array, each, array_val, array_vals}
use denote.Slice.{Room}
use denote.Steps.{only}
use denote.Struct.Laws as LL
use Rattle.session.specs.declared.Entry.{Entry}
use Rattle.session.specs.contracts.Entry as T
use Rattle.session.proofs.Entry.TheLaws as T'
use Rattle.session_entries.specs.Entries.{no_entry}
use Rattle.session_entries_local.specs.Local.{blank_log}

-- the array's type
abbrev pub Full : RattleType
Full = Array T.the_row 1024

-- an array's machine value
abbrev pub all_of : List Entry → Val
all_of zs = only (array_vals (LL.vals T.the_type T'.the_laws) zs)

abbrev pub blank-val : Val
blank-val = array_val (replicate 1024 (T'.lowered no_entry))

pub none_is : Is T.the_row no_entry (T'.lowered no_entry ∷ [])
none_is = LL.owes T.the_type T'.the_laws no_entry ((refl, lit< tt), ((refl, lit< tt), ((refl, lit< tt), ((refl, lit< tt), ((refl, lit< tt), ((refl, lit< tt), tt))))))

repeat-is : (R : RattleType) (x : R.Denot) (u : Val) → Is R x (u ∷ []) → (n : ℕ) → shadow (each R.Denot R.own_val (replicate n x) (replicate n u))
repeat-is R x u g zero = tt
repeat-is R x u g (suc n) = (g, repeat-is R x u g n)

pub blank-is : Is Full blank_log (blank-val ∷ [])
unfolding blank_log
blank-is = (replicate 1024 (T'.lowered no_entry), ((refl, length-replicate 1024 no_entry), repeat-is T.the_row no_entry (T'.lowered no_entry) none_is 1024))

-- a log of so many entries has room
pub room_of : (ys : List Entry) → length ys ≡ 1024 → Room T.the_row (length ys)
room_of ys p = subst (Room T.the_row) (sym p) (lit< tt, lit< tt)

module _ {M : Type 1} {𝓤 : Ura M} {𝓛 : Logic 𝓤} {K : Type 0} {Γ : List (Item 𝓤)} {E : Env 𝓤 𝓛.H} where
  pub big-lit : K → {w : Width} {n : ℕ} → Fits w n → Opd K 𝓛 Γ E (int_big w n) (vint w n)
  big-lit t {w} {n} z = record { go = λ Kt h. via 𝓤 (Kt (vint w n)) h (guard_i 𝓤 (Fits w n) (Kt (vint w n)) z) }
