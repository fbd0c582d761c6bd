-- `session::planned` meets its contract: what is withheld is remembered where there is any. Assumes nothing.
use mathlib.Core.Path.{◌≡◌, ap, ◌∙◌}
use Prim.Native.Nat.{ℕ, ◌-◌, ◌≤◌, ◌<◌}
use native.Mathlib.Omega.{arith}
use borrow.Author.Tests.{eq-eqb, ne_eqb}
use Rattle.session.specs.declared.Called.{Called as Reply}
use Rattle.session.specs.Replies.{Called, told_as, plan_as}
use Rattle.session.specs.Armed.{replied, write_replied, write_reply}
use Rattle.session.proofs.planned.Goals as goal

none_left : (len landed : ℕ) → len ≤ landed → len - landed ≡ 0
none_left len landed h = omega arith

some_left : (len landed : ℕ) → landed < len → len - landed ≡ 0 → ⊥
some_left len landed h e = omega arith

-- a reply that remembers what was withheld
remembered : (r : Reply) (w : Called) (landed place rest : ℕ) → told_as r ≡ w → (rest ≡ 0 → ⊥)
    → plan_as (record { landed = landed; reply = record { answer = r.answer; counters = record r.counters { place = place; withheld = rest } } })
    ≡ record { landed = landed; reply = write_replied place rest w }
remembered r w landed place rest e h = rw (← e) (simp (ne_eqb rest 0 h))

pub returns-then-landed-len : goal.returns-then-landed-len
unfolding write_reply
returns-then-landed-len c =
    remembered _ _ _ _ _ (c.reply_of-reply.ensures ∙ ap (replied c.args.counters c.args.armed) c.ended_by-ending.ensures) (some_left _ _ c.if-landed-len.true)

pub returns-else-landed-len : goal.returns-else-landed-len
unfolding write_reply
returns-else-landed-len c = simp (eq-eqb _ _ (none_left _ _ c.if-landed-len.false), ← c.ended_by-ending.ensures, ← c.reply_of-reply.ensures)
