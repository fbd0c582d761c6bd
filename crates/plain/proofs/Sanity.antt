-- What the definitions mean, said without their tests.
--     withheld-exactly    nothing is withheld exactly if the cells that did not land hold, at the end, what the write would have left
--     changed-exactly     nothing changed exactly if the cells that landed held before what they hold after
--     kept-ids            theorem 4 by ids: who is acknowledged in the first ledger is acknowledged in the second
-- Assumes nothing.
use mathlib.Core.Path.{◌≡◌, sym, ap, ◌∙◌}
use mathlib.Core.Logic.{◌↔◌, ⊎_elim}
use mathlib.Core.Bool.{false}
use mathlib.Core.List.{List, [], ◌∷◌, Memᴰ}
use Prim.Native.Nat.{ℕ, ◌-◌, min}
use lib.ListN.{length, take, drop, length-take, length-drop}
use Rattle.basics.specs.Parts.{part}
use Rattle.device.specs.Media.{any_pair, unequal}
use Rattle.device.proofs.Pairs.{any_same, any_none}
use Rattle.model.specs.Ledger.{Entry, is_acknowledged, ids, picked, acknowledged}
use Rattle.model.proofs.Lookups.{in-picked, picked-head, picked-tail}
use Rattle.oracle_legal.specs.Legal.{Holds}
use Rattle.plain.specs.Plain.{Op}
use Rattle.plain.specs.Ledger.{changed, withheld}
use Rattle.plain.specs.Claims.{Keeps}

-- no cell differs exactly if the lists are the same
same-exactly : (xs ys : List ℕ) → length xs ≡ length ys → (any_pair unequal xs ys ≡ false) ↔ (xs ≡ ys)
same-exactly xs ys l = (any_none xs ys l, λ e. rw e (any_same ys))

pub withheld-exactly : (media : List ℕ) (o : Op) → length (part media o.offset (length o.want)) ≡ length o.want
    → (withheld media o ≡ false) ↔ (drop o.landed (part media o.offset (length o.want)) ≡ drop o.landed o.want)
unfolding withheld
withheld-exactly media o l = same-exactly _ _ (length-drop o.landed _ ∙ ap (λ (n : ℕ). n - o.landed) l ∙ sym (length-drop o.landed o.want))

pub changed-exactly : (o : Op) → length o.old ≡ length o.want → (changed o ≡ false) ↔ (take o.landed o.old ≡ take o.landed o.want)
unfolding changed
changed-exactly o l = same-exactly _ _ (length-take o.landed o.old ∙ ap (min o.landed) l ∙ sym (length-take o.landed o.want))

pub kept-ids : (l k : List Entry) → Keeps l k → Holds (acknowledged k) (acknowledged l)
unfolding acknowledged
kept-ids [] [] h x m = m
kept-ids [] (b ∷ k) h x m = absurd h
kept-ids (a ∷ l) [] h x m = absurd h
kept-ids (a ∷ l) (b ∷ k) h x m =
    ⊎_elim (λ w. picked-head is_acknowledged x b k (w.0 ∙ h.0) (h.1 w.1))
    (λ (i : Memᴰ x (ids (picked is_acknowledged l))). picked-tail is_acknowledged x b k (kept-ids l k h.2 x i)) (in-picked is_acknowledged x a l m)
