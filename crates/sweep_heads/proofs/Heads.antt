-- What is written before the entries: head-put.
-- Assumes nothing.
use mathlib.Core.Path.{◌≡◌, ap, ◌∙◌}
use mathlib.Core.List.{[], ◌∷◌}
use Prim.Native.Nat.{ℕ}
use Rattle.landing.specs.declared.Stop.{Stop}
use Rattle.session.specs.Armed.{Armed}
use Rattle.text.specs.Numbers.{decimal_of}
use Rattle.pieces.specs.Pieces.{letter, Cursor, after, after_all, tabbed}
use Rattle.pieces.proofs.Cursors.{joint}
use Rattle.lines.specs.Lines.{point_fields, stop_field}
use Rattle.sweep_heads.specs.Heads.{head_pieces}

pub head-put : (place : ℕ) (armed : Armed) (stop : Stop) (operations l : ℕ) → letter l ≡ stop_field stop → (a b c d e : Cursor) → b ≡ after (decimal_of place) a
    → c ≡ after_all (tabbed (point_fields armed)) b → d ≡ after_all (letter 9 ∷ letter l ∷ []) c → e ≡ after_all (letter 9 ∷ decimal_of operations ∷ []) d
    → e ≡ after_all (head_pieces place armed stop operations) a
unfolding head_pieces tabbed after_all
head-put place armed stop operations l s a b c d e i j k g =
    let behind = letter 9 ∷ stop_field stop ∷ letter 9 ∷ decimal_of operations ∷ [] in
    let stopped : e ≡ after_all behind c = rw (← s) (joint (letter 9 ∷ letter l ∷ []) (letter 9 ∷ decimal_of operations ∷ []) c d e k g) in
    joint (decimal_of place ∷ tabbed (point_fields armed)) behind a c e (j ∙ ap (after_all (tabbed (point_fields armed))) i) stopped
