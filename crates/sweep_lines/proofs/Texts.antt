-- A run's line of `sweep` as the pieces that make it up: sweep-pieces.
-- Assumes nothing.
use mathlib.Core.Path.{◌≡◌, refl, sym, ap, ◌∙◌}
use mathlib.Core.Bool.{Bool, true, false}
use mathlib.Core.List.{List, [], ◌∷◌, ◌++◌, append_assoc, map, flatten}
use Prim.Native.Nat.{ℕ}
use Rattle.model.specs.Ledger.{Entry, is_torn}
use Rattle.text.specs.Numbers.{decimal_of}
use Rattle.pieces.specs.Pieces.{letter, tabbed}
use Rattle.pieces.proofs.Lists.{flatten-append, tabbed-append}
use Rattle.lines.specs.Lines.{Shown, point_fields, stop_field, state_letter, entry_field, sweep_line}
use Rattle.lines.proofs.Texts.{line-pieces}
use Rattle.sweep_heads.specs.Heads.{head_pieces}
use Rattle.sweep_lines.specs.Fields.{entry_pieces, ledger_pieces}

entry-flat : (e : Entry) (b : Bool) → is_torn e ≡ b → (rest : List (List ℕ)) → flatten (entry_pieces e ++ rest) ≡ flatten (letter 9 ∷ entry_field e ∷ rest)
unfolding entry_pieces flatten
entry-flat e true q rest = simp q (ap (λ (l : List ℕ). 9 ∷ l) (sym (append_assoc (decimal_of e.id) (state_letter e.state ∷ letter 116) (flatten rest))))
entry-flat e false q rest = simp q (ap (λ (l : List ℕ). 9 ∷ l) (sym (append_assoc (decimal_of e.id) (state_letter e.state ∷ []) (flatten rest))))

ledger-flat : (l : List Entry) (rest : List (List ℕ)) → flatten (ledger_pieces l ++ rest) ≡ flatten (tabbed (map entry_field l) ++ rest)
unfolding ledger_pieces tabbed flatten
ledger-flat [] rest = refl
ledger-flat (e ∷ l) rest =
    ap flatten (append_assoc (entry_pieces e) (ledger_pieces l) rest)
    ∙ entry-flat e (is_torn e) refl (ledger_pieces l ++ rest)
    ∙ ap (λ (t : List ℕ). letter 9 ++ (entry_field e ++ t)) (ledger-flat l rest)

pub sweep-pieces : (place : ℕ) (r : Shown)
    → flatten (head_pieces place r.injection r.stop r.operations ++ ledger_pieces r.ledger ++ (letter 10 ∷ [])) ≡ sweep_line place r
unfolding sweep_line head_pieces tabbed
sweep-pieces place r =
    let point = tabbed (point_fields r.injection) in
    let behind = tabbed (stop_field r.stop ∷ decimal_of r.operations ∷ []) in
    let ending = letter 10 ∷ [] in
    let head = head_pieces place r.injection r.stop r.operations in
    ap flatten (append_assoc head (ledger_pieces r.ledger) ending)
    ∙ flatten-append head (ledger_pieces r.ledger ++ ending)
    ∙ ap (λ (t : List ℕ). flatten head ++ t) (ledger-flat r.ledger ending)
    ∙ sym (flatten-append head (tabbed (map entry_field r.ledger) ++ ending))
    ∙ ap (λ (t : List (List ℕ)). flatten (decimal_of place ∷ t))
    (append_assoc point behind (tabbed (map entry_field r.ledger) ++ ending)
    ∙ sym (append_assoc point (tabbed (stop_field r.stop ∷ decimal_of r.operations ∷ map entry_field r.ledger)) ending)
    ∙ ap (λ (t : List (List ℕ)). t ++ ending) (sym (tabbed-append (point_fields r.injection) (stop_field r.stop ∷ decimal_of r.operations ∷ map entry_field r.ledger))))
    ∙ line-pieces (decimal_of place) (point_fields r.injection ++ (stop_field r.stop ∷ decimal_of r.operations ∷ map entry_field r.ledger))
