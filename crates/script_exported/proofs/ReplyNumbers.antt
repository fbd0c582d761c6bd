-- What a call answers and leaves is one equation of the layer; here are its two halves. Assumes nothing.
use mathlib.Core.Path.{◌≡◌, ap, ◌∙◌}
use mathlib.Core.List.{List}
use Prim.Native.Nat.{ℕ}
use Rattle.script.specs.Columns.{Columns, ReadScript, After, after}
use Rattle.script_exported.specs.Reply.{reply_cells}

pub read_told : (cells : List ℕ) (r : ReadScript) (k : Columns) (a : After) → after r k ≡ a → cells ≡ reply_cells r
    → (cells ≡ reply_cells a.reply) × (k ≡ a.columns)
read_told cells r k a e told = (told ∙ ap (λ (x : After). reply_cells x.reply) e, ap (λ (x : After). x.columns) e)
