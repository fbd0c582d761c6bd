-- Rows that are there: what a loop over them asks. No public contract cites this. Definitions only; assumes nothing.
use Rattle.std.specs.Prelude.{◌≡◌, ℕ, ◌≤◌, length}
use Rattle.script.specs.Columns.{Columns}

pub record Ready (rows : ℕ) (k : Columns) : Type 0 where
  pub firsts-even : length k.firsts ≡ length k.kinds
  pub seconds-even : length k.seconds ≡ length k.kinds
  pub thirds-even : length k.thirds ≡ length k.kinds
  pub starts-even : length k.starts ≡ length k.kinds
  pub room : rows ≤ length k.kinds
