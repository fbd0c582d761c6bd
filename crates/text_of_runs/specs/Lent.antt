-- What the two programs lend to the reader of a script, over lengths alone: whatever the columns hold. Definitions only; assumes nothing.
use Rattle.std.specs.Prelude.{◌≡◌, length}
use Rattle.script.specs.Columns.{Columns}

-- a script's columns and pool, 32,768 of each
pub record Sheet (k : Columns) : Type 0 where
  pub kinds-long : length k.kinds ≡ 32768
  pub firsts-long : length k.firsts ≡ 32768
  pub seconds-long : length k.seconds ≡ 32768
  pub thirds-long : length k.thirds ≡ 32768
  pub starts-long : length k.starts ≡ 32768
  pub pool-long : length k.pool ≡ 32768
