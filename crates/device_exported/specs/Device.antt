-- The layer `device` with its rule and its answers as numbers. Definitions only; assumes nothing.
use Rattle.std.specs.Prelude.{Result, Ok, Err, cond, ℕ, eqb}
use Rattle.device.specs.declared.OneWayBits.{OneWayBits}
use Rattle.device.specs.declared.OneWayBits.TheVariants.{Absorbed, Rejected}

-- 0 for Absorbed, any other number for Rejected
abbrev pub rule_of : ℕ → OneWayBits
rule_of rule = cond (eqb rule 0) Absorbed Rejected

-- cells that were written have their number put over what stood there
abbrev pub count_over : Result ℕ ℕ → ℕ → ℕ
count_over (Ok n) old = n
count_over (Err n) old = old
