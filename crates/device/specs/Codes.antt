-- A bit rule as a number, where one crosses to Rust or C. Definitions only; assumes nothing.
use Rattle.std.specs.Prelude.{cond, ℕ, eqb}
use Rattle.device.specs.declared.OneWayBits.{OneWayBits}
use Rattle.device.specs.declared.OneWayBits.TheVariants.{Absorbed, Rejected}

-- 0 for Absorbed, any other number for Rejected
abbrev pub rule_of : ℕ → OneWayBits
rule_of rule = cond (eqb rule 0) Absorbed Rejected
