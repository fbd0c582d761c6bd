-- Document 01, "session.rs (974)": how much of an armed operation lands. Definitions only; assumes nothing.
use Rattle.std.specs.Prelude.{Bool, true, false, not, cond, ℕ, ◌+◌, ◌-◌, ◌*◌, ◌/◌, min, eqb}
use Rattle.inject.specs.declared.Progress.{Progress}
use Rattle.inject.specs.declared.Progress.TheVariants.{None, Bytes, Whole}
use Rattle.inject.specs.declared.Interruption.{Interruption}
use Rattle.inject.specs.declared.Interruption.TheVariants.{PowerLoss, Watchdog, Failure}
use Rattle.inject.specs.declared.Injection.{Injection}

-- "An armed operation lands min(count, length) bytes, 0 for none, all for whole."
abbrev pub offered : Progress → (len : ℕ) → ℕ
offered None len = 0
offered (Bytes count) len = min count len
offered Whole len = len

-- "Watchdog rounds this up to the unit, capped at length." No geometry has a unit of 0; it rounds nothing.
unfoldable pub rounded_up : (n len unit : ℕ) → ℕ
rounded_up n len unit = cond (eqb unit 0) n (min ((n + (unit - 1)) / unit * unit) len)

-- ".. round an erase down to whole blocks."
unfoldable pub rounded_down : (n block : ℕ) → ℕ
rounded_down n block = n / block * block

-- what lands of a program
abbrev pub program_by : Interruption → (n len unit : ℕ) → ℕ
program_by PowerLoss n len unit = n
program_by Watchdog n len unit = rounded_up n len unit
program_by Failure n len unit = n

abbrev pub program_landed : Injection → (len unit : ℕ) → ℕ
program_landed j len unit = program_by j.interruption (offered j.progress len) len unit

-- what lands of an erase: "Power loss and failure round an erase down to whole blocks."
abbrev pub erase_by : Interruption → (n len block : ℕ) → ℕ
erase_by PowerLoss n len block = rounded_down n block
erase_by Watchdog n len block = rounded_up n len block
erase_by Failure n len block = rounded_down n block

abbrev pub erase_landed : Injection → (len block : ℕ) → ℕ
erase_landed j len block = erase_by j.interruption (offered j.progress len) len block

-- a program and an erase in one, as the code has them: a program stops at any byte (its step is 1), an erase between blocks
abbrev pub cut_by : Interruption → (n len step unit : ℕ) → ℕ
cut_by PowerLoss n len step unit = rounded_down n step
cut_by Watchdog n len step unit = rounded_up n len unit
cut_by Failure n len step unit = rounded_down n step

abbrev pub landed_by : Injection → (len step unit : ℕ) → ℕ
landed_by j len step unit = cut_by j.interruption (offered j.progress len) len step unit

-- "A barrier under none or count 0 did not run (not completed); under any other progress it completed."
abbrev pub ran : Progress → Bool
ran None = false
ran (Bytes count) = not (eqb count 0)
ran Whole = true
