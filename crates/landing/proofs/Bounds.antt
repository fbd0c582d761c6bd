-- No more lands than the length; and what the code lands is the definition's, of a program and of an erase. Assumes nothing.
use mathlib.Core.Path.{◌≡◌, refl, ap, ◌∙◌}
use mathlib.Core.Bool.{Bool, true, false, cond}
use Prim.Native.Nat.{ℕ, ◌+◌, ◌-◌, ◌*◌, ◌/◌, ◌≤◌, min, zero-le}
use native.Mathlib.Nat.{le_refl, le_trans, min-le_right, div-mul-le_self, div-one, mul-one}
use lib.Dec.{eqb}
use Rattle.inject.specs.declared.Progress.{Progress}
use Rattle.inject.specs.declared.Progress.TheVariants.{None, Bytes, Whole}
use Rattle.inject.specs.declared.Interruption.{Interruption}
use Rattle.inject.specs.declared.Interruption.TheVariants.{PowerLoss, Watchdog, Failure}
use Rattle.inject.specs.declared.Injection.{Injection}
use Rattle.landing.specs.Landed.{offered, rounded_up, rounded_down, program_by, program_landed, erase_by, erase_landed, cut_by, landed_by}

offered-le : (p : Progress) (len : ℕ) → offered p len ≤ len
offered-le None len = zero-le
offered-le (Bytes n) len = min-le_right n len
offered-le Whole len = le_refl len

cond-le : (b : Bool) (x y n : ℕ) → x ≤ n → y ≤ n → cond b x y ≤ n
cond-le true x y n p q = p
cond-le false x y n p q = q

up_le : (n len unit : ℕ) → n ≤ len → rounded_up n len unit ≤ len
unfolding rounded_up
up_le n len unit h = cond-le (eqb unit 0) n (min ((n + (unit - 1)) / unit * unit) len) len h (min-le_right _ len)

down_le : (n len block : ℕ) → n ≤ len → rounded_down n block ≤ len
unfolding rounded_down
down_le n len block h = le_trans (div-mul-le_self n block) h

program-by-le : (i : Interruption) (n len unit : ℕ) → n ≤ len → program_by i n len unit ≤ len
program-by-le PowerLoss n len unit h = h
program-by-le Watchdog n len unit h = up_le n len unit h
program-by-le Failure n len unit h = h

erase-by-le : (i : Interruption) (n len block : ℕ) → n ≤ len → erase_by i n len block ≤ len
erase-by-le PowerLoss n len block h = down_le n len block h
erase-by-le Watchdog n len block h = up_le n len block h
erase-by-le Failure n len block h = down_le n len block h

pub program-landed-le : (j : Injection) (len unit : ℕ) → program_landed j len unit ≤ len
program-landed-le j len unit = program-by-le j.interruption (offered j.progress len) len unit (offered-le j.progress len)

pub erase-landed-le : (j : Injection) (len block : ℕ) → erase_landed j len block ≤ len
erase-landed-le j len block = erase-by-le j.interruption (offered j.progress len) len block (offered-le j.progress len)

-- ---- a program and an erase, as the code has both

-- a program's step is one byte: none is rounded away
program-cut : (i : Interruption) (n len unit : ℕ) → cut_by i n len 1 unit ≡ program_by i n len unit
unfolding rounded_down
program-cut PowerLoss n len unit = simp (div-one, mul-one)
program-cut Watchdog n len unit = refl
program-cut Failure n len unit = simp (div-one, mul-one)

pub program-landed-by : (j : Injection) (len unit : ℕ) → landed_by j len 1 unit ≡ program_landed j len unit
program-landed-by j len unit = program-cut j.interruption (offered j.progress len) len unit

erase-cut : (i : Interruption) (n len block : ℕ) → cut_by i n len block block ≡ erase_by i n len block
erase-cut PowerLoss n len block = refl
erase-cut Watchdog n len block = refl
erase-cut Failure n len block = refl

pub erase-landed-by : (j : Injection) (len block : ℕ) → landed_by j len block block ≡ erase_landed j len block
erase-landed-by j len block = erase-cut j.interruption (offered j.progress len) len block

cut-by-le : (i : Interruption) (n len step unit : ℕ) → n ≤ len → cut_by i n len step unit ≤ len
cut-by-le PowerLoss n len step unit h = down_le n len step h
cut-by-le Watchdog n len step unit h = up_le n len unit h
cut-by-le Failure n len step unit h = down_le n len step h

pub landed-by-le : (j : Injection) (len step unit : ℕ) → landed_by j len step unit ≤ len
landed-by-le j len step unit = cut-by-le j.interruption (offered j.progress len) len step unit (offered-le j.progress len)

-- what the code lands is what each one's definition says
pub landed-so : (j : Injection) (len step unit x : ℕ) → x ≡ landed_by j len step unit
    → (step ≡ 1 → x ≡ program_landed j len unit) × (step ≡ unit → x ≡ erase_landed j len unit)
landed-so j len step unit x e = (
  (λ s. e ∙ ap (λ k. landed_by j len k unit) s ∙ program-landed-by j len unit),
  (λ s. e ∙ ap (λ k. landed_by j len k unit) s ∙ erase-landed-by j len unit),
)
