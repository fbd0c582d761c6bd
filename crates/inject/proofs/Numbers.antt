-- Each answer has document 01's number, and a row of the columns tells its point. Assumes nothing.
use mathlib.Core.Path.{◌≡◌, refl, ap}
use mathlib.Core.List.{List}
use Prim.Native.Nat.{ℕ, zero, suc}
use native.Mathlib.Nat.{suc-ne-zero}
use native.Mathlib.Omega.{arith}
use borrow.Author.Tests.{ne_eqb}
use Rattle.basics.specs.Replies.{number_in, answered}
use Rattle.storage.specs.declared.Geometry.{Geometry}
use Rattle.inject.specs.declared.Progress.{Progress}
use Rattle.inject.specs.declared.Progress.TheVariants.{None, Bytes, Whole}
use Rattle.inject.specs.declared.Interruption.{Interruption}
use Rattle.inject.specs.declared.Interruption.TheVariants.{PowerLoss, Watchdog, Failure}
use denote.Enum.Declared.{tag_of}
use Rattle.inject.specs.contracts.Interruption.{the_type}
use Rattle.inject.specs.declared.Injection.{Injection}
use Rattle.inject.specs.Points.{point}
use Rattle.inject.specs.Answers.{count_test, counted, place_test, found, progress_code, count_code, interruption_code}

-- ---- an answer's number is the one that the tests give

pub answered-number : {T : Type 0} → (n : ℕ) (x : T) → number_in (λ k. k) (answered n x) ≡ n
answered-number zero x = refl
answered-number (suc n) x = rw (ne_eqb (suc n) 0 (suc-ne-zero n))

module _ (g : Geometry) (kinds offsets lens : List ℕ) where
  pub count-number : number_in (λ n. n) (counted g kinds offsets lens) ≡ count_test g kinds offsets lens
  count-number = answered-number (count_test g kinds offsets lens) _

  pub place-number : (place : ℕ) → number_in (λ n. n) (found g kinds offsets lens place) ≡ place_test g kinds offsets lens place
  place-number place = answered-number (place_test g kinds offsets lens place) _

-- ---- `as u8` gives an interruption's code

pub interruption-tag : (w : Interruption) → tag_of the_type w ≡ interruption_code w
interruption-tag PowerLoss = refl
interruption-tag Watchdog = refl
interruption-tag Failure = refl

-- ---- the codes lose nothing: two points with the same row are the same point

same-progress : (a b : Progress) → progress_code a ≡ progress_code b → count_code a ≡ count_code b → a ≡ b
same-progress None None p c = refl
same-progress None (Bytes n) p c = absurd (omega (arith, p))
same-progress None Whole p c = absurd (omega (arith, p))
same-progress (Bytes m) None p c = absurd (omega (arith, p))
same-progress (Bytes m) (Bytes n) p c = ap Bytes c
same-progress (Bytes m) Whole p c = absurd (omega (arith, p))
same-progress Whole None p c = absurd (omega (arith, p))
same-progress Whole (Bytes n) p c = absurd (omega (arith, p))
same-progress Whole Whole p c = refl

same-interruption : (a b : Interruption) → interruption_code a ≡ interruption_code b → a ≡ b
same-interruption PowerLoss PowerLoss e = refl
same-interruption PowerLoss Watchdog e = absurd (omega (arith, e))
same-interruption PowerLoss Failure e = absurd (omega (arith, e))
same-interruption Watchdog PowerLoss e = absurd (omega (arith, e))
same-interruption Watchdog Watchdog e = refl
same-interruption Watchdog Failure e = absurd (omega (arith, e))
same-interruption Failure PowerLoss e = absurd (omega (arith, e))
same-interruption Failure Watchdog e = absurd (omega (arith, e))
same-interruption Failure Failure e = refl

pub same_row : (p q : Injection) → p.op ≡ q.op → progress_code p.progress ≡ progress_code q.progress
    → count_code p.progress ≡ count_code q.progress → interruption_code p.interruption ≡ interruption_code q.interruption → p ≡ q
same_row p q o a b i =
    let x = same-progress p.progress q.progress a b in
    let y = same-interruption p.interruption q.interruption i in
    same-fields p.op q.op p.progress q.progress p.interruption q.interruption o x y
  where
    same-fields : (a b : ℕ) (x y : Progress) (v w : Interruption) → a ≡ b → x ≡ y → v ≡ w → point a v x ≡ point b w y
    same-fields a b x y v w p q r = cc
