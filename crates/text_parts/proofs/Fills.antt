-- The lines of runs put one after the other: a turn of the loop, and its ways out.
--     turn, stop, done     a line was put, a line was refused, no run is left
-- Assumes nothing.
use mathlib.Core.Path.{◌≡◌, sym, ap, ◌∙◌}
use mathlib.Core.List.{List}
use Prim.Native.Nat.{ℕ, suc, ◌+◌, ◌-◌, ◌≤◌, ◌<◌}
use native.Mathlib.Omega.{arith}
use Rattle.std.specs.Prelude.{true, false, is_err, IsErr, Result, Ok, Err, Ok as UpTo, Err as NoLine}
use Rattle.refusals.specs.declared.Refusal.{Refusal}
use Rattle.refusals.specs.Numbers.{number_of}
use Rattle.pieces.specs.declared.Cursor.{Cursor as Lent}
use Rattle.lines.specs.Answers.{Put}
use Rattle.lines.specs.Written.{written}
use Rattle.run_lines.specs.RunLine.{run_put}
use Rattle.text_parts.specs.Inner.{FillLeft, filled_at, fill_runs}

module _ (w : (place at : ℕ) → List ℕ → Put) where
  pub fill_on : (n place at next : ℕ) (out new : List ℕ) → w place at out ≡ run_put (UpTo next) new → fill_runs w (suc n) place at out ≡ fill_runs w n (suc place) next new
  unfolding fill_runs
  fill_on n place at next out new e = rw e

  pub fill_stop : (n place at number : ℕ) (out new : List ℕ) → w place at out ≡ run_put (NoLine number) new → fill_runs w (suc n) place at out ≡ filled_at place at new
  unfolding fill_runs
  fill_stop n place at number out new e = rw e

  fill_none : (n place at : ℕ) (out : List ℕ) → n ≡ 0 → fill_runs w n place at out ≡ filled_at place at out
  unfolding fill_runs
  fill_none n place at out e = rw e

  module _ (whole : FillLeft) (runs place at : ℕ) (out : List ℕ) (e : fill_runs w (runs - place) place at out ≡ whole) where
    one_more : place < runs → fill_runs w (suc (runs - (place + 1))) place at out ≡ whole
    one_more b = let s : suc (runs - (place + 1)) ≡ runs - place = omega arith in rw s e

    module _ (b : place < runs) where
      pub turn : (r : Result (Unit {0}) Refusal) (to : Lent) → written r to ≡ w place at out → is_err r ≡ false
          → fill_runs w (runs - (place + 1)) (place + 1) to.at to.out.now ≡ whole
      turn (Ok x) to p q =
          let s : place + 1 ≡ suc place = omega arith in
          ap (λ (m : ℕ). fill_runs w (runs - (place + 1)) m to.at to.out.now) s
          ∙ sym (fill_on (runs - (place + 1)) place at to.at out to.out.now (sym p))
          ∙ one_more b
      turn (Err e) to p q = absurd (let z : true ≡ false = q in cc)

      pub stop : (r : Result (Unit {0}) Refusal) (to : Lent) → written r to ≡ w place at out → is_err r ≡ true → (IsErr r → to.at ≡ at)
          → filled_at place to.at to.out.now ≡ whole
      stop (Ok x) to p q z = absurd (let y : false ≡ true = q in cc)
      stop (Err e) to p q z =
          ap (λ (n : ℕ). filled_at place n to.out.now) (z q)
          ∙ sym (fill_stop (runs - (place + 1)) place at (number_of e) out to.out.now (sym p))
          ∙ one_more b

    pub done : runs ≤ place → place ≤ runs → filled_at runs at out ≡ whole
    done b l =
        let s : runs ≡ place = omega arith in
        ap (λ (p : ℕ). filled_at p at out) s ∙ sym (fill_none (runs - place) place at out (omega arith)) ∙ e
