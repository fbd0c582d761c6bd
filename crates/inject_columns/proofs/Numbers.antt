-- The answer has document 01's number. Assumes nothing.
use mathlib.Core.Path.{◌≡◌, refl}
use mathlib.Core.List.{List}
use Prim.Native.Nat.{ℕ, zero, suc}
use native.Mathlib.Nat.{suc-ne-zero}
use borrow.Author.Tests.{ne_eqb}
use Rattle.basics.specs.Replies.{number_in}
use Rattle.storage.specs.declared.Geometry.{Geometry}
use Rattle.inject.specs.declared.Injection.{Injection}
use Rattle.inject.specs.Answers.{points_of}
use Rattle.inject_columns.specs.Answers.{PointColumns, write_test, listed_by, listed}

listed-by : (number : ℕ) (ps : List Injection) (c : PointColumns) → number_in (λ n. n) (listed_by number ps c).reply ≡ number
listed-by zero ps c = refl
listed-by (suc n) ps c = rw (ne_eqb (suc n) 0 (suc-ne-zero n))

pub write-number : (g : Geometry) (kinds offsets lens : List ℕ) (c : PointColumns)
    → number_in (λ n. n) (listed g kinds offsets lens c).reply ≡ write_test g kinds offsets lens c
write-number g kinds offsets lens c = listed-by (write_test g kinds offsets lens c) (points_of g kinds offsets lens) c
