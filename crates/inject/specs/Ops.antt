-- A list of operations, as lent columns of numbers hold it: a kind, an offset and a length for each.
-- Definitions only; assumes nothing.
use Rattle.std.specs.Prelude.{Bool, true, ◌&&◌, cond, List, [], ◌∷◌, ℕ, eqb, ltb}
use Rattle.inject.specs.declared.Op.{Op}
use Rattle.inject.specs.declared.Op.TheVariants.{Program, Erase, Barrier}

-- a row of the columns: kind 0 is a program, 1 an erase, 2 a barrier, which has no span
abbrev pub op_of : (kind offset len : ℕ) → Op
op_of kind offset len = cond (eqb kind 0) (Program offset len) (cond (eqb kind 1) (Erase offset len) Barrier)

-- the operations of three columns, row by row
unfoldable pub ops_of : (kinds offsets lens : List ℕ) → List Op
ops_of [] offsets lens = []
ops_of (kind ∷ kinds) [] lens = []
ops_of (kind ∷ kinds) (offset ∷ offsets) [] = []
ops_of (kind ∷ kinds) (offset ∷ offsets) (len ∷ lens) = op_of kind offset len ∷ ops_of kinds offsets lens

-- every operation code has a meaning
unfoldable pub known : List ℕ → Bool
known [] = true
known (kind ∷ kinds) = ltb kind 3 && known kinds

-- how many bytes an operation spans
abbrev pub len_of : Op → ℕ
len_of (Program offset len) = len
len_of (Erase offset len) = len
len_of Barrier = 0
