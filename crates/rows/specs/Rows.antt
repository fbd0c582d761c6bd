-- Document 01, "Numbers from the input": what is tested of a table's rows before they are run. Definitions only; assumes nothing.
use Rattle.std.specs.Prelude.{Bool, false, ◌&&◌, ◌||◌, List, [], ◌∷◌, ℕ, ◌+◌, length, take, eqb, leb, ltb}
use Rattle.basics.specs.Tests.{flag, unless, refuse_if, first_of}
use Rattle.storage.specs.declared.Geometry.{Geometry}
use Rattle.storage.specs.Geometry.{geometry_test}
use Rattle.model.specs.Columns.{all_up_to}
use Rattle.session.specs.Tests.{size_test}
use Rattle.script.specs.Columns.{Columns, uneven_of}

-- "columns of one list unequal"
abbrev pub rows_uneven_of : Columns → Bool
rows_uneven_of k = uneven_of k

-- some program's bytes are not all in a pool of this length; a program's kind is 0
unfoldable pub any_outside : (pool : ℕ) → (kinds lens starts : List ℕ) → Bool
any_outside pool [] ls ss = false
any_outside pool (k ∷ ks) [] ss = false
any_outside pool (k ∷ ks) (l ∷ ls) [] = false
any_outside pool (k ∷ ks) (l ∷ ls) (s ∷ ss) = eqb k 0 && ltb pool (s + l) || any_outside pool ks ls ss

-- ---- the tests: "the lowest number comes first", 1 to 3, 7, 12, 13

unfoldable pub lengths_number : Geometry → (media copy : ℕ) → (uneven : Bool) → ℕ
lengths_number g media copy uneven = first_of (geometry_test g ∷ size_test g media copy ∷ refuse_if uneven 12 ∷ [])

-- a kind without a meaning, one above `most`, among the rows counted; columns too short, for the run or for the rows; bytes outside
-- the pool
unfoldable pub contents_number : (most rows : ℕ) → Columns → (short : Bool) → ℕ
contents_number most rows k short =
    first_of
    (unless (all_up_to most (take rows k.kinds)) 12
    ∷ refuse_if (short || ltb (length k.kinds) rows || any_outside (length k.pool) (take rows k.kinds) (take rows k.seconds) (take rows k.starts)) 13
    ∷ [])

-- all of them; `uneven` and `short` tell of the other columns that the run is lent
unfoldable pub rows_number : Geometry → (media copy : ℕ) → (uneven short : Bool) → (most rows : ℕ) → Columns → ℕ
rows_number g media copy uneven short most rows k =
    first_of (lengths_number g media copy (uneven || rows_uneven_of k) ∷ contents_number most rows k short ∷ [])

-- ---- room for a ledger

-- a mark of this kind is taken where so many were taken before: a session takes 512
abbrev pub takes : (marks kind : ℕ) → Bool
takes marks kind = leb 3 kind && ltb marks 512

-- how many begins are taken of these kinds, where so many marks were taken before
unfoldable pub begins_from : (marks : ℕ) → (kinds : List ℕ) → ℕ
begins_from marks [] = 0
begins_from marks (k ∷ ks) = flag (takes marks k && eqb k 3) + begins_from (marks + flag (takes marks k)) ks
