-- Document 01, "Demand 3": "A record holds the operations taken from a taken begin to the next taken mark or the list's end." Records by
-- the order of events alone, without places. Definitions only; assumes nothing.
use Rattle.std.specs.Prelude.{List, [], ◌∷◌, ℕ, suc}
use Rattle.records.specs.Records.{Label, begin, end, RecordMark, Kept}

-- an operation that was taken, or a mark
pub data Event (A : Type 0) : Type 0 where
  took : A → Event A
  noted : Label → Event A

module _ {A : Type 0} where
  -- the operations
  unfoldable pub ops_in : List (Event A) → List A
  ops_in [] = []
  ops_in (took o ∷ es) = o ∷ ops_in es
  ops_in (noted l ∷ es) = ops_in es

  -- those up to the next mark or the list's end, and those behind it
  unfoldable pub to_mark : List (Event A) → List A
  to_mark [] = []
  to_mark (took o ∷ es) = o ∷ to_mark es
  to_mark (noted l ∷ es) = []

  unfoldable pub behind_mark : List (Event A) → List A
  behind_mark [] = []
  behind_mark (took o ∷ es) = behind_mark es
  behind_mark (noted l ∷ es) = ops_in es

  -- a begin has a record, an end has none
  unfoldable pub records_in : List (Event A) → List (Kept A)
  records_in [] = []
  records_in (took o ∷ es) = records_in es
  records_in (noted (begin id) ∷ es) = record { id = id; own = to_mark es; later = behind_mark es } ∷ records_in es
  records_in (noted end ∷ es) = records_in es

  -- the marks as a run holds them, each with the count of operations before it; n came before
  unfoldable pub marks_after : (n : ℕ) → List (Event A) → List RecordMark
  marks_after n [] = []
  marks_after n (took o ∷ es) = marks_after (suc n) es
  marks_after n (noted l ∷ es) = record { label = l; place = n } ∷ marks_after n es
