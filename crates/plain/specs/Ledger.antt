-- Document 01, "Demand 3": the ledger of the plain run. Definitions only; assumes nothing.
use Rattle.std.specs.Prelude.{Bool, true, false, not, ◌&&◌, ◌||◌, List, [], ◌∷◌, ℕ, length, take, drop, eqb}
use Rattle.basics.specs.Parts.{part}
use Rattle.device.specs.Media.{any_pair, unequal}
use Rattle.model.specs.Ledger.{Entry}
use Rattle.records.specs.Records.{Label, begin, end, RecordMark, Asked, Kept, any, records_of, ledger_by}
use Rattle.plain.specs.Plain.{Kind, is_program, is_erase, is_barrier, Op, Run}

abbrev pub is_write_kind : Kind → Bool
is_write_kind is_program = true
is_write_kind is_erase = true
is_write_kind is_barrier = false

-- a program or an erase
abbrev pub is_write : Op → Bool
is_write o = is_write_kind o.kind

-- a barrier that answered 0
unfoldable pub orders : Op → Bool
orders o = not (is_write o) && eqb o.answer 0

-- "A cell changed if it differs before and after.": of the cells that landed
unfoldable pub changed : Op → Bool
changed o = any_pair unequal (take o.landed o.old) (take o.landed o.want)

-- "Bytes that did not land are withheld if, at the end of the run, the media differ there from what the write would have left; an erase,
-- if its unlanded part is not all 0xFF."
unfoldable pub withheld : (media : List ℕ) → Op → Bool
withheld media o = any_pair unequal (drop o.landed (part media o.offset (length o.want))) (drop o.landed o.want)

abbrev pub asked : (media : List ℕ) → Asked Op
asked media = record { writes = is_write; changed = changed; withheld = withheld media; orders = orders }

-- "A record holds the operations taken from a taken begin to the next taken mark or the list's end."
abbrev pub records : Run → List (Kept Op)
records r = records_of r.ops r.marks

-- "The ledger lists the taken begins in order, state and torn by the rule above"
unfoldable pub ledger : Run → List Entry
ledger r = ledger_by (asked r.media) r.ops r.marks

-- the ids of the taken begins, in order
abbrev pub id_of : Label → List ℕ → List ℕ
id_of (begin id) rest = id ∷ rest
id_of end rest = rest

unfoldable pub begun : List RecordMark → List ℕ
begun [] = []
begun (m ∷ ms) = id_of m.label (begun ms)

-- no program or erase stands behind a barrier
unfoldable pub in_order : List Op → Bool
in_order [] = true
in_order (o ∷ os) = (is_write o || not (any is_write os)) && in_order os
