-- `session_entries::row_of` meets its contract: each field is its cell. Assumes nothing.
use Rattle.session_entries.specs.Entries.{row_of}
use Rattle.session_entries.proofs.row_of.Goals as goal

pub returns : goal.returns
unfolding row_of
returns c = λ i. record {
  kind = c.cell.ensures i;
  offset = c.cell-2.ensures i;
  len = c.cell-3.ensures i;
  digest = c.cell-4.ensures i;
  changed = c.cell-5.ensures i;
  answered = c.cell-6.ensures i;
}
