-- `session_entries::store_entry` meets its contract: where the index is below the count, the entry is stored; where it is not, nothing
-- is. Assumes nothing.
use mathlib.Core.Path.{refl, sym}
use lib.ListN.{length}
use lib.Seq.{set_out}
use Rattle.session_entries.proofs.Refused.{place_inside, place-outside}
use Rattle.session_entries.proofs.store_entry.Goals as goal

pub returns-then-index-log : goal.returns-then-index-log
returns-then-index-log c =
    (place-outside c.args.index (length c.args.log.now) c.if-index-log.true, sym (set_out c.args.log.now c.args.index c.args.entry c.if-index-log.true))

pub returns : goal.returns
returns c = (place_inside c.args.index (length c.args.log.now) c.if-index-log.false, refl)
