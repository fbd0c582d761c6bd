-- `session_marks_exported::session_begin` meets its contract: the call told what it leaves, and its counters were put back. Assumes nothing.
use Rattle.std.proofs.Common.{rules}
use Rattle.session.specs.declared.Counters.{Counters}
use Rattle.session.specs.Log.{marks_of}
use Rattle.session.specs.Marks.{begun}
use Rattle.session_marks_exported.proofs.Told.{marks-told}
use Rattle.session_marks_exported.proofs.session_begin.Goals as goal

pub returns : goal.returns
returns c =
    let lent = marks_of c.args.codes.now c.args.ids.now c.args.places.now in
    let t = marks-told (λ (v : Counters). begun v c.args.id lent) _ _ c.counters_of-counters.ensures _ _ _ _ _ c.begin_record-called.ensures.left c.put_back.ensures in
    search rules
