-- `session_exported::session_program` meets its contract: the call told what it leaves, and its counters were put back. Assumes nothing.
use Rattle.std.proofs.Common.{rules}
use Rattle.session_exported.proofs.SessionNumbers.{program-told}
use Rattle.session_exported.proofs.session_program.Goals as goal

pub returns : goal.returns
returns c = let t = program-told _ _ c.told_of-given.ensures _ _ c.counters_of-counters.ensures _ _ _ _ c.put_back.ensures _ _ _ _ _ _ _ _ c.program-called.ensures.left in search rules
