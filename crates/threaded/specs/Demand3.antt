-- Document 01, "Demand 3", on one page: the four theorems, about the session's own definitions, for every told, fresh session and list of
-- calls, uncut or cut once at any index with any progress. What the words mean: `plain` specs/Plain has the plain run, specs/Ledger its
-- ledger, specs/Claims what 2 to 4 say of a ledger; `Threaded` and `Claim` here have the list of calls through the session. The proof is
-- `demand-3` in proofs/Demand.antt. Definitions only; assumes nothing.
use Rattle.std.specs.Prelude.{None as Nothing, Some as At, List, ◌<◌}
use Rattle.inject.specs.declared.Injection.{Injection}
use Rattle.model.specs.Ledger.{Entry}
use Rattle.id_columns.specs.Ids.{Distinct}
use Rattle.session.specs.declared.Told.{Told}
use Rattle.session.specs.Armed.{cut_by}
use Rattle.plain.specs.Plain.{Call}
use Rattle.plain.specs.Ledger.{records, begun}
use Rattle.plain.specs.Claims.{CutOnce, OnlyTheLast, AcceptsExactly, AllInOrder, Keeps}
use Rattle.threaded.specs.Threaded.{Session, threaded, session_ledger}
use Rattle.threaded.specs.Claim.{plain_of, SameAsPlain}

-- the ledger of a session after these calls
abbrev pub ledger_after : Told → Session → List Call → List Entry
ledger_after t s xs = session_ledger t (threaded t s xs).session

pub record Demand3 (t : Told) (s : Session) (xs : List Call) : Type 0 where
  -- 1. Answers, media, stop, operation count and ledger are the plain run's. Of failures too.
  pub same : SameAsPlain t s xs
  -- 2. Only the last committed record can be torn.
  pub only-the-last : CutOnce t.armed → OnlyTheLast (ledger_after t s xs)
  -- 3. With nothing dispatched, the bank count absent or one, and the taken begins' ids all different, the verdict accepts a history
  -- exactly if it is the first n committed ids, for an n from the last acknowledged one's place to the number not torn; there is one.
  pub accepts-exactly : CutOnce t.armed → Distinct (begun (plain_of t s xs).marks) → AcceptsExactly (ledger_after t s xs)
  -- 4. If in the uncut run no record has a program or erase after a barrier of its own, what is acknowledged in the run cut at one operation
  -- is acknowledged in every run cut at a later one,
  pub later-cuts-keep : (j k : Injection) → CutOnce (At j) → CutOnce (At k) → j.op < k.op → AllInOrder (records (plain_of (cut_by t Nothing) s xs))
      → Keeps (ledger_after (cut_by t (At j)) s xs) (ledger_after (cut_by t (At k)) s xs)
  -- and in the uncut run.
  pub uncut-keeps : (j : Injection) → CutOnce (At j) → AllInOrder (records (plain_of (cut_by t Nothing) s xs))
      → Keeps (ledger_after (cut_by t (At j)) s xs) (ledger_after (cut_by t Nothing) s xs)
