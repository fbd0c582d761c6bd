-- The plain run and its ledger on small lists of calls, computed: document 01's example of a sweep (its runs without a failure), and a
-- list for each edge of the theorems. Assumes nothing.
use mathlib.Core.Path.{◌≡◌, refl}
use mathlib.Core.Bool.{Bool, false}
use mathlib.Core.List.{List, [], ◌∷◌, zip_with}
use Prim.Native.Nat.{ℕ}
use lib.Count.{ones}
use lib.ListN.{length}
use Rattle.basics.specs.Tests.{unless, refuse_if, first_of}
use Rattle.basics.specs.Parts.{part}
use Rattle.storage.specs.Geometry.{geometry_of, geometry_test}
use Rattle.storage.specs.Span.{span_test}
use Rattle.device.specs.declared.OneWayBits.TheVariants.{Absorbed}
use Rattle.device.specs.Media.{new_media, anded, any_pair, would_set_a_bit}
use Rattle.inject.specs.declared.Progress.{Progress}
use Rattle.inject.specs.declared.Progress.TheVariants.{None, Bytes, Whole}
use Rattle.inject.specs.declared.Interruption.{Interruption}
use Rattle.inject.specs.declared.Interruption.TheVariants.{PowerLoss, Watchdog}
use Rattle.landing.specs.declared.Stop.{Stop}
use Rattle.landing.specs.declared.Stop.TheVariants.{Running, PowerLost, CoreReset}
use Rattle.landing.specs.Landed.{rounded_up}
use Rattle.model.specs.declared.Durability.{Durability}
use Rattle.model.specs.declared.Durability.TheVariants.{Attempted, PossiblyDurable, Acknowledged}
use Rattle.model.specs.Ledger.{Entry, is_committed, picked}
use Rattle.session.specs.Armed.{Armed, told_with}
use Rattle.std.specs.Prelude.{None as Nothing, Some as At}
use Rattle.session.specs.Tests.{operation_test, mark_test}
use Rattle.session_program.specs.Program.{span_number, bit_test}
use Rattle.records.specs.Records.{begin, end, any, record_at, records_to, behind, judged, entry_by, ledger_by}
use Rattle.plain.specs.Plain.{program, erase, barrier, Call, act, mark, Run, act_test, refusal, mark_refusal, wholly, landed_by, completed_by, ending_by, as_cut, after, taken_by, step, run, plain}
use Rattle.plain.specs.Ledger.{orders, changed, withheld, ledger, in_order}
use Rattle.plain.specs.Claims.{any_acknowledged, last_acknowledged, untorn}

-- a run on a new device of four cells, one block with units of one
abbrev run_of : Armed → List Call → Run
run_of a xs = plain (told_with (geometry_of 4 4 1 1) Absorbed a) (new_media 4) xs

abbrev at : ℕ → Progress → Interruption → Armed
at index progress interruption = At (record { op = index; progress = progress; interruption = interruption })

abbrev entry : ℕ → Durability → (torn : Bool) → Entry
entry id state torn = record { id = id; state = state; mark = torn }

-- ---- document 01's example of a sweep: the lines `G 4 4 1 1 a s`, `B 7`, `P 0 00`, `S`, `N`

abbrev calls : List Call
calls = mark (begin 7) ∷ act (program 0 (0x00 ∷ [])) ∷ act barrier ∷ mark end ∷ []

-- a run: its stop, the operations recorded, and record 7's state
pub record Swept (a : Armed) (stop : Stop) (operations : ℕ) (state : Durability) : Type 0 where
  pub stopped : (run_of a calls).stop ≡ stop
  pub counted : length (run_of a calls).ops ≡ operations
  pub listed : ledger (run_of a calls) ≡ entry 7 state false ∷ []

pub record Sweep : Type 0 where
  pub run0 : Swept Nothing Running 2 Acknowledged
  pub run1 : Swept (at 0 None PowerLoss) PowerLost 1 Attempted
  pub run2 : Swept (at 0 Whole PowerLoss) PowerLost 1 PossiblyDurable
  pub run3 : Swept (at 1 Whole PowerLoss) PowerLost 2 Acknowledged
  pub run4 : Swept (at 0 None Watchdog) CoreReset 1 Attempted
  pub run5 : Swept (at 0 Whole Watchdog) CoreReset 1 PossiblyDurable
  pub run6 : Swept (at 1 None Watchdog) CoreReset 2 PossiblyDurable
  pub run7 : Swept (at 1 Whole Watchdog) CoreReset 2 PossiblyDurable

-- ---- theorem 3's two ends: how many committed ids a history has at least and at most

pub record Between (l : List Entry) (least most : ℕ) : Type 0 where
  pub from : last_acknowledged (picked is_committed l) ≡ least
  pub to : untorn (picked is_committed l) ≡ most

-- two bytes, of which the cut lets one land
abbrev two_bytes : List Call
two_bytes = mark (begin 7) ∷ act (program 0 (0x00 ∷ 0x00 ∷ [])) ∷ []

pub record Accepted : Type 0 where
  pub acknowledged : Between (ledger (run_of Nothing calls)) 1 1
  pub attempted : Between (ledger (run_of (at 0 None PowerLoss) calls)) 0 0
  pub possibly-durable : Between (ledger (run_of (at 0 Whole PowerLoss) calls)) 0 1
  pub torn : Between (ledger (run_of (at 0 (Bytes 1) PowerLoss) two_bytes)) 0 0

-- ---- edges

-- the byte that does not land would have changed nothing
abbrev same_byte : List Call
same_byte = mark (begin 7) ∷ act (program 0 (0x00 ∷ 0xff ∷ [])) ∷ []

-- an erase in the next record takes back what the first one wrote
abbrev taken_back : List Call
taken_back = mark (begin 7) ∷ act (program 0 (0x00 ∷ [])) ∷ mark (begin 8) ∷ act (erase 0 4) ∷ act barrier ∷ []

-- a record that writes behind a barrier of its own
abbrev unordered : List Call
unordered = mark (begin 7) ∷ act (program 0 (0x00 ∷ [])) ∷ act barrier ∷ act (program 1 (0x00 ∷ [])) ∷ []

pub record Edges : Type 0 where
  -- "A begin or end not refused is taken and answers 0, stopped or not."
  pub begun-after-a-stop : ledger (run_of (at 0 None PowerLoss) taken_back) ≡ entry 7 Attempted false ∷ entry 8 Attempted false ∷ []
  -- a byte that did not land is not withheld where the media hold what it would have left
  pub missing-and-held : ledger (run_of (at 0 (Bytes 1) PowerLoss) same_byte) ≡ entry 7 PossiblyDurable false ∷ []
  -- what landed is not withheld, whatever a later write leaves there
  pub landed-and-taken-back : ledger (run_of Nothing taken_back) ≡ entry 7 Acknowledged false ∷ entry 8 Acknowledged false ∷ []
  -- without its order theorem 4 fails: the run cut at the barrier acknowledges what the uncut run does not
  pub unordered-cut : ledger (run_of (at 1 Whole PowerLoss) unordered) ≡ entry 7 Acknowledged false ∷ []
  pub unordered-uncut : ledger (run_of Nothing unordered) ≡ entry 7 PossiblyDurable false ∷ []
  pub not-in-order : in_order (run_of Nothing unordered).ops ≡ false

pub record Examples : Type 0 where
  pub sweep : Sweep
  pub accepted : Accepted
  pub edges : Edges

pub examples : Examples
unfolding ones zip_with unless refuse_if first_of part geometry_test span_test anded any_pair would_set_a_bit rounded_up picked operation_test mark_test span_number bit_test any record_at records_to behind judged entry_by ledger_by act_test refusal mark_refusal wholly landed_by completed_by ending_by as_cut after taken_by step run plain orders changed withheld ledger in_order any_acknowledged last_acknowledged
examples = record {
  sweep = record {
    run0 = record { stopped = refl; counted = refl; listed = refl };
    run1 = record { stopped = refl; counted = refl; listed = refl };
    run2 = record { stopped = refl; counted = refl; listed = refl };
    run3 = record { stopped = refl; counted = refl; listed = refl };
    run4 = record { stopped = refl; counted = refl; listed = refl };
    run5 = record { stopped = refl; counted = refl; listed = refl };
    run6 = record { stopped = refl; counted = refl; listed = refl };
    run7 = record { stopped = refl; counted = refl; listed = refl };
  };
  accepted = record {
    acknowledged = record { from = refl; to = refl };
    attempted = record { from = refl; to = refl };
    possibly-durable = record { from = refl; to = refl };
    torn = record { from = refl; to = refl };
  };
  edges = record {
    begun-after-a-stop = refl;
    missing-and-held = refl;
    landed-and-taken-back = refl;
    unordered-cut = refl;
    unordered-uncut = refl;
    not-in-order = refl;
  };
}
