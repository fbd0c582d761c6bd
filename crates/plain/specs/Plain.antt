-- Document 01, "Demand 3": the plain run. It is fed what the start was told, the media as the start left them, and each call's kind, id,
-- span and bytes alone; it knows no column, no digest and no copy. Definitions only; assumes nothing.
use Rattle.std.specs.Prelude.{Bool, cond, List, [], ◌∷◌, ◌++◌, ℕ, ◌+◌, length, take, drop, replicate, eqb, None as Nothing, Some as At}
use Rattle.basics.specs.Tests.{first_of}
use Rattle.basics.specs.Parts.{part}
use Rattle.storage.specs.declared.Geometry.{Geometry}
use Rattle.storage.specs.Geometry.{geometry_test}
use Rattle.storage.specs.Span.{erase_test}
use Rattle.device.specs.Media.{ff, anded}
use Rattle.inject.specs.declared.Injection.{Injection}
use Rattle.landing.specs.declared.Stop.{Stop}
use Rattle.landing.specs.declared.Stop.TheVariants.{Running}
use Rattle.landing.specs.Ending.{Ending, ending_of, stop_number}
use Rattle.landing.specs.Landed.{program_landed, erase_landed, ran}
use Rattle.session.specs.declared.Told.{Told}
use Rattle.session.specs.Armed.{Armed}
use Rattle.session.specs.Tests.{operation_test, mark_test}
use Rattle.session_program.specs.Program.{span_number, bit_test}
use Rattle.records.specs.Records.{Label, RecordMark}

-- ---- calls

-- the three operations
pub data Act : Type 0 where
  program : (offset : ℕ) → (bytes : List ℕ) → Act
  erase : (offset len : ℕ) → Act
  barrier : Act

-- an operation, or a mark: begin with its id, or end
pub data Call : Type 0 where
  act : Act → Call
  mark : Label → Call

-- ---- what the run holds

pub data Kind : Type 0 where
  is_program is_erase is_barrier : Kind

-- an operation taken: the cells of its span before it, what it would leave there, how many leading bytes landed, and its answer
pub record Op : Type 0 where
  pub kind : Kind
  pub offset : ℕ
  pub old : List ℕ
  pub want : List ℕ
  pub landed : ℕ
  pub answer : ℕ

-- "It holds media, at first as the start left them, the operations taken, their count, marks and a stop": the count is the length of
-- the operations; `answers` has the answer to each call so far
pub record Run : Type 0 where
  pub answers : List ℕ
  pub media : List ℕ
  pub ops : List Op
  pub marks : List RecordMark
  pub stop : Stop

-- ---- the tests that refuse a call: "stopped, then geometry, then 20, then 27"

unfoldable pub act_test : Told → (media : List ℕ) → (count : ℕ) → Act → ℕ
act_test t media count (program offset bytes) =
    first_of (span_number t offset (length bytes) ∷ bit_test t.bits media offset bytes ∷ operation_test count ∷ [])
act_test t media count (erase offset len) = first_of (erase_test t.geometry offset len ∷ operation_test count ∷ [])
act_test t media count barrier = first_of (geometry_test t.geometry ∷ operation_test count ∷ [])

unfoldable pub refusal : Told → Run → Act → ℕ
refusal t r a = first_of (stop_number r.stop ∷ act_test t r.media (length r.ops) a ∷ [])

-- a mark is refused by 28 alone: "A begin or end not refused is taken and answers 0, stopped or not."
unfoldable pub mark_refusal : Run → ℕ
mark_refusal r = mark_test (length r.marks) 1

-- ---- an operation, whole and as cut

-- "Otherwise it lands whole and answers 0."
unfoldable pub wholly : (media : List ℕ) → Act → Op
wholly media (program offset bytes) = record {
  kind = is_program;
  offset = offset;
  old = part media offset (length bytes);
  want = anded (part media offset (length bytes)) bytes;
  landed = length (anded (part media offset (length bytes)) bytes);
  answer = 0;
}
wholly media (erase offset len) =
    record { kind = is_erase; offset = offset; old = part media offset len; want = replicate len ff; landed = length (replicate len ff); answer = 0 }
wholly media barrier = record { kind = is_barrier; offset = 0; old = []; want = []; landed = 0; answer = 0 }

-- "as many leading bytes land as said above": of an operation of a kind and a length
unfoldable pub landed_by : Geometry → Injection → Kind → (len : ℕ) → ℕ
landed_by g j is_program len = program_landed j len g.program_size
landed_by g j is_erase len = erase_landed j len g.erase_size
landed_by g j is_barrier len = 0

-- "If the landed length equals the length, the operation completed."; of a barrier its progress tells
unfoldable pub completed_by : Injection → Kind → (landed len : ℕ) → Bool
completed_by j is_program landed len = eqb landed len
completed_by j is_erase landed len = eqb landed len
completed_by j is_barrier landed len = ran j.progress

-- "the table gives answer and stop"
unfoldable pub ending_by : Geometry → Injection → Op → Ending
ending_by g j o =
    ending_of j.interruption (completed_by j o.kind (landed_by g j o.kind (length o.want)) (length o.want))

-- an operation at the cut's index
unfoldable pub as_cut : Geometry → Injection → Op → Op
as_cut g j o = record {
  kind = o.kind;
  offset = o.offset;
  old = o.old;
  want = o.want;
  landed = landed_by g j o.kind (length o.want);
  answer = (ending_by g j o).answer;
}

-- "as many leading bytes land ..., the rest stay old"
unfoldable pub after : Op → (media : List ℕ) → List ℕ
after o media = take o.offset media ++ (take o.landed o.want ++ drop (o.offset + o.landed) media)

-- ---- a call, and a list of calls

-- "A call that its tests refuse answers their number and changes nothing."
abbrev pub refused : Run → (number : ℕ) → Run
refused r n = record { answers = r.answers ++ (n ∷ []); media = r.media; ops = r.ops; marks = r.marks; stop = r.stop }

-- "taken; its number is the count, which then grows by 1"
abbrev pub taken : Run → Op → Stop → Run
taken r o s =
    record { answers = r.answers ++ (o.answer ∷ []); media = after o r.media; ops = r.ops ++ (o ∷ []); marks = r.marks; stop = s }

-- an operation that meets the cut, or none
unfoldable pub taken_by : Geometry → Armed → Run → Op → Run
taken_by g Nothing r o = taken r o Running
taken_by g (At j) r o = cond (eqb j.op (length r.ops)) (taken r (as_cut g j o) (ending_by g j o).stop) (taken r o Running)

abbrev pub marked : Run → Label → Run
marked r l = record {
  answers = r.answers ++ (0 ∷ []);
  media = r.media;
  ops = r.ops;
  marks = r.marks ++ (record { label = l; place = length r.ops } ∷ []);
  stop = r.stop;
}

abbrev pub unless_refused : (number : ℕ) → Run → Run → Run
unless_refused number r next = cond (eqb number 0) next (refused r number)

unfoldable pub step : Told → Run → Call → Run
step t r (act a) = unless_refused (refusal t r a) r (taken_by t.geometry t.armed r (wholly r.media a))
step t r (mark l) = unless_refused (mark_refusal r) r (marked r l)

unfoldable pub run : Told → Run → List Call → Run
run t r [] = r
run t r (x ∷ xs) = run t (step t r x) xs

-- before any call
abbrev pub unrun : (media : List ℕ) → Run
unrun media = record { answers = []; media = media; ops = []; marks = []; stop = Running }

-- the plain run of a list of calls, from these first media
unfoldable pub plain : Told → (media : List ℕ) → List Call → Run
plain t media xs = run t (unrun media) xs
