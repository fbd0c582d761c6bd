-- Document 01, "session.rs (974)": what a program answers, and what it leaves. Definitions only; assumes nothing.
use Rattle.std.specs.Prelude.{Bool, ◌&&◌, List, [], ◌∷◌, ℕ, ◌+◌, ◌^◌, length, take, drop, eqb, ltb}
use Rattle.basics.specs.Tests.{flag, unless, refuse_if, first_of}
use Rattle.basics.specs.Parts.{overlaid}
use Rattle.storage.specs.Geometry.{geometry_test}
use Rattle.storage.specs.Span.{program_test}
use Rattle.device.specs.declared.OneWayBits.{OneWayBits}
use Rattle.device.specs.Media.{programmed, postimage, would_set_a_bit, any_changed}
use Rattle.device.specs.Answers.{rejects}
use Rattle.landing.specs.Ending.{stop_number}
use Rattle.digest.specs.Fnv.{digest_of}
use Rattle.session.specs.declared.Told.{Told}
use Rattle.session.specs.declared.Counters.{Counters}
use Rattle.session.specs.declared.Entry.{Entry}
use Rattle.session.specs.Replies.{Plan}
use Rattle.session.specs.Log.{Log}
use Rattle.session.specs.Tests.{size_test, log_test, operation_test}
use Rattle.session.specs.Armed.{Armed, armed_on, program_lands}
use Rattle.session.specs.Written.{planned_by, Landing, Written, landed_so, written_by}

-- the geometry: "the lowest number comes first, save that 6 for a buffer comes before 4 and 5", where "6 also for a buffer longer
-- than u32"
unfoldable pub span_number : Told → (offset bytes : ℕ) → ℕ
span_number t offset bytes =
    first_of (geometry_test t.geometry ∷ unless (ltb bytes (2 ^ 32)) 6 ∷ program_test t.geometry offset bytes ∷ [])

-- "Under rule `Rejected`, a byte with a 1 where its cell has 0 refuses the call with 20"
unfoldable pub bit_test : OneWayBits → (media : List ℕ) (offset : ℕ) (bytes : List ℕ) → ℕ
bit_test bits media offset bytes = refuse_if (rejects bits && would_set_a_bit media offset bytes) 20

-- "A session call first tests the lengths lent to it (7, 12, 13), then stopped, then geometry, then 20, then 27."; `copy` is the
-- copy's length and `log` the number of the log's columns
unfoldable pub program_number : Told → Counters → (offset : ℕ) (bytes media : List ℕ) (copy log : ℕ) → ℕ
program_number t c offset bytes media copy log =
    first_of
    (size_test t.geometry (length media) copy
    ∷ log
    ∷ stop_number c.stop
    ∷ span_number t offset (length bytes)
    ∷ bit_test t.bits media offset bytes
    ∷ operation_test c.operations
    ∷ [])

-- how many bytes land, and the reply
unfoldable pub program_plan : Told → Counters → (offset len : ℕ) → Plan
program_plan t c offset len =
    planned_by c (armed_on t.armed c.operations) offset len (λ (a : Armed). program_lands a len t.geometry.program_size)

-- media and copy after, and whether a cell of the media changed: the leading bytes land, and the copy holds "what the write would
-- have left" where the others did not
unfoldable pub program_landing : (offset landed : ℕ) → (bytes media copy : List ℕ) → Landing
program_landing offset landed bytes media copy = record {
  media = programmed media offset (take landed bytes);
  copy = overlaid copy (offset + landed) (postimage media (offset + landed) (drop landed bytes));
  changed = any_changed media (programmed media offset (take landed bytes));
}

-- "recorded with index, span, digest and whether cells changed"; the digest is "over all bytes handed in, landed or not"
abbrev pub program_entry : (offset : ℕ) (bytes : List ℕ) (changed : Bool) (answer : ℕ) → Entry
program_entry offset bytes changed answer =
    record { kind = 0; offset = offset; len = length bytes; digest = digest_of bytes; changed = flag changed; answered = flag (eqb answer 0) }

-- a program that is taken
abbrev pub program_taken : Counters → (offset : ℕ) (bytes : List ℕ) → Plan → (media copy : List ℕ) → Log → Written
program_taken c offset bytes p media copy l =
    landed_so c (program_entry offset bytes) p.reply (program_landing offset p.landed bytes media copy) l

abbrev pub program_number_of : Told → Counters → (offset : ℕ) (bytes media copy : List ℕ) → Log → ℕ
program_number_of t c offset bytes media copy l = program_number t c offset bytes media (length copy) (log_test l)

-- a call that its tests refuse answers their number and changes nothing
unfoldable pub program_call : Told → Counters → (offset : ℕ) (bytes media copy : List ℕ) → Log → Written
program_call t c offset bytes media copy l =
    written_by (program_number_of t c offset bytes media copy l) c media copy l
    (program_taken c offset bytes (program_plan t c offset (length bytes)) media copy l)
