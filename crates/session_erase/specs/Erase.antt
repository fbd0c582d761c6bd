-- Document 01, "session.rs (974)": what an erase answers, and what it leaves. Definitions only; assumes nothing.
use Rattle.std.specs.Prelude.{Bool, List, [], ◌∷◌, ℕ, ◌+◌, ◌-◌, length, eqb}
use Rattle.basics.specs.Tests.{flag, first_of}
use Rattle.storage.specs.Span.{erase_test}
use Rattle.device.specs.Media.{erased, any_changed}
use Rattle.landing.specs.Ending.{stop_number}
use Rattle.session.specs.declared.Told.{Told}
use Rattle.session.specs.declared.Counters.{Counters}
use Rattle.session.specs.declared.Entry.{Entry}
use Rattle.session.specs.Replies.{Plan}
use Rattle.session.specs.Log.{Log}
use Rattle.session.specs.Tests.{size_test, log_test, operation_test}
use Rattle.session.specs.Armed.{Armed, armed_on, erase_lands}
use Rattle.session.specs.Written.{planned_by, Landing, Written, landed_so, written_by}

-- "A session call first tests the lengths lent to it (7, 12, 13), then stopped, then geometry, then 20, then 27.", over the lengths
-- of media and copy; `log` is the number of the log's columns
unfoldable pub erase_number : Told → Counters → (offset len media copy log : ℕ) → ℕ
erase_number t c offset len media copy log =
    first_of
    (size_test t.geometry media copy
    ∷ log
    ∷ stop_number c.stop
    ∷ erase_test t.geometry offset len
    ∷ operation_test c.operations
    ∷ [])

-- how much lands, and the reply
unfoldable pub erase_plan : Told → Counters → (offset len : ℕ) → Plan
erase_plan t c offset len =
    planned_by c (armed_on t.armed c.operations) offset len (λ (a : Armed). erase_lands a len t.geometry.erase_size)

-- media and copy after, and whether a cell of the media changed: what lands becomes 0xFF on the media, and what does not becomes
-- 0xFF on the copy, "what the write would have left"
unfoldable pub erase_landing : (offset len landed : ℕ) → (media copy : List ℕ) → Landing
erase_landing offset len landed media copy = record {
  media = erased media offset landed;
  copy = erased copy (offset + landed) (len - landed);
  changed = any_changed media (erased media offset landed);
}

-- "recorded with index, span, digest and whether cells changed"; "0 for erase and barrier"
abbrev pub erase_entry : (offset len : ℕ) (changed : Bool) (answer : ℕ) → Entry
erase_entry offset len changed answer =
    record { kind = 1; offset = offset; len = len; digest = 0; changed = flag changed; answered = flag (eqb answer 0) }

-- an erase that is taken
abbrev pub erase_taken : Counters → (offset len : ℕ) → Plan → (media copy : List ℕ) → Log → Written
erase_taken c offset len p media copy l = landed_so c (erase_entry offset len) p.reply (erase_landing offset len p.landed media copy) l

abbrev pub erase_number_of : Told → Counters → (offset len : ℕ) → (media copy : List ℕ) → Log → ℕ
erase_number_of t c offset len media copy l = erase_number t c offset len (length media) (length copy) (log_test l)

-- a call that its tests refuse answers their number and changes nothing
unfoldable pub erase_call : Told → Counters → (offset len : ℕ) → (media copy : List ℕ) → Log → Written
erase_call t c offset len media copy l =
    written_by (erase_number_of t c offset len media copy l) c media copy l
    (erase_taken c offset len (erase_plan t c offset len) media copy l)
