-- What each of a session's calls does to the log: it records one entry at the count, or, where its number refuses, nothing; and it is
-- taken only where the columns are of one length and the count is below it. Assumes nothing.
use mathlib.Core.Path.{◌≡◌, refl}
use mathlib.Core.Bool.{Bool, true, false, cond}
use mathlib.Core.List.{List, [], ◌∷◌}
use Prim.Native.Nat.{ℕ, ◌<◌}
use native.Mathlib.Omega.{arith}
use lib.ListN.{length}
use lib.Dec.{eqb}
use borrow.Author.Tests.{ltb-false}
use Rattle.basics.specs.Tests.{refuse_if}
use Rattle.basics.proofs.Tests.{refuse-zero, first_of-zero}
use Rattle.storage.specs.Geometry.{geometry_test}
use Rattle.storage.specs.Span.{erase_test}
use Rattle.landing.specs.Ending.{stop_number}
use Rattle.session.specs.declared.Told.{Told}
use Rattle.session.specs.declared.Counters.{Counters}
use Rattle.session.specs.Replies.{Called}
use Rattle.session.specs.declared.Entry.{Entry}
use Rattle.session.specs.Log.{Log, logged}
use Rattle.session.specs.Tests.{size_test, log_uneven_of, log_short, log_length_test, log_test, operation_test}
use Rattle.session.specs.Barrier.{Ordered, ordered, ordered_by, barrier_number, barrier_test, barrier_reply, barrier_entry, barriered}
use Rattle.session.specs.Written.{Landing, Written, written, landed_so, written_by}
use Rattle.session.proofs.Refusals.{operation-room}
use Rattle.session_erase.specs.Erase.{erase_number, erase_number_of, erase_plan, erase_landing, erase_entry, erase_call}
use Rattle.session_program.specs.Program.{span_number, bit_test, program_number, program_number_of, program_plan, program_landing, program_entry, program_call}
use Rattle.session_entries.specs.Entries.{OfLength}
use Rattle.session_entries.proofs.Refused.{even-lengths}

-- what a call with this number leaves of the columns
abbrev pub recorded_by : (number : ℕ) → Log → (count : ℕ) → Entry → Log
recorded_by number l count e = cond (eqb number 0) (logged l count e) l

-- a call that neither the log's lengths nor the count refuse: its columns are of one length, and the count is below it
taken-fits : (l : Log) (operations : ℕ) → log_test l ≡ 0 → operation_test operations ≡ 0 → OfLength (length l.kinds) l × (operations < length l.kinds)
unfolding log_length_test
taken-fits l operations z y =
    let zs = first_of-zero (refuse_if (log_uneven_of l) 12) (refuse_if (log_short (length l.kinds)) 13 ∷ []) z in
    let even = even-lengths _ _ _ _ _ _ (refuse-zero (log_uneven_of l) 11 zs.0) in
    let long = ltb-false (length l.kinds) 1024 (refuse-zero (log_short (length l.kinds)) 12 (first_of-zero (refuse_if (log_short (length l.kinds)) 13) [] zs.1).0) in
    let low = operation-room operations y in
    ((refl, even.0, even.1, even.2, even.3, even.4), omega (arith, long, low))

-- the tests of both calls include the log's lengths and the count
erase-tests : (t : Told) (c : Counters) (offset len media copy log : ℕ) → erase_number t c offset len media copy log ≡ 0 → (log ≡ 0) × (operation_test c.operations ≡ 0)
unfolding erase_number
erase-tests t c offset len media copy log z =
    let z₁ = first_of-zero (size_test t.geometry media copy) (log ∷ stop_number c.stop ∷ erase_test t.geometry offset len ∷ operation_test c.operations ∷ []) z in
    let z₂ = first_of-zero log (stop_number c.stop ∷ erase_test t.geometry offset len ∷ operation_test c.operations ∷ []) z₁.1 in
    let z₃ = first_of-zero (stop_number c.stop) (erase_test t.geometry offset len ∷ operation_test c.operations ∷ []) z₂.1 in
    let z₄ = first_of-zero (erase_test t.geometry offset len) (operation_test c.operations ∷ []) z₃.1 in
    (z₂.0, (first_of-zero (operation_test c.operations) [] z₄.1).0)

program-tests : (t : Told) (c : Counters) (offset : ℕ) (bytes media : List ℕ) (copy log : ℕ) → program_number t c offset bytes media copy log ≡ 0 → (log ≡ 0) × (operation_test c.operations ≡ 0)
unfolding program_number
program-tests t c offset bytes media copy log z =
    let span = span_number t offset (length bytes) in let bit = bit_test t.bits media offset bytes in
    let z₁ = first_of-zero (size_test t.geometry (length media) copy) (log ∷ stop_number c.stop ∷ span ∷ bit ∷ operation_test c.operations ∷ []) z in
    let z₂ = first_of-zero log (stop_number c.stop ∷ span ∷ bit ∷ operation_test c.operations ∷ []) z₁.1 in
    let z₃ = first_of-zero (stop_number c.stop) (span ∷ bit ∷ operation_test c.operations ∷ []) z₂.1 in
    let z₄ = first_of-zero span (bit ∷ operation_test c.operations ∷ []) z₃.1 in
    let z₅ = first_of-zero bit (operation_test c.operations ∷ []) z₄.1 in
    (z₂.0, (first_of-zero (operation_test c.operations) [] z₅.1).0)

-- and so do a barrier's
barrier-tests : (t : Told) (c : Counters) (l : Log) → barrier_test t c l ≡ 0 → (log_test l ≡ 0) × (operation_test c.operations ≡ 0)
unfolding barrier_number
barrier-tests t c l z =
    let z₁ = first_of-zero (log_test l) (stop_number c.stop ∷ geometry_test t.geometry ∷ operation_test c.operations ∷ []) z in
    let z₂ = first_of-zero (stop_number c.stop) (geometry_test t.geometry ∷ operation_test c.operations ∷ []) z₁.1 in
    let z₃ = first_of-zero (geometry_test t.geometry) (operation_test c.operations ∷ []) z₂.1 in
    (z₁.0, (first_of-zero (operation_test c.operations) [] z₃.1).0)

-- what an unrefused call knows
abbrev Ready : Log → (count : ℕ) → Type 0
Ready l count = OfLength (length l.kinds) l × (count < length l.kinds)

pub erase-ready : (t : Told) (c : Counters) (offset len : ℕ) (media copy : List ℕ) (l : Log) → erase_number_of t c offset len media copy l ≡ 0 → Ready l c.operations
erase-ready t c offset len media copy l z = let y = erase-tests t c offset len (length media) (length copy) (log_test l) z in taken-fits l c.operations y.0 y.1

pub program-ready : (t : Told) (c : Counters) (offset : ℕ) (bytes media copy : List ℕ) (l : Log) → program_number_of t c offset bytes media copy l ≡ 0 → Ready l c.operations
program-ready t c offset bytes media copy l z = let y = program-tests t c offset bytes media (length copy) (log_test l) z in taken-fits l c.operations y.0 y.1

pub barrier-ready : (t : Told) (c : Counters) (l : Log) → barrier_test t c l ≡ 0 → Ready l c.operations
barrier-ready t c l z = let y = barrier-tests t c l z in taken-fits l c.operations y.0 y.1

-- ---- what is recorded

log-of : (t : Bool) (a b : Ordered) → (cond t a b).log ≡ cond t a.log b.log
log-of true a b = refl
log-of false a b = refl

pub barrier-records : (t : Told) (c : Counters) (l : Log) → (barriered t c l).log ≡ recorded_by (barrier_test t c l) l c.operations (barrier_entry (barrier_reply t c).answer)
unfolding barriered
barrier-records t c l = log-of (eqb (barrier_test t c l) 0) (ordered_by c l (barrier_reply t c)) (ordered (record { answer = barrier_test t c l; counters = c }) l)

written-log : (t : Bool) (a b : Written) → (cond t a b).log ≡ cond t a.log b.log
written-log true a b = refl
written-log false a b = refl

-- a program or an erase, by the definition that both share
write-records : (number : ℕ) (c : Counters) (media copy : List ℕ) (entry : Bool → ℕ → Entry) (r : Called) (d : Landing) (l : Log)
    → (written_by number c media copy l (landed_so c entry r d l)).log ≡ recorded_by number l c.operations (entry d.changed r.answer)
write-records number c media copy entry r d l = written-log (eqb number 0) (landed_so c entry r d l) (written (record { answer = number; counters = c }) media copy l)

pub erase-records : (t : Told) (c : Counters) (offset len : ℕ) (media copy : List ℕ) (l : Log)
    → (erase_call t c offset len media copy l).log ≡ recorded_by (erase_number_of t c offset len media copy l) l c.operations (erase_entry offset len (erase_landing offset len (erase_plan t c offset len).landed media copy).changed (erase_plan t c offset len).reply.answer)
unfolding erase_call
erase-records t c offset len media copy l =
    write-records (erase_number_of t c offset len media copy l) c media copy (erase_entry offset len) (erase_plan t c offset len).reply (erase_landing offset len (erase_plan t c offset len).landed media copy) l

pub program-records : (t : Told) (c : Counters) (offset : ℕ) (bytes media copy : List ℕ) (l : Log)
    → (program_call t c offset bytes media copy l).log ≡ recorded_by (program_number_of t c offset bytes media copy l) l c.operations (program_entry offset bytes (program_landing offset (program_plan t c offset (length bytes)).landed bytes media copy).changed (program_plan t c offset (length bytes)).reply.answer)
unfolding program_call
program-records t c offset bytes media copy l =
    write-records (program_number_of t c offset bytes media copy l) c media copy (program_entry offset bytes) (program_plan t c offset (length bytes)).reply (program_landing offset (program_plan t c offset (length bytes)).landed bytes media copy) l
