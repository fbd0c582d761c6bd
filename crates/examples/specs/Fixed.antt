-- Document 01, "Fixed examples, P to be proved": the rows marked P, as one statement about the definitions, and beside them an
-- order that they do not show.
-- Definitions only; assumes nothing.
use Rattle.std.specs.Prelude.{◌≡◌, Bool, true, false, List, [], ◌∷◌, ℕ, length, Some as At}
use Rattle.storage.specs.declared.Geometry.{Geometry}
use Rattle.storage.specs.Geometry.{geometry_of, geometry_test}
use Rattle.storage.specs.Span.{program_test}
use Rattle.device.specs.declared.OneWayBits.TheVariants.{Absorbed, Rejected}
use Rattle.device.specs.Media.{new_media}
use Rattle.device_calls.specs.Calls.{barrier_refusal, program_refusal}
use Rattle.inject.specs.declared.Op.TheVariants.{Erase, Barrier}
use Rattle.inject.specs.declared.Progress.TheVariants.{Bytes}
use Rattle.inject.specs.declared.Interruption.{Interruption}
use Rattle.inject.specs.declared.Interruption.TheVariants.{PowerLoss, Watchdog}
use Rattle.inject.specs.declared.Injection.{Injection}
use Rattle.inject.specs.Points.{injections_of}
use Rattle.landing.specs.Landed.{program_landed, erase_landed}
use Rattle.model.specs.declared.Durability.TheVariants.{PossiblyDurable}
use Rattle.model.specs.Ledger.{Entry}
use Rattle.session.specs.declared.Told.{Told}
use Rattle.session.specs.Armed.{told_with}
use Rattle.records.specs.Records.{begin}
use Rattle.plain.specs.Plain.{Call, act, mark, program, plain}
use Rattle.plain.specs.Ledger.{ledger}

-- capacity 16, erase unit 8, program unit 4, read unit 4
abbrev pub small : Geometry
small = geometry_of 16 8 4 4

-- "P: geometry 16/8/4/4 accepted; 0/3/4/4 is 1; 16/3/4/4 is 2; 20/8/4/4 is 3."
pub record Geometries : Type 0 where
  pub accepted : geometry_test small ≡ 0
  pub zero-unit : geometry_test (geometry_of 0 3 4 4) ≡ 1
  pub no_power : geometry_test (geometry_of 16 3 4 4) ≡ 2
  pub unnested : geometry_test (geometry_of 20 8 4 4) ≡ 3

-- "P: there, program at 2 of 3 bytes is 4; at 0 of 3, 5; at 12 of 8, 6; at 16 of 0, accepted."
pub record Spans : Type 0 where
  pub misaligned-offset : program_test small 2 3 ≡ 4
  pub misaligned-length : program_test small 0 3 ≡ 5
  pub past_the_end : program_test small 12 8 ≡ 6
  pub at-capacity : program_test small 16 0 ≡ 0

-- "P: 8 bytes, unit 4, count 5: power loss lands 5, watchdog 8. Erase 16, block 8, count 9: 8 and 16."
abbrev pub cut_at : ℕ → Interruption → Injection
cut_at count interruption = record { op = 0; progress = Bytes count; interruption = interruption }

pub record Landings : Type 0 where
  pub program-power-loss : program_landed (cut_at 5 PowerLoss) 8 4 ≡ 5
  pub program-watchdog : program_landed (cut_at 5 Watchdog) 8 4 ≡ 8
  pub erase-power-loss : erase_landed (cut_at 9 PowerLoss) 16 8 ≡ 8
  pub erase-watchdog : erase_landed (cut_at 9 Watchdog) 16 8 ≡ 16

-- "P: points of an empty list 2, a lone barrier 5, an erase of 16 with block 8, 9."
pub record Points : Type 0 where
  pub empty : length (injections_of small []) ≡ 2
  pub lone-barrier : length (injections_of small (Barrier ∷ [])) ≡ 5
  pub erase : length (injections_of small (Erase 0 16 ∷ [])) ≡ 9

-- "P: bytes 00 00 ff ff over erased, power loss at 2: not torn; 00 00 00 00: torn.": a record's only operation, on a new device
abbrev pub cut_at_two : Told
cut_at_two = told_with small Absorbed (At (cut_at 2 PowerLoss))

abbrev pub recorded : (id : ℕ) (bytes : List ℕ) → List Call
recorded id bytes = mark (begin id) ∷ act (program 0 bytes) ∷ []

abbrev pub possibly_durable : (id : ℕ) (torn : Bool) → Entry
possibly_durable id torn = record { id = id; state = PossiblyDurable; mark = torn }

pub record Cuts : Type 0 where
  pub not-torn : ledger (plain cut_at_two (new_media 16) (recorded 7 (0x00 ∷ 0x00 ∷ 0xff ∷ 0xff ∷ []))) ≡ possibly_durable 7 false ∷ []
  pub torn : ledger (plain cut_at_two (new_media 16) (recorded 7 (0x00 ∷ 0x00 ∷ 0x00 ∷ 0x00 ∷ []))) ≡ possibly_durable 7 true ∷ []

-- all of them
pub record FixedExamples : Type 0 where
  pub geometries : Geometries
  pub spans : Spans
  pub landings : Landings
  pub points : Points
  pub cuts : Cuts

-- ---- beside them: an order that no row shows

-- "Elsewhere the lowest number comes first": on the device's own calls media of another length are told last, by 7. One byte of media
-- where every unit is 0; 15 bytes where the capacity is 16, and a program at 2 of 3 bytes.
pub record LowestFirst : Type 0 where
  pub zero-unit : barrier_refusal (geometry_of 0 0 0 0) 1 ≡ 1
  pub misaligned-offset : program_refusal small Rejected (new_media 15) 2 (0x00 ∷ 0x00 ∷ 0x00 ∷ []) ≡ 4
