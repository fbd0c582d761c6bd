-- Document 01, "device.rs (342)" and "Numbers from the input": the device's own calls, each as the reply and what it leaves.
-- Definitions only; assumes nothing.
use Rattle.std.specs.Prelude.{◌&&◌, Result, Ok, Err, cond, List, [], ◌∷◌, ℕ, ◌^◌, length, eqb, ltb}
use Rattle.basics.specs.Tests.{unless, refuse_if, first_of}
use Rattle.basics.specs.Parts.{part}
use Rattle.storage.specs.declared.Geometry.{Geometry}
use Rattle.storage.specs.Geometry.{geometry_test}
use Rattle.storage.specs.Span.{read_test, program_test, erase_test}
use Rattle.device.specs.declared.OneWayBits.{OneWayBits}
use Rattle.device.specs.Media.{programmed, erased, would_set_a_bit}
use Rattle.device.specs.Answers.{rejects}

-- ---- which number refuses a call, 0 for none

-- "7: media .. not of capacity length"
abbrev pub media_test : Geometry → (media : ℕ) → ℕ
media_test g media = unless (eqb media g.capacity) 7

-- "6 also for a buffer longer than u32"
abbrev pub buffer_test : (buffer : ℕ) → ℕ
buffer_test buffer = unless (ltb buffer (2 ^ 32)) 6

-- a buffer's length as a u32; where it is none, the geometry's number comes before the 6
abbrev pub counted : Geometry → (buffer : ℕ) → Result ℕ ℕ
counted g buffer = cond (ltb buffer (2 ^ 32)) (Ok buffer) (Err (first_of (geometry_test g ∷ 6 ∷ [])))

-- The device's own calls are no session calls: "Elsewhere the lowest number comes first, save that 6 for a buffer comes before 4
-- and 5". So the geometry, the buffer, the span, then the media; media and buffer are told by their lengths.
unfoldable pub read_refusal : Geometry → (media offset buffer : ℕ) → ℕ
read_refusal g media offset buffer =
    first_of (geometry_test g ∷ buffer_test buffer ∷ read_test g offset buffer ∷ media_test g media ∷ [])

unfoldable pub write_refusal : Geometry → (media offset buffer : ℕ) → ℕ
write_refusal g media offset buffer =
    first_of (geometry_test g ∷ buffer_test buffer ∷ program_test g offset buffer ∷ media_test g media ∷ [])

unfoldable pub erase_refusal : Geometry → (media offset n : ℕ) → ℕ
erase_refusal g media offset n = first_of (erase_test g offset n ∷ media_test g media ∷ [])

unfoldable pub barrier_refusal : Geometry → (media : ℕ) → ℕ
barrier_refusal g media = first_of (geometry_test g ∷ media_test g media ∷ [])

-- "Under rule `Rejected`, a byte with a 1 where its cell has 0 refuses the call with 20": after all the others
unfoldable pub program_refusal : Geometry → OneWayBits → (media : List ℕ) (offset : ℕ) (src : List ℕ) → ℕ
program_refusal g rule media offset src =
    first_of (write_refusal g (length media) offset (length src) ∷ refuse_if (rejects rule && would_set_a_bit media offset src) 20 ∷ [])

-- ---- the calls

-- the number that refuses the call, 0 for none, and the content of the slice that the call may write: the media, or a read's buffer
pub record Called : Type 0 where
  pub reply : ℕ
  pub content : List ℕ

-- "These change no buffer": a call that a number refuses replies with it and leaves the content, any other leaves it new
abbrev pub called : (number : ℕ) (before after : List ℕ) → Called
called number before after = record { reply = number; content = cond (eqb number 0) after before }

-- the buffer then holds the cells from offset on
unfoldable pub read_call : Geometry → (media : List ℕ) (offset : ℕ) (buffer : List ℕ) → Called
read_call g media offset buffer =
    called (read_refusal g (length media) offset (length buffer)) buffer (part media offset (length buffer))

unfoldable pub program_call : Geometry → OneWayBits → (media : List ℕ) (offset : ℕ) (src : List ℕ) → Called
program_call g rule media offset src = called (program_refusal g rule media offset src) media (programmed media offset src)

unfoldable pub erase_call : Geometry → (media : List ℕ) (offset n : ℕ) → Called
erase_call g media offset n = called (erase_refusal g (length media) offset n) media (erased media offset n)
