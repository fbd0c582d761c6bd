-- What a call that no test refuses knows: the media are of capacity length, the geometry describes a device, and the span is
-- whole units within the media.
--     read_known, write_known, program-known, erase-known    of each call
-- Assumes nothing.
use mathlib.Core.Path.{◌≡◌}
use mathlib.Core.Bool.{false, ◌&&◌}
use mathlib.Core.List.{List, [], ◌∷◌}
use Prim.Native.Nat.{ℕ, ◌+◌, ◌≤◌}
use lib.ListN.{length}
use lib.Dec.{eqb}
use borrow.Author.Tests.{eqb-true}
use Rattle.basics.specs.Tests.{refuse_if, first_of}
use Rattle.basics.proofs.Tests.{unless-zero, refuse-zero, first_of-zero}
use Rattle.storage.specs.declared.Geometry.{Geometry}
use Rattle.storage.specs.Geometry.{geometry_test}
use Rattle.storage.proofs.Nesting.{Legal, legal}
use Rattle.storage.specs.Span.{span_test, erase_test}
use Rattle.device.specs.declared.OneWayBits.{OneWayBits}
use Rattle.device.specs.Media.{would_set_a_bit}
use Rattle.device.specs.Answers.{rejects}
use Rattle.device_calls.specs.Calls.{media_test, buffer_test, read_refusal, write_refusal, erase_refusal, program_refusal}

-- a call that no test refuses: the span's units, and the media
pub record Taken (g : Geometry) (unit media offset len : ℕ) : Type 0 where
  pub sized : media ≡ g.capacity
  pub span : Legal g unit offset len
  pub fits : offset + len ≤ media

taken : (g : Geometry) (unit media offset len : ℕ) → media_test g media ≡ 0 → span_test g unit offset len ≡ 0 → Taken g unit media offset len
taken g unit media offset len m s =
    let e : media ≡ g.capacity = eqb-true media g.capacity (unless-zero (eqb media g.capacity) 6 m) in
    let w = legal g unit offset len s in
    record { sized = e; span = w; fits = rw e w.inside }

buffered : (g : Geometry) (unit media offset buffer : ℕ)
    → first_of (geometry_test g ∷ buffer_test buffer ∷ span_test g unit offset buffer ∷ media_test g media ∷ []) ≡ 0 → Taken g unit media offset buffer
buffered g unit media offset buffer e =
    let one = first_of-zero (geometry_test g) (buffer_test buffer ∷ span_test g unit offset buffer ∷ media_test g media ∷ []) e in
    let two = first_of-zero (buffer_test buffer) (span_test g unit offset buffer ∷ media_test g media ∷ []) one.1 in
    let three = first_of-zero (span_test g unit offset buffer) (media_test g media ∷ []) two.1 in
    let four = first_of-zero (media_test g media) [] three.1 in
    taken g unit media offset buffer four.0 three.0

pub read_known : (g : Geometry) (media offset buffer : ℕ) → read_refusal g media offset buffer ≡ 0 → Taken g g.read_size media offset buffer
unfolding read_refusal
read_known g media offset buffer e = buffered g g.read_size media offset buffer e

pub write_known : (g : Geometry) (media offset buffer : ℕ) → write_refusal g media offset buffer ≡ 0 → Taken g g.program_size media offset buffer
unfolding write_refusal
write_known g media offset buffer e = buffered g g.program_size media offset buffer e

pub erase-known : (g : Geometry) (media offset n : ℕ) → erase_refusal g media offset n ≡ 0 → Taken g g.erase_size media offset n
unfolding erase_refusal
erase-known g media offset n e =
    let one = first_of-zero (erase_test g offset n) (media_test g media ∷ []) e in
    let two = first_of-zero (media_test g media) [] one.1 in
    taken g g.erase_size media offset n two.0 one.0

-- and a program that the bit rule lets pass
pub program-known : (g : Geometry) (rule : OneWayBits) (media : List ℕ) (offset : ℕ) (src : List ℕ) → program_refusal g rule media offset src ≡ 0
    → Taken g g.program_size (length media) offset (length src) × ((rejects rule && would_set_a_bit media offset src) ≡ false)
unfolding program_refusal
program-known g rule media offset src e =
    let one = first_of-zero (write_refusal g (length media) offset (length src)) (refuse_if (rejects rule && would_set_a_bit media offset src) 20 ∷ []) e in
    let two = first_of-zero (refuse_if (rejects rule && would_set_a_bit media offset src) 20) [] one.1 in
    (write_known g (length media) offset (length src) one.0, refuse-zero (rejects rule && would_set_a_bit media offset src) 19 two.0)
