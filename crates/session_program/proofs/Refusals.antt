-- What each way out of a program's tests answers, and what a program that is not refused knows. Assumes nothing.
use mathlib.Core.Path.{◌≡◌}
use mathlib.Core.List.{List, [], ◌∷◌}
use Prim.Native.Nat.{ℕ, ◌^◌, ◌<◌}
use lib.ListN.{length}
use lib.Dec.{ltb}
use borrow.Author.Tests.{ltb-true}
use Rattle.basics.specs.Tests.{unless}
use Rattle.basics.proofs.Tests.{unless-zero, first_of-zero}
use Rattle.storage.specs.Geometry.{geometry_test}
use Rattle.storage.specs.Span.{program_test}
use Rattle.storage.proofs.Nesting.{Legal, legal}
use Rattle.landing.specs.Ending.{stop_number}
use Rattle.session.specs.declared.Told.{Told}
use Rattle.session.specs.declared.Counters.{Counters}
use Rattle.session.specs.Tests.{size_test, operation_test}
use Rattle.session.proofs.Refusals.{sizes-fit}
use Rattle.session_program.specs.Program.{span_number, bit_test, program_number}

-- ---- what a program that is taken knows

pub record Ready (t : Told) (offset : ℕ) (bytes media : List ℕ) (copy : ℕ) : Type 0 where
  pub media-whole : length media ≡ t.geometry.capacity
  pub copy-whole : copy ≡ t.geometry.capacity
  pub few : length bytes < 2 ^ 32
  pub span : Legal t.geometry t.geometry.program_size offset (length bytes)

pub ready : (t : Told) (c : Counters) (offset : ℕ) (bytes media : List ℕ) (copy log : ℕ) → program_number t c offset bytes media copy log ≡ 0
    → Ready t offset bytes media copy
unfolding program_number span_number
ready t c offset bytes media copy log e =
    let sizes = size_test t.geometry (length media) copy in
    let stop = stop_number c.stop in
    let span = span_number t offset (length bytes) in
    let rest = bit_test t.bits media offset bytes ∷ operation_test c.operations ∷ [] in
    let one = first_of-zero sizes (log ∷ stop ∷ span ∷ rest) e in
    let two = first_of-zero log (stop ∷ span ∷ rest) one.1 in
    let three = first_of-zero stop (span ∷ rest) two.1 in
    let four = first_of-zero span rest three.1 in
    let units = geometry_test t.geometry in
    let buffer = unless (ltb (length bytes) (2 ^ 32)) 6 in
    let whole = program_test t.geometry offset (length bytes) in
    let a = first_of-zero units (buffer ∷ whole ∷ []) four.0 in
    let b = first_of-zero buffer (whole ∷ []) a.1 in
    let d = first_of-zero whole [] b.1 in
    record {
      media-whole = (sizes-fit t.geometry (length media) copy one.0).0;
      copy-whole = (sizes-fit t.geometry (length media) copy one.0).1;
      few = ltb-true (length bytes) (2 ^ 32) (unless-zero (ltb (length bytes) (2 ^ 32)) 5 b.0);
      span = legal t.geometry t.geometry.program_size offset (length bytes) d.0;
    }
