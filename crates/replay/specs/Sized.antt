-- A log and marks that are of a session's limits. No public contract cites this. Definitions only; assumes nothing.
use Rattle.std.specs.Prelude.{◌≡◌, length}
use Rattle.session.specs.Log.{Log, Marks}

pub record Sized (l : Log) (m : Marks) : Type 0 where
  pub kinds-are : length l.kinds ≡ 1024
  pub offsets_are : length l.offsets ≡ 1024
  pub lens-are : length l.lens ≡ 1024
  pub digests-are : length l.digests ≡ 1024
  pub changed-are : length l.changed ≡ 1024
  pub answered-are : length l.answered ≡ 1024
  pub codes-are : length m.codes ≡ 512
  pub ids-are : length m.ids ≡ 512
  pub places-are : length m.places ≡ 512
