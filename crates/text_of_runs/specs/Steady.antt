-- What holds of the session of every script's run. Definitions only; assumes nothing.
use Rattle.std.specs.Prelude.{◌≡◌, true, ℕ, ◌≤◌, length}
use Rattle.model.specs.Columns.{all_up_to}
use Rattle.session.specs.Log.{Log, Marks}
use Rattle.threaded.specs.Threaded.{Session}

-- columns of 1,024 rows whose codes all have a meaning
pub record LogSteady (l : Log) : Type 0 where
  pub kinds-long : length l.kinds ≡ 1024
  pub offsets-long : length l.offsets ≡ 1024
  pub lens-long : length l.lens ≡ 1024
  pub digests-long : length l.digests ≡ 1024
  pub changed-long : length l.changed ≡ 1024
  pub answered-long : length l.answered ≡ 1024
  pub kinds-known : all_up_to 2 l.kinds ≡ true
  pub changed-known : all_up_to 1 l.changed ≡ true
  pub answered-known : all_up_to 1 l.answered ≡ true

-- columns of 512 rows whose codes all have a meaning
pub record MarksSteady (m : Marks) : Type 0 where
  pub codes-long : length m.codes ≡ 512
  pub ids-long : length m.ids ≡ 512
  pub places-long : length m.places ≡ 512
  pub codes-known : all_up_to 1 m.codes ≡ true

-- no more operations and marks than their columns hold; media and copy of capacity length
pub record Steady (capacity : ℕ) (s : Session) : Type 0 where
  pub media-long : length s.media ≡ capacity
  pub copy-long : length s.copy ≡ capacity
  pub few-operations : s.counters.operations ≤ 1024
  pub few-marks : s.counters.marks ≤ 512
  pub log-steady : LogSteady s.log
  pub marks-steady : MarksSteady s.marks
