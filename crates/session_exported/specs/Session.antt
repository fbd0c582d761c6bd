-- What each exported call leaves, with the counters as numbers. Definitions only; assumes nothing.
use Rattle.std.specs.Prelude.{Ok as Fresh, Err as NotStarted, List, ℕ}
use Rattle.session.specs.Log.{Log}
use Rattle.session.specs.Start.{Started, Opened}
use Rattle.session.specs.Barrier.{Ordered}
use Rattle.session.specs.Written.{Written}
use Rattle.session_numbers.specs.Numbers.{counters_in}

-- a start: its number, the counters and the media. A refused one leaves the counters.
pub record StartLeft : Type 0 where
  pub answer : ℕ
  pub state : List ℕ
  pub media : List ℕ

abbrev pub start_left : (answer : ℕ) (state media : List ℕ) → StartLeft
start_left a s m = record { answer = a; state = s; media = m }

abbrev pub start_left_by : (state media : List ℕ) → Started → StartLeft
start_left_by state media (Fresh c) = start_left 0 (counters_in c state) media
start_left_by state media (NotStarted number) = start_left number state media

abbrev pub opened_over : (state : List ℕ) → Opened → StartLeft
opened_over state o = start_left_by state o.media o.reply

-- a program or an erase
pub record WriteLeft : Type 0 where
  pub answer : ℕ
  pub state : List ℕ
  pub media : List ℕ
  pub copy : List ℕ
  pub log : Log

abbrev pub write_left : (answer : ℕ) (state media copy : List ℕ) → Log → WriteLeft
write_left a s m k l = record { answer = a; state = s; media = m; copy = k; log = l }

abbrev pub written_over : (state : List ℕ) → Written → WriteLeft
written_over state w = write_left w.reply.answer (counters_in w.reply.counters state) w.media w.copy w.log

-- a barrier
pub record BarrierLeft : Type 0 where
  pub answer : ℕ
  pub state : List ℕ
  pub log : Log

abbrev pub barrier_left : (answer : ℕ) (state : List ℕ) → Log → BarrierLeft
barrier_left a s l = record { answer = a; state = s; log = l }

abbrev pub ordered_over : (state : List ℕ) → Ordered → BarrierLeft
ordered_over state o = barrier_left o.reply.answer (counters_in o.reply.counters state) o.log
