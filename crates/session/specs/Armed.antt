-- Document 01, "session.rs (974)": the operation that an injection is armed on. Definitions only; assumes nothing.
use Rattle.std.specs.Prelude.{Bool, true, false, ◌||◌, cond, Option, None as Nothing, Some as At, ℕ, ◌+◌, eqb, ltb}
use Rattle.inject.specs.declared.Injection.{Injection}
use Rattle.landing.specs.declared.Stop.TheVariants.{Running}
use Rattle.landing.specs.Landed.{program_landed, erase_landed, landed_by, ran}
use Rattle.landing.specs.Ending.{Ending, ending_of}
use Rattle.storage.specs.declared.Geometry.{Geometry}
use Rattle.device.specs.declared.OneWayBits.{OneWayBits}
use Rattle.session.specs.declared.Told.{Told}
use Rattle.session.specs.declared.Counters.{Counters}
use Rattle.session.specs.Replies.{Called}

-- at most one injection
abbrev pub Armed : Type 0
Armed = Option Injection

-- what a start is told, made in one place; and the same with another injection
abbrev pub told_with : Geometry → OneWayBits → Armed → Told
told_with g b a = record { geometry = g; bits = b; armed = a }

abbrev pub cut_by : Told → Armed → Told
cut_by t a = told_with t.geometry t.bits a

-- the injection, if it is armed on the operation with this index
abbrev pub armed_on : Armed → (index : ℕ) → Armed
armed_on Nothing index = Nothing
armed_on (At j) index = cond (eqb j.op index) (At j) Nothing

-- whether one is armed
abbrev pub is_armed : Armed → Bool
is_armed Nothing = false
is_armed (At j) = true

-- how much lands of a program and of an erase: all of it where nothing is armed
abbrev pub program_lands : Armed → (len unit : ℕ) → ℕ
program_lands Nothing len unit = len
program_lands (At j) len unit = program_landed j len unit

abbrev pub erase_lands : Armed → (len block : ℕ) → ℕ
erase_lands Nothing len block = len
erase_lands (At j) len block = erase_landed j len block

-- a program and an erase in one, as the code has them (`landed_by`)
abbrev pub lands : (len step unit : ℕ) → Armed → ℕ
lands len step unit Nothing = len
lands len step unit (At j) = landed_by j len step unit

-- whether a barrier ran
abbrev pub barrier_ran : Armed → Bool
barrier_ran Nothing = true
barrier_ran (At j) = ran j.progress

-- how an operation ends: where nothing is armed it answers 0, and the session runs on
abbrev pub ended_by : Armed → (completed : Bool) → Ending
ended_by Nothing completed = record { answer = 0; stop = Running }
ended_by (At j) completed = ending_of j.interruption completed

-- one operation more; a count that no start gives, at 1,024 or above, stays
unfoldable pub next_count : (operations : ℕ) → ℕ
next_count operations = cond (ltb operations 1024) (operations + 1) operations

-- the counters after an operation on which `armed` is armed and which ends so: one operation more, the ending's stop, and
-- "fired" from the moment that the armed operation is taken
abbrev pub counted : Counters → Armed → Ending → Counters
counted c a e = record {
  operations = next_count c.operations;
  marks = c.marks;
  stop = e.stop;
  fired = is_armed a || c.fired;
  place = c.place;
  withheld = c.withheld;
}

-- the reply to an operation on which `armed` is armed and which ends so
abbrev pub replied : Counters → Armed → Ending → Called
replied c a e = record { answer = e.answer; counters = counted c a e }

-- "Bytes that did not land are withheld": where they start and how many they are is remembered; nothing withheld changes nothing
abbrev pub withholding : (place rest : ℕ) → Counters → Counters
withholding place rest c = record {
  operations = c.operations;
  marks = c.marks;
  stop = c.stop;
  fired = c.fired;
  place = cond (eqb rest 0) c.place place;
  withheld = cond (eqb rest 0) c.withheld rest;
}

-- the reply to a program or an erase that ends so, with `rest` bytes from `place` on withheld
abbrev pub write_replied : (place rest : ℕ) → Called → Called
write_replied place rest r = record { answer = r.answer; counters = withholding place rest r.counters }

-- the reply to a program or an erase on which `armed` is armed: "If the landed length equals the length, the operation completed."
unfoldable pub write_reply : Counters → Armed → (completed : Bool) (place rest : ℕ) → Called
write_reply c a completed place rest = write_replied place rest (replied c a (ended_by a completed))
