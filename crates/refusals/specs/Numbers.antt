-- Document 01, "Numbers from the input" and "Numbers from the state": the number of each refusal.
-- Definitions only; assumes nothing.
use Rattle.std.specs.Prelude.{ℕ}
use Rattle.storage.specs.Answers.{number_of as geometry_number}
use Rattle.refusals.specs.declared.Refusal.{Refusal}
use Rattle.refusals.specs.declared.Refusal.TheVariants.{Geometry, MediaLength, MalformedLine, ScriptTooLong, CapacityTooLarge, NoSuchPlace, MalformedColumns, ColumnsTooShort, BitSetWithoutErase, PowerLoss, WatchdogReset, InjectedFailure, WriterFailed, NeverFired, Diverged, TooManyOperations, TooManyMarks}

-- "Where an answer is an enum, a definition gives this paper's number .. for each of its cases."
abbrev pub number_of : Refusal → ℕ
number_of (Geometry e) = geometry_number e
number_of MediaLength = 7
number_of MalformedLine = 8
number_of ScriptTooLong = 9
number_of CapacityTooLarge = 10
number_of NoSuchPlace = 11
number_of MalformedColumns = 12
number_of ColumnsTooShort = 13
number_of BitSetWithoutErase = 20
number_of PowerLoss = 21
number_of WatchdogReset = 22
number_of InjectedFailure = 23
number_of WriterFailed = 24
number_of NeverFired = 25
number_of Diverged = 26
number_of TooManyOperations = 27
number_of TooManyMarks = 28
