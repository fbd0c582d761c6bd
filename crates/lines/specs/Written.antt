-- What a function that writes a line answers, with the cursor that it leaves, as `Answers` tells it.
-- Definitions only; assumes nothing.
use Rattle.std.specs.Prelude.{Result, Ok, Err}
use Rattle.refusals.specs.declared.Refusal.{Refusal}
use Rattle.refusals.specs.Numbers.{number_of}
use Rattle.pieces.specs.declared.Cursor.{Cursor}
use Rattle.lines.specs.Answers.{Put}

abbrev pub written : Result (Unit {0}) Refusal → Cursor → Put
written (Ok x) to = record { reply = Ok to.at; out = to.out.now }
written (Err e) to = record { reply = Err (number_of e); out = to.out.now }
