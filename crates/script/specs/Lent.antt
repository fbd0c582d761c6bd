-- The columns as they are lent, and what reading answers with its error told by the paper's number. Definitions only; assumes nothing.
use Rattle.std.specs.Prelude.{◌≡◌, Result, Ok, Err}
use Rattle.refusals.specs.Numbers.{number_of}
use Rattle.script.specs.declared.CallsMut.{CallsMut}
use Rattle.script.specs.declared.CallsRef.{CallsRef}
use Rattle.script.specs.declared.Script.{Script}
use Rattle.script.specs.declared.ScriptError.{ScriptError}
use Rattle.script.specs.Columns.{Columns, columns, ReadScript, Read, Refused}

-- the columns behind the references
abbrev pub columns_in : CallsMut → Columns
columns_in k = columns k.kinds.now k.firsts.now k.seconds.now k.thirds.now k.starts.now k.pool.now

abbrev pub columns_seen : CallsRef → Columns
columns_seen k = columns k.kinds.now k.firsts.now k.seconds.now k.thirds.now k.starts.now k.pool.now

-- the references are the same ones
abbrev pub SameCalls : CallsMut → CallsMut → Type 0
SameCalls a b = (b.kinds.ghost_name ≡ a.kinds.ghost_name) × (b.firsts.ghost_name ≡ a.firsts.ghost_name) × (b.seconds.ghost_name ≡ a.seconds.ghost_name) × (b.thirds.ghost_name ≡ a.thirds.ghost_name) × (b.starts.ghost_name ≡ a.starts.ghost_name) × (b.pool.ghost_name ≡ a.pool.ghost_name)

-- an answer, told by the paper's number
abbrev pub reply_of : Result Script ScriptError → ReadScript
reply_of (Ok s) = Read s.head s.calls s.bytes
reply_of (Err e) = Refused (number_of e.refusal) e.line
