-- What the private functions of `src/` answer. No public contract cites these. Definitions only; assumes nothing.
use Rattle.std.specs.Prelude.{Bool, not, ◌&&◌, cond, List, [], ◌∷◌, ℕ, zero, suc, ◌+◌, ◌-◌, min, take, drop, eqb, ltb, Ok as Past, Err as NotWritten, Ok as UpTo, Err as NoLine}
use Rattle.script.specs.declared.Head.{Head}
use Rattle.script.specs.Lent.{columns_seen}
use Rattle.script.specs.Columns.{ReadScript, Read, Refused, Columns, columns, read_into}
use Rattle.lines.specs.Answers.{Line, put, Put}
use Rattle.lines.specs.Lines.{runs_line, refused_text}
use Rattle.harness.specs.Opening.{Opened, Runs, NotSwept, OpenLeft, open_on}
use Rattle.harness_runs.specs.Running.{zeros}
use Rattle.run_lines.specs.RunLine.{run_line_call}
use Rattle.text_parts.specs.Parts.{Part, Lines, NoRoom, PartLeft, part_left, part_of}
use Rattle.text_parts.specs.declared.Opened.{Opened as CodeOpened}

-- ---- runs into a buffer

-- the line of the run at a place
abbrev pub line_of : (judged : Bool) → CodeOpened → (place at : ℕ) → List ℕ → Put
line_of judged o place at out =
    run_line_call judged place o.writer.head o.writer.rows (columns_seen o.writer.calls) o.ops.kinds.now o.ops.offsets.now o.ops.lens.now at out

-- how far the lines of runs were put: the first run that was not, and the place past the last line
pub record Filled : Type 0 where
  pub place : ℕ
  pub at : ℕ

-- how far the runs were put, and the buffer then
pub record FillLeft : Type 0 where
  pub reply : Filled
  pub out : List ℕ

abbrev pub fill_left : Filled → (out : List ℕ) → FillLeft
fill_left r out = record { reply = r; out = out }

abbrev pub filled_at : (place at : ℕ) → (out : List ℕ) → FillLeft
filled_at place at out = fill_left (record { place = place; at = at }) out

-- on with the next run, unless the line was refused
abbrev pub onward : (ℕ → List ℕ → FillLeft) → FillLeft → Line → (out : List ℕ) → FillLeft
onward next stay (UpTo at) out = next at out
onward next stay (NoLine number) out = stay

-- so many runs from a place on, each by what puts its line
unfoldable pub fill_runs : ((place at : ℕ) → List ℕ → Put) → (n place at : ℕ) → (out : List ℕ) → FillLeft
fill_runs w zero place at out = filled_at place at out
fill_runs w (suc n) place at out =
    onward (fill_runs w n (suc place)) (filled_at place at (w place at out).out) (w place at out).reply (w place at out).out

-- ---- the parts of a sweep

-- the reply for lines, bytes and lines left: 13 where lines are left and none was put
abbrev pub part_reply : (lines bytes left : ℕ) → Part
part_reply lines bytes left = cond (eqb lines 0 && not (eqb left 0)) (NoRoom 13) (Lines lines bytes left)

-- the first line is that of the count, so the run at a place is on line place + 1
abbrev pub part_after : (from runs : ℕ) → FillLeft → PartLeft
part_after from runs f = part_left (part_reply (f.reply.place + 1 - from) f.reply.at (runs - f.reply.place)) f.out

-- the count of runs, and on with the runs
abbrev pub part_first : ((place at : ℕ) → List ℕ → Put) → (runs : ℕ) → Line → (out : List ℕ) → PartLeft
part_first w runs (Past next) out = part_after 0 runs (fill_runs w runs 0 next out)
part_first w runs (NotWritten number) out = part_left (NoRoom number) out

unfoldable pub first_part : ((place at : ℕ) → List ℕ → Put) → (runs : ℕ) → (out : List ℕ) → PartLeft
first_part w runs out = part_first w runs (put 0 (runs_line runs) 0 out).reply (put 0 (runs_line runs) 0 out).out

-- from the count on, from a run on, or past the last one
unfoldable pub runs_part : ((place at : ℕ) → List ℕ → Put) → (runs from : ℕ) → (out : List ℕ) → PartLeft
runs_part w runs from out =
    cond (ltb runs from) (part_left (Lines 0 0 0) out)
    (cond (eqb from 0) (first_part w runs out)
    (part_after from runs (fill_runs w (runs - (from - 1)) (from - 1) 0 out)))

-- one run more than crash points, which are far fewer than 2^32
abbrev pub runs_of : (points : ℕ) → ℕ
runs_of points = min points 4294967294 + 1

-- a script that is refused
abbrev pub refused_part : (number line from : ℕ) → (out : List ℕ) → PartLeft
refused_part number line from out = part_of (drop from (refused_text number line ∷ [])) out

-- ---- the fault-free run

-- what of it the runs are made of: the reply, and the operations recorded
pub record OpenEnd : Type 0 where
  pub reply : Opened
  pub kinds : List ℕ
  pub offsets : List ℕ
  pub lens : List ℕ

abbrev pub open_end : Opened → (kinds offsets lens : List ℕ) → OpenEnd
open_end r k o l = record { reply = r; kinds = k; offsets = o; lens = l }

abbrev pub end_of_open : OpenLeft → OpenEnd
end_of_open o = open_end o.reply o.kinds o.offsets o.lens

-- ---- a script's text

-- the runs, by the operations that the fault-free run recorded
unfoldable pub recorded_part : (judged : Bool) → (from : ℕ) → Head → (rows : ℕ) → Columns → (operations points : ℕ) → (kinds offsets lens : List ℕ) → (out : List ℕ) → PartLeft
recorded_part judged from h rows k n points ks os ls out =
    runs_part (λ (place at : ℕ) (new : List ℕ). run_line_call judged place h rows k (take n ks) (take n os) (take n ls) at new) (runs_of points) from out

abbrev pub opened_part : (judged : Bool) → (from : ℕ) → Head → (rows : ℕ) → Columns → Opened → (kinds offsets lens : List ℕ) → (out : List ℕ) → PartLeft
opened_part judged from h rows k (NotSwept number) ks os ls out = refused_part number 0 from out
opened_part judged from h rows k (Runs n points) ks os ls out = recorded_part judged from h rows k n points ks os ls out

unfoldable pub swept_part : (judged : Bool) → (from : ℕ) → Head → (rows : ℕ) → Columns → (out : List ℕ) → PartLeft
swept_part judged from h rows k out =
    opened_part judged from h rows k (open_on h rows k).reply (open_on h rows k).kinds (open_on h rows k).offsets (open_on h rows k).lens out

-- the columns and the pool that a script is read into
abbrev pub fresh_columns : Columns
fresh_columns = columns (zeros 32768) (zeros 32768) (zeros 32768) (zeros 32768) (zeros 32768) (zeros 32768)

abbrev pub read_part : (judged : Bool) → (from : ℕ) → ReadScript → Columns → (out : List ℕ) → PartLeft
read_part judged from (Read h calls bytes) k out = swept_part judged from h calls k out
read_part judged from (Refused number line) k out = refused_part number line from out

unfoldable pub part_call : (judged : Bool) → (text : List ℕ) → (from : ℕ) → (out : List ℕ) → PartLeft
part_call judged text from out = read_part judged from (read_into text fresh_columns).reply (read_into text fresh_columns).columns out
