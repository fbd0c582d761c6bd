-- Document 01, "Scripts and the two programs": the fault-free run, and whether there is a sweep. Definitions only; assumes nothing.
use Rattle.std.specs.Prelude.{cond, List, Result, Ok, Err, Ok as Points, Err as NotCounted, ℕ, take, None as Nothing}
use Rattle.refusals.specs.declared.Refusal.{Refusal}
use Rattle.refusals.specs.Numbers.{number_of}
use Rattle.harness.specs.declared.Sweep.{Sweep}
use Rattle.inject.specs.Answers.{counted}
use Rattle.script.specs.declared.Head.{Head}
use Rattle.script.specs.Calls.{Call}
use Rattle.script.specs.Columns.{Columns}
use Rattle.script.specs.Held.{calls_in}
use Rattle.harness_runs.specs.Running.{Ran, Ended, NotRun, zeros, RunLeft, run_call, no_entries, cells}
use Rattle.sweeps.specs.Decided.{meets26}

-- how many operations the fault-free run recorded, and how many crash points they have; or the number that refuses the sweep
pub data Opened : Type 0 where
  Runs : (operations points : ℕ) → Opened
  NotSwept : (number : ℕ) → Opened

-- the code's answer so
abbrev pub opened_as : Result Sweep Refusal → Opened
opened_as (Ok s) = Runs s.operations s.points
opened_as (Err e) = NotSwept (number_of e)

-- the operations recorded and how many crash points they have; over columns of 1,024 rows no script's operations are refused here
-- (`counts-pass` of `text_of_runs`)
abbrev pub open_count : (operations : ℕ) → Result ℕ ℕ → Opened
open_count operations (Points points) = Runs operations points
open_count operations (NotCounted number) = NotSwept number

-- a fault-free run that did not fail: "A 26 at any point refuses the whole sweep."
unfoldable pub open_points : Head → (operations : ℕ) → List Call → (kinds offsets lens : List ℕ) → Opened
open_points h operations xs kinds offsets lens =
    cond (meets26 h xs) (NotSwept 26) (open_count operations (counted h.geometry (take operations kinds) (take operations offsets) (take operations lens)))

-- "24: the fault-free writer returned an error."
abbrev pub open_reply : Head → List Call → Ran → (kinds offsets lens : List ℕ) → Opened
open_reply h xs (NotRun number) ks os ls = NotSwept number
open_reply h xs (Ended stop operations entries failed) ks os ls = cond failed (NotSwept 24) (open_points h operations xs ks os ls)

-- what is left: the reply, media and copy, and the operations that the fault-free run recorded
pub record OpenLeft : Type 0 where
  pub reply : Opened
  pub media : List ℕ
  pub copy : List ℕ
  pub kinds : List ℕ
  pub offsets : List ℕ
  pub lens : List ℕ

abbrev pub open_left : Opened → (media copy kinds offsets lens : List ℕ) → OpenLeft
open_left r d c k o l = record { reply = r; media = d; copy = c; kinds = k; offsets = o; lens = l }

abbrev pub opened_with : Head → List Call → RunLeft → OpenLeft
opened_with h xs w = open_left (open_reply h xs w.reply w.kinds w.offsets w.lens) w.media w.copy w.kinds w.offsets w.lens

unfoldable pub open_call : Head → (rows : ℕ) → Columns → (media copy kinds offsets lens : List ℕ) → OpenLeft
open_call h rows k media copy ks os ls =
    opened_with h (calls_in rows k) (run_call h Nothing rows k media copy ks os ls no_entries)

-- over columns of zeros
unfoldable pub open_on : Head → (rows : ℕ) → Columns → OpenLeft
open_on h rows k = open_call h rows k (cells h) (cells h) (zeros 1024) (zeros 1024) (zeros 1024)
