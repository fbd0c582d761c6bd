-- Document 01's fixed examples hold of the definitions, and so do those beside them: antt computes each row. Assumes nothing.
use mathlib.Core.Path.{refl}
use mathlib.Core.List.{zip_with}
use lib.Count.{ones}
use Rattle.basics.specs.Tests.{unless, refuse_if, first_of}
use Rattle.basics.specs.Parts.{part}
use Rattle.storage.specs.Geometry.{geometry_test}
use Rattle.storage.specs.Span.{span_test}
use Rattle.device.specs.Media.{anded, any_pair}
use Rattle.device_calls.specs.Calls.{write_refusal, barrier_refusal, program_refusal}
use Rattle.inject.specs.Points.{injections_of, lone, under, progresses, inner, multiples}
use Rattle.landing.specs.Landed.{rounded_up, rounded_down}
use Rattle.session.specs.Tests.{operation_test, mark_test}
use Rattle.session_program.specs.Program.{span_number, bit_test}
use Rattle.records.specs.Records.{any, record_at, records_to, behind, judged, entry_by, ledger_by}
use Rattle.plain.specs.Plain.{act_test, refusal, mark_refusal, wholly, landed_by, completed_by, ending_by, as_cut, after, taken_by, step, run, plain}
use Rattle.plain.specs.Ledger.{orders, changed, withheld, ledger}
use Rattle.examples.specs.Fixed.{FixedExamples, LowestFirst}

pub fixed-examples : FixedExamples
unfolding geometry_test span_test unless refuse_if first_of ones rounded_up rounded_down injections_of lone under progresses inner multiples zip_with part anded any_pair operation_test mark_test span_number bit_test any record_at records_to behind judged entry_by ledger_by act_test refusal mark_refusal wholly landed_by completed_by ending_by as_cut after taken_by step run plain orders changed withheld ledger
fixed-examples = record {
  geometries = record { accepted = refl; zero-unit = refl; no_power = refl; unnested = refl };
  spans = record { misaligned-offset = refl; misaligned-length = refl; past_the_end = refl; at-capacity = refl };
  landings = record { program-power-loss = refl; program-watchdog = refl; erase-power-loss = refl; erase-watchdog = refl };
  points = record { empty = refl; lone-barrier = refl; erase = refl };
  cuts = record { not-torn = refl; torn = refl };
}

pub lowest-first : LowestFirst
unfolding geometry_test span_test unless refuse_if first_of ones write_refusal barrier_refusal program_refusal
lowest-first = record { zero-unit = refl; misaligned-offset = refl }
