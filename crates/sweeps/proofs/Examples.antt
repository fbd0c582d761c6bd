-- Document 01's worked example, computed. Assumes nothing.
use mathlib.Core.Path.{◌≡◌, refl}
use mathlib.Core.List.{[], ◌∷◌, zip_with}
use lib.Count.{ones}
use Rattle.basics.specs.Parts.{part, overlaid, on_part}
use Rattle.basics.specs.Tests.{unless, refuse_if, first_of}
use Rattle.device.specs.Media.{anded, programmed, erased, any_pair, would_set_a_bit, postimage, differs_from, erase_would_change}
use Rattle.digest.specs.Fnv.{mixed, digest_of}
use Rattle.history.specs.History.{suggested}
use Rattle.lines.specs.Lines.{sweep_line, judge_line, lines_from}
use Rattle.sweeps.specs.Sweep.{run_by, held_run, points_of, swept_of}
use Rattle.inject.specs.Answers.{list_test}
use Rattle.inject.specs.Ops.{ops_of, known}
use Rattle.inject.specs.Points.{multiples, inner, progresses, under, lone, injections_of}
use Rattle.landing.specs.Landed.{rounded_up, rounded_down}
use Rattle.ledger.specs.Ledger.{rows_from, rows_of, marks_from, marks_listed, outstanding, ledger_of_run, codes_known, counts_short, ledger_number, ledger_call}
use Rattle.records.specs.Records.{any, record_at, records_to, behind, judged, entry_by, ledger_by}
use Rattle.model.specs.Columns.{ledger_of, all_up_to, refused}
use Rattle.id_columns.specs.Ids.{has, place_of}
use Rattle.model.specs.Ledger.{ids, picked, committed, acknowledged, torn, lookup}
use Rattle.script.specs.Calls.{is_bytes, call_of, meaning_of, read_lines}
use Rattle.script.specs.Columns.{starts_of, bytes_of, written, room_for, read_into}
use Rattle.script.specs.First.{headed, head_of, first_of_line, head_test}
use Rattle.script.specs.Print.{joined, print_calls, printed}
use Rattle.script.specs.Script.{script_of}
use Rattle.session.specs.Armed.{next_count, write_reply}
use Rattle.session.specs.Barrier.{barrier_number, barrier_reply, barriered}
use Rattle.session.specs.Marks.{marked_from}
use Rattle.session.specs.Read.{read_number, read_by}
use Rattle.session.specs.Start.{started}
use Rattle.session.specs.Tests.{size_test, log_length_test, marks_length_test, start_number, operation_test, mark_test, marks_number}
use Rattle.session_erase.specs.Erase.{erase_number, erase_plan, erase_landing, erase_call}
use Rattle.session_program.specs.Program.{span_number, bit_test, program_number, program_plan, program_landing, program_call}
use Rattle.storage.specs.Geometry.{geometry_test}
use Rattle.storage.specs.Span.{span_test}
use Rattle.text.specs.Fields.{field_to}
use Rattle.text.specs.Lines.{lines_of, fields_of}
use Rattle.text.specs.Numbers.{is_digit, all_digits, value_from, is_number, number_of, decimal_in}
use Rattle.text.specs.Pairs.{is_letter, is_hex, all_hex, is_pairs, hex_of, pair_values, pairs_text}
use Rattle.threaded.specs.Threaded.{answered, threaded}
use Rattle.held.specs.Held.{same, same_op, same_label, below, same_through, held_number}
use Rattle.steps.specs.Writer.{line_answered, wrote}
use Rattle.sweeps.specs.Sweep.{sweep_output}

pub worked-example : sweep_output (71 ∷ 9 ∷ 52 ∷ 9 ∷ 52 ∷ 9 ∷ 49 ∷ 9 ∷ 49 ∷ 9 ∷ 97 ∷ 9 ∷ 115 ∷ 10 ∷ 66 ∷ 9 ∷ 55 ∷ 10 ∷ 80 ∷ 9 ∷ 48 ∷ 9 ∷ 48 ∷ 48 ∷ 10 ∷ 83 ∷ 10 ∷ 78 ∷ 10 ∷ []) ≡ 114 ∷ 117 ∷ 110 ∷ 115 ∷ 9 ∷ 49 ∷ 49 ∷ 10 ∷ 48 ∷ 9 ∷ 45 ∷ 9 ∷ 45 ∷ 9 ∷ 45 ∷ 9 ∷ 45 ∷ 9 ∷ 50 ∷ 9 ∷ 55 ∷ 107 ∷ 10 ∷ 49 ∷ 9 ∷ 112 ∷ 9 ∷ 48 ∷ 9 ∷ 110 ∷ 9 ∷ 112 ∷ 9 ∷ 49 ∷ 9 ∷ 55 ∷ 97 ∷ 10 ∷ 50 ∷ 9 ∷ 112 ∷ 9 ∷ 48 ∷ 9 ∷ 97 ∷ 9 ∷ 112 ∷ 9 ∷ 49 ∷ 9 ∷ 55 ∷ 100 ∷ 10 ∷ 51 ∷ 9 ∷ 112 ∷ 9 ∷ 49 ∷ 9 ∷ 97 ∷ 9 ∷ 112 ∷ 9 ∷ 50 ∷ 9 ∷ 55 ∷ 107 ∷ 10 ∷ 52 ∷ 9 ∷ 119 ∷ 9 ∷ 48 ∷ 9 ∷ 110 ∷ 9 ∷ 119 ∷ 9 ∷ 49 ∷ 9 ∷ 55 ∷ 97 ∷ 10 ∷ 53 ∷ 9 ∷ 119 ∷ 9 ∷ 48 ∷ 9 ∷ 97 ∷ 9 ∷ 119 ∷ 9 ∷ 49 ∷ 9 ∷ 55 ∷ 100 ∷ 10 ∷ 54 ∷ 9 ∷ 119 ∷ 9 ∷ 49 ∷ 9 ∷ 110 ∷ 9 ∷ 119 ∷ 9 ∷ 50 ∷ 9 ∷ 55 ∷ 100 ∷ 10 ∷ 55 ∷ 9 ∷ 119 ∷ 9 ∷ 49 ∷ 9 ∷ 97 ∷ 9 ∷ 119 ∷ 9 ∷ 50 ∷ 9 ∷ 55 ∷ 100 ∷ 10 ∷ 56 ∷ 9 ∷ 102 ∷ 9 ∷ 48 ∷ 9 ∷ 110 ∷ 9 ∷ 45 ∷ 9 ∷ 49 ∷ 9 ∷ 55 ∷ 97 ∷ 10 ∷ 57 ∷ 9 ∷ 102 ∷ 9 ∷ 48 ∷ 9 ∷ 97 ∷ 9 ∷ 45 ∷ 9 ∷ 49 ∷ 9 ∷ 55 ∷ 100 ∷ 10 ∷ 49 ∷ 48 ∷ 9 ∷ 102 ∷ 9 ∷ 49 ∷ 9 ∷ 110 ∷ 9 ∷ 45 ∷ 9 ∷ 50 ∷ 9 ∷ 55 ∷ 100 ∷ 10 ∷ []
unfolding part overlaid on_part unless refuse_if first_of anded programmed erased any_pair would_set_a_bit postimage differs_from erase_would_change mixed digest_of sweep_line suggested judge_line lines_from run_by points_of swept_of list_test ops_of known multiples inner progresses under lone injections_of rounded_up rounded_down rows_from rows_of marks_from marks_listed outstanding ledger_of_run codes_known counts_short ledger_number ledger_call any record_at records_to behind judged entry_by ledger_by ledger_of all_up_to refused has place_of ids picked committed acknowledged torn lookup is_bytes call_of meaning_of read_lines starts_of bytes_of written room_for read_into headed head_of first_of_line head_test joined print_calls printed script_of next_count write_reply barrier_number barrier_reply barriered marked_from read_number read_by started size_test log_length_test marks_length_test start_number operation_test mark_test marks_number erase_number erase_plan erase_landing erase_call span_number bit_test program_number program_plan program_landing program_call geometry_test span_test field_to lines_of fields_of is_digit all_digits value_from is_number number_of decimal_in is_letter is_hex all_hex is_pairs hex_of pair_values pairs_text answered threaded same same_op same_label below same_through held_number held_run line_answered wrote zip_with ones
worked-example = refl
