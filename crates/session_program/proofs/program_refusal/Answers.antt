-- `session_program::program_refusal` meets its contract: the tests in order, the bytes looked at only where none before refuses. Assumes nothing.
use Rattle.std.proofs.Common.{rules}
use borrow.Author.Tests.{ne_eqb}
use Rattle.basics.specs.Tests.{first_of}
use Rattle.refusals.specs.Nonzero.{refusal-nonzero}
use Rattle.storage.specs.Nonzero.{error-nonzero}
use Rattle.session_program.specs.Program.{program_number}
use Rattle.session_program.proofs.program_refusal.Goals as goal

pub returns-in_err-size_refusal : goal.returns-in_err-size_refusal
unfolding program_number first_of
returns-in_err-size_refusal c = let h = ne_eqb _ 0 (refusal-nonzero c.in_err-size_refusal.field-0.0) in search rules

pub returns-in_err-refusal : goal.returns-in_err-refusal
unfolding program_number first_of
returns-in_err-refusal c = let h = ne_eqb _ 0 (refusal-nonzero c.in_err-refusal.field-0.0) in search rules

pub returns-in_err-refusal-2 : goal.returns-in_err-refusal-2
unfolding program_number first_of
returns-in_err-refusal-2 c = let h = ne_eqb _ 0 (refusal-nonzero c.in_err-refusal-2.field-0.0) in search rules

pub returns-in_err-span_refusal : goal.returns-in_err-span_refusal
unfolding program_number first_of
returns-in_err-span_refusal c = let h = ne_eqb _ 0 (error-nonzero c.in_err-span_refusal.field-0.0) in search rules

pub returns-in_err-bit_refusal : goal.returns-in_err-bit_refusal
unfolding program_number first_of
returns-in_err-bit_refusal c = let h = ne_eqb _ 0 (refusal-nonzero c.in_err-bit_refusal.field-0.0) in search rules

pub returns : goal.returns
unfolding program_number first_of
returns c = search rules
