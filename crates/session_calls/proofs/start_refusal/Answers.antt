-- `session_calls::start_refusal` meets its contract: the tests in order. Assumes nothing.
use Rattle.std.proofs.Common.{rules}
use borrow.Author.Tests.{ne_eqb}
use Rattle.basics.specs.Tests.{first_of}
use Rattle.refusals.specs.Nonzero.{refusal-nonzero}
use Rattle.storage.specs.Nonzero.{error-nonzero}
use Rattle.session.specs.Tests.{start_number}
use Rattle.session_calls.proofs.start_refusal.Goals as goal

pub returns-in_err-check : goal.returns-in_err-check
unfolding start_number first_of
returns-in_err-check c = let h = ne_eqb _ 0 (error-nonzero c.in_err-check.field-0.0) in search rules

pub returns-in_err-size_refusal : goal.returns-in_err-size_refusal
unfolding start_number first_of
returns-in_err-size_refusal c = let h = ne_eqb _ 0 (refusal-nonzero c.in_err-size_refusal.field-0.0) in search rules

pub returns : goal.returns
unfolding start_number first_of
returns c = search rules
