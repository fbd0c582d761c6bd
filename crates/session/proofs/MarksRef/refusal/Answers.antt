-- `session::MarksRef::refusal` meets its contract. Assumes nothing.
use Rattle.std.proofs.Common.{rules}
use Rattle.session.specs.Tests.{marks_length_test}
use Rattle.session.proofs.MarksRef.refusal.Goals as goal

pub returns : goal.returns
unfolding marks_length_test
returns c = search rules
