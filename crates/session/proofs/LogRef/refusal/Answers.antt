-- `session::LogRef::refusal` meets its contract. Assumes nothing.
use Rattle.std.proofs.Common.{rules}
use Rattle.session.specs.Tests.{log_length_test}
use Rattle.session.proofs.LogRef.refusal.Goals as goal

pub returns : goal.returns
unfolding log_length_test
returns c = search rules
