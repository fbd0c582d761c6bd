-- A read that a signal interrupted took nothing.
use Rattle.std.specs.Io.KnownBytes.{Keeps}
use Rattle.printing.proofs.read_some.Given as goal

abbrev pub invariant-loop : goal.invariant-loop
invariant-loop g l = Keeps (g.R.Read.remaining l.initial.input) (g.R.Read.remaining l.input)
