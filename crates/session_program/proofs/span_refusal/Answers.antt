-- `session_program::span_refusal` meets its contract: each way out is one row of the definition's tests. Assumes nothing.
use Prim.Native.Nat.{◌^◌, ◌≤◌}
use native.Mathlib.Omega.{arith}
use Rattle.std.proofs.Common.{rules}
use borrow.Author.Tests.{le-ltb, lt-ltb, ne_eqb}
use Rattle.basics.specs.Tests.{unless, first_of}
use Rattle.storage.specs.Nonzero.{error-nonzero}
use Rattle.session_program.specs.Program.{span_number}
use Rattle.session_program.proofs.span_refusal.Goals as goal

pub returns-in_err-check : goal.returns-in_err-check
unfolding span_number first_of
returns-in_err-check c = let h = ne_eqb _ 0 (error-nonzero c.in_err-check.field-0.0) in search rules

pub returns-in_default : goal.returns-in_default
unfolding span_number unless first_of
returns-in_default c =
    let long : 2 ^ 32 ≤ c.args.bytes = omega (arith, c.in_default.ensures) in
    let l = le-ltb c.args.bytes (2 ^ 32) long in
    search rules

pub returns : goal.returns
unfolding span_number unless first_of
returns c = let l = lt-ltb c.args.bytes (2 ^ 32) c.in-Ok.ensures.0 in search rules
