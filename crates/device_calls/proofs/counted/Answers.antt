-- `device_calls::counted` meets its contract: a length above u32 is told with the geometry's number, where it has one, else 6.
-- Assumes nothing.
use native.Mathlib.Omega.{arith}
use Prim.Native.Nat.{◌^◌, ◌≤◌}
use Rattle.std.proofs.Common.{rules, refl}
use Rattle.storage.specs.Nonzero.{error-nonzero}
use Rattle.device_calls.proofs.Replies.{first-refuses, second-answers, counted-long}
use Rattle.device_calls.proofs.counted.Goals as goal

pub returns-in_err-check : goal.returns-in_err-check
returns-in_err-check c =
    let long : 2 ^ 32 ≤ c.args.buffer = omega (arith, c.in_default.ensures) in
    let t = counted-long c.args.geometry c.args.buffer _ long (first-refuses _ _ 6 c.in_err-check.ensures (error-nonzero _)) in
    search rules

pub returns : goal.returns
returns c =
    let long : 2 ^ 32 ≤ c.args.buffer = omega (arith, c.in_default.ensures) in
    counted-long _ _ _ long (second-answers _ _ _ c.in_ok-check.ensures refl)
