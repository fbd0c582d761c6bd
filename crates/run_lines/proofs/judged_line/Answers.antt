-- `run_lines::judged_line` meets its contract: as many ids as the list has. Assumes nothing.
use mathlib.Core.Path.{◌≡◌, refl}
use Prim.Native.Nat.{ℕ}
use native.Mathlib.Omega.{arith}
use lib.ListN.{length, replicate, length-replicate}
use Rattle.std.proofs.Common.{rules}
use Rattle.run_lines.proofs.Parts.{judged-refused, judged-listed}
use Rattle.run_lines.proofs.judged_line.Goals as goal

blank-long : length (replicate {A = ℕ} 512 0) ≡ 512
blank-long = length-replicate {A = ℕ} 512 0

pub returns-in_err-count-clause-put : goal.returns-in_err-count-clause-put
returns-in_err-count-clause-put c =
    let l = c.args.ledger.now in
    let t = judged-refused c.args.place l.ids.now l.states.now l.torn.now c.args.to.now.at c.args.to.now.out.now _ blank-long _ _ c.in_err-count.ensures _ refl in
    search rules

pub returns-clause-put : goal.returns-clause-put
returns-clause-put c =
    let l = c.args.ledger.now in
    judged-listed c.args.place l.ids.now l.states.now l.torn.now c.args.to.now.at c.args.to.now.out.now _ blank-long _ _ c.in_ok-count.ensures _ refl (omega arith) _ c.lower-kept.ensures.0 _ c.verdict_line.ensures.put
