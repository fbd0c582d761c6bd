-- `landing::landed_at` meets its contract: what lands is the definition's of either, and so each one's. Assumes nothing.
use mathlib.Core.Path.{◌≡◌}
use Rattle.std.proofs.Common.{rules}
use Rattle.landing.specs.Landed.{landed_by}
use Rattle.landing.proofs.Bounds.{landed-so}
use Rattle.landing.proofs.landed_at.Goals as goal

pub returns-in-PowerLoss : goal.returns-in-PowerLoss
returns-in-PowerLoss c =
    let e : c.steps_of.result ≡ landed_by c.args.injection c.args.len c.args.step c.args.unit = search rules in
    let each = landed-so c.args.injection c.args.len c.args.step c.args.unit _ e in
    record { landed = e; program = each.0; erase = each.1 }

pub returns-in-Watchdog : goal.returns-in-Watchdog
returns-in-Watchdog c =
    let e : c.unit_completed.result ≡ landed_by c.args.injection c.args.len c.args.step c.args.unit = search rules in
    let each = landed-so c.args.injection c.args.len c.args.step c.args.unit _ e in
    record { landed = e; program = each.0; erase = each.1 }
