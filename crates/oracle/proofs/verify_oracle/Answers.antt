-- `oracle::verify_oracle` meets its contract: it refuses what the columns' own test refuses, and judges the rest. Assumes nothing.
use Rattle.std.proofs.Common.{rules}
use Rattle.oracle.proofs.Say.{refused-12, long-states, long-torn, judged-is}
use Rattle.oracle.proofs.verify_oracle.Goals as goal

pub returns-in_err-map_err : goal.returns-in_err-map_err
returns-in_err-map_err c =
    let l = c.args.ledger.now in
    let t = refused-12 l.ids.now l.states.now l.torn.now c.args.history.now c.args.dispatched.now c.args.banks c.refusal.result c.map_err.result _ c.refusal.ensures c.map_err.ensures.cases (λ n x q. search rules) _ c.in_err-map_err.was in
    search rules

pub invariant_of-entries : goal.invariant_of-entries
invariant_of-entries c =
    let l = c.args.ledger.now in
    record {
      even = (
        long-states l.ids.now l.states.now l.torn.now c.args.history.now c.args.dispatched.now c.args.banks c.refusal.result c.map_err.result _ c.refusal.ensures c.map_err.ensures.cases (λ n x q. search rules) c.in_ok-map_err.was,
        long-torn l.ids.now l.states.now l.torn.now c.args.history.now c.args.dispatched.now c.args.banks c.refusal.result c.map_err.result _ c.refusal.ensures c.map_err.ensures.cases (λ n x q. search rules) c.in_ok-map_err.was,
      );
    }

pub returns : goal.returns
returns c =
    let l = c.args.ledger.now in
    judged-is l.ids.now l.states.now l.torn.now c.args.history.now c.args.dispatched.now c.args.banks c.refusal.result c.map_err.result _ c.refusal.ensures c.map_err.ensures.cases (λ n x q. search rules) c.in_ok-map_err.was c.judged.result c.judged.ensures
