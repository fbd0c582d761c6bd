-- `oracle::Entries::judged` meets its contract: each test that accepts leaves the verdict to the next. Assumes nothing.
use Rattle.std.proofs.Common.{rules}
use Rattle.oracle.specs.Verdict.{first_breach}
use Rattle.oracle.proofs.Say.{verdict-is}
use Rattle.oracle.proofs.Entries.judged.Goals as goal

pub returns-in_err-first_repeat : goal.returns-in_err-first_repeat
unfolding first_breach
returns-in_err-first_repeat c = let v = verdict-is c.args.self.now.columns.ids.now c.args.self.now.columns.states.now c.args.self.now.columns.torn.now c.args.history.now c.args.dispatched.now c.args.banks c.args.self.now.even.0 c.args.self.now.even.1 in search rules

pub returns-in_err-first_fault : goal.returns-in_err-first_fault
unfolding first_breach
returns-in_err-first_fault c = let v = verdict-is c.args.self.now.columns.ids.now c.args.self.now.columns.states.now c.args.self.now.columns.torn.now c.args.history.now c.args.dispatched.now c.args.banks c.args.self.now.even.0 c.args.self.now.even.1 in search rules

pub returns-in_err-first_difference : goal.returns-in_err-first_difference
unfolding first_breach
returns-in_err-first_difference c = let v = verdict-is c.args.self.now.columns.ids.now c.args.self.now.columns.states.now c.args.self.now.columns.torn.now c.args.history.now c.args.dispatched.now c.args.banks c.args.self.now.even.0 c.args.self.now.even.1 in search rules

pub returns-in_err-first_lost : goal.returns-in_err-first_lost
unfolding first_breach
returns-in_err-first_lost c = let v = verdict-is c.args.self.now.columns.ids.now c.args.self.now.columns.states.now c.args.self.now.columns.torn.now c.args.history.now c.args.dispatched.now c.args.banks c.args.self.now.even.0 c.args.self.now.even.1 in search rules

pub returns-in_err-first_unaccounted : goal.returns-in_err-first_unaccounted
unfolding first_breach
returns-in_err-first_unaccounted c = let v = verdict-is c.args.self.now.columns.ids.now c.args.self.now.columns.states.now c.args.self.now.columns.torn.now c.args.history.now c.args.dispatched.now c.args.banks c.args.self.now.even.0 c.args.self.now.even.1 in search rules

pub returns : goal.returns
unfolding first_breach
returns c = let v = verdict-is c.args.self.now.columns.ids.now c.args.self.now.columns.states.now c.args.self.now.columns.torn.now c.args.history.now c.args.dispatched.now c.args.banks c.args.self.now.even.0 c.args.self.now.even.1 in search rules
