-- What calls reply, with document 01's number for the answer. Definitions only; assumes nothing.
use Rattle.std.specs.Prelude.{ℕ}
use Rattle.basics.specs.Replies.{number_in}
use Rattle.refusals.specs.Numbers.{number_of}
use Rattle.session.specs.declared.Counters.{Counters}
use Rattle.session.specs.declared.Called.{Called as Reply}
use Rattle.session.specs.declared.Plan.{Plan as Planned}

-- the reply to a call: document 01's number, 0 where nothing is refused and nothing was armed, and the counters after it
pub record Called : Type 0 where
  pub answer : ℕ
  pub counters : Counters

-- the code's value so
abbrev pub told_as : Reply → Called
told_as r = record { answer = number_in number_of r.answer; counters = r.counters }

-- what a program or an erase that is not refused will do: how much of it lands, and its reply
pub record Plan : Type 0 where
  pub landed : ℕ
  pub reply : Called

abbrev pub plan_as : Planned → Plan
plan_as p = record { landed = p.landed; reply = told_as p.reply }
