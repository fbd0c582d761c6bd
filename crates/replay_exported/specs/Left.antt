-- The layer `replay` with its answer as numbers. Definitions only; assumes nothing.
use Rattle.std.specs.Prelude.{Ok as Entries, Err as NotDerived, ℕ}
use Rattle.ledger.specs.Ledger.{Derived}
use Rattle.replay.specs.Replay.{Lent, Replayed}

-- the number, how many entries the ledger has, and all that is lent
pub record ReplayLeft : Type 0 where
  pub answer : ℕ
  pub entries : ℕ
  pub lent : Lent

abbrev pub replay_left : (answer entries : ℕ) → Lent → ReplayLeft
replay_left a n x = record { answer = a; entries = n; lent = x }

-- a run that is not refused has the number of its ledger's entries put over what stood there
abbrev pub left_by : (old : ℕ) → Lent → Derived → ReplayLeft
left_by old x (Entries n) = replay_left 0 n x
left_by old x (NotDerived number) = replay_left number old x

abbrev pub replayed_over : (old : ℕ) → Replayed → ReplayLeft
replayed_over old x = left_by old x.lent x.reply
