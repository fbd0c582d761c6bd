-- Document 01, "session.rs (974)": what a program and an erase share, and what they leave. Definitions only; assumes nothing.
use Rattle.std.specs.Prelude.{Bool, cond, List, ℕ, ◌+◌, ◌-◌, eqb}
use Rattle.session.specs.declared.Counters.{Counters}
use Rattle.session.specs.Replies.{Called, Plan}
use Rattle.session.specs.declared.Entry.{Entry}
use Rattle.session.specs.Log.{Log, logged}
use Rattle.session.specs.Armed.{Armed, write_reply}

-- how much lands, and the reply: "If the landed length equals the length, the operation completed."
abbrev pub planned_at : Counters → Armed → (len landed place : ℕ) → Plan
planned_at c a len landed place = record { landed = landed; reply = write_reply c a (eqb landed len) place (len - landed) }

-- what did not land starts behind what did
abbrev pub planned : Counters → Armed → (offset len landed : ℕ) → Plan
planned c a offset len landed = planned_at c a len landed (offset + landed)

-- where `lands` tells how much of it lands by what is armed
abbrev pub planned_by : Counters → Armed → (offset len : ℕ) → (lands : Armed → ℕ) → Plan
planned_by c a offset len lands = planned c a offset len (lands a)

-- media and copy after, and whether a cell of the media changed
pub record Landing : Type 0 where
  pub media : List ℕ
  pub copy : List ℕ
  pub changed : Bool

-- what is left: its reply, the media, the withheld copy and the log
pub record Written : Type 0 where
  pub reply : Called
  pub media : List ℕ
  pub copy : List ℕ
  pub log : Log

abbrev pub written : Called → (media copy : List ℕ) → Log → Written
written r m k l = record { reply = r; media = m; copy = k; log = l }

-- one that is taken: it is recorded at the count, and `entry` has whether cells changed and what it answered
abbrev pub landed_so : Counters → (entry : Bool → ℕ → Entry) → Called → Landing → Log → Written
landed_so c entry r d l = written r d.media d.copy (logged l c.operations (entry d.changed r.answer))

-- a call that its tests refuse answers their number and changes nothing
abbrev pub written_by : (number : ℕ) → Counters → (media copy : List ℕ) → Log → (taken : Written) → Written
written_by number c media copy l taken = cond (eqb number 0) taken (written (record { answer = number; counters = c }) media copy l)
