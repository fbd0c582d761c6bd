-- Demand 3, the records by the order of events and theorems 2 to 4: what specs/Claims.antt states holds of every told, first media and list of calls. Assumes nothing.
use mathlib.Core.List.{List}
use Prim.Native.Nat.{ℕ}
use Rattle.session.specs.declared.Told.{Told}
use Rattle.plain.specs.Plain.{Call}
use Rattle.plain.specs.Claims.{Claims}
use Rattle.plain.proofs.Events.{records-are}
use Rattle.plain.proofs.Only.{only-the-last}
use Rattle.plain.proofs.Accepted.{run-accepts}
use Rattle.plain.proofs.Later.{uncut-keeps, later-keeps}

pub claims : (t : Told) (media : List ℕ) (xs : List Call) → Claims t media xs
claims t media xs = record {
  records-are = records-are t media xs;
  only-the-last = only-the-last t media xs t.armed;
  accepts-exactly = run-accepts t media xs t.armed;
  later-cuts-keep = λ j k once twice h o. later-keeps t media xs o j k once twice h;
  uncut-keeps = λ j once o. uncut-keeps t media xs o j once;
}
