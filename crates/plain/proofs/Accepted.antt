-- Theorem 3: which histories the verdict accepts of a run's ledger, and that there is one. By demand 2's `accepts-exactly` an accepted
-- history is a beginning of the committed ids with every acknowledged one and no torn one. Assumes nothing.
use mathlib.Core.Path.{◌≡◌, refl, sym, ap}
use mathlib.Core.Bool.{true, not, false≢true}
use mathlib.Core.List.Memᴰ
use mathlib.Core.List.{List, [], ◌++◌}
use Prim.Native.Nat.{ℕ, ◌≤◌}
use native.Mathlib.Omega.{arith}
use lib.ListN.{length, take, drop, length-append, take-append-drop}
use lib.Seq.{take-append_seam}
use lib.Dec.{eqb}
use Rattle.model.specs.declared.Durability.{Durability}
use Rattle.model.specs.declared.Durability.TheVariants.{Attempted, PossiblyDurable, Acknowledged}
use Rattle.model.specs.Ledger.{Entry, code_of, is_committed, is_acknowledged, is_torn, ids, picked, committed, acknowledged, torn}
use Rattle.id_columns.specs.Ids.{Distinct}
use Rattle.oracle.specs.Verdict.{Banks}
use Rattle.oracle_legal.specs.Legal.{Legal, AbsentOrOne}
use Rattle.oracle_legal.proofs.Acceptance.{accepts-exactly}
use Rattle.session.specs.declared.Told.{Told}
use Rattle.session.specs.Armed.{Armed, cut_by}
use Rattle.plain.specs.Plain.{Call, Run, plain}
use Rattle.plain.specs.Ledger.{ledger, begun}
use Rattle.plain.specs.Claims.{CutOnce, OnlyTheLast, FirstOfCommitted, AcceptsExactly}
use Rattle.plain.proofs.Flags.{first-true}
use Rattle.plain.proofs.Only.{only-the-last}
use Rattle.plain.proofs.Histories.{picked-twice, picked-distinct, reaches, holds-all, stays-short, holds-none, TornOrAcknowledged, picked-either, acknowledged-untorn}
use Rattle.plain.proofs.Entries.{ledger-ids, ledger-either}

-- ---- the torn and the acknowledged are committed

torn-committed : (e : Entry) → is_torn e ≡ true → is_committed e ≡ true
torn-committed e t = first-true (is_committed e) e.mark t

acknowledged-committed : (e : Entry) → is_acknowledged e ≡ true → is_committed e ≡ true
acknowledged-committed e t = go e.state t
  where
    go : (s : Durability) → eqb (code_of s) 2 ≡ true → not (eqb (code_of s) 0) ≡ true
    go Attempted t = absurd (false≢true t)
    go PossiblyDurable t = refl
    go Acknowledged t = refl

-- ---- of any ledger in which only the last committed record can be torn and no torn one is acknowledged

module _ (l : List Entry) (last : OnlyTheLast l) (either : TornOrAcknowledged l) (different : Distinct (ids l)) where
  abbrev entries : List Entry
  entries = picked is_committed l

  ids-different : Distinct (ids entries)
  ids-different = picked-distinct is_committed l different

  same-torn : torn l ≡ ids (picked is_torn entries)
  unfolding torn
  same-torn = ap ids (sym (picked-twice is_torn is_committed torn-committed l))

  same-acknowledged : acknowledged l ≡ ids (picked is_acknowledged entries)
  unfolding acknowledged
  same-acknowledged = ap ids (sym (picked-twice is_acknowledged is_committed acknowledged-committed l))

  first-of : (b : Banks) (h : List ℕ) → Legal l h [] b → FirstOfCommitted l h
  unfolding committed
  first-of b h g =
      let joined : h ++ g.beginning.rest ≡ ids entries = g.beginning.joined in
      let e : take (length h) (ids entries) ≡ h = rw (← joined) (take-append_seam h g.beginning.rest) in
      let n : length h ≤ length (ids entries) = rw (← joined, length-append) (omega arith) in
      record {
        n = length h;
        least = reaches (length h) entries ids-different (rw (e, ← same-acknowledged) g.kept);
        most = stays-short (length h) entries last n (rw (e, ← same-torn) g.untorn);
        first = sym e;
      }

  legal : (b : Banks) (h : List ℕ) → AbsentOrOne b → FirstOfCommitted l h → Legal l h [] b
  unfolding committed
  legal b h one f = record {
    distinct = different;
    beginning = record { rest = drop f.n (ids entries); joined = rw f.first (take-append-drop f.n (ids entries)) };
    untorn = rw (f.first, same-torn) (holds-none f.n entries ids-different last f.most);
    kept = rw (f.first, same-acknowledged) (holds-all f.n entries f.least);
    accounted = λ x m. absurd (Memᴰ.not-nil m);
    banks = one;
  }

  accepted : AcceptsExactly l
  accepted = record {
    exactly = λ b one h. (
      (λ v. first-of b h ((accepts-exactly l h [] b).0 v)),
      λ f. (accepts-exactly l h [] b).1 (legal b h one f),
    );
    one-at-least = acknowledged-untorn entries last (picked-either is_committed l either);
  }

-- ---- of a run's

pub run-accepts : (t : Told) (media : List ℕ) (xs : List Call) (a : Armed) → CutOnce a → Distinct (begun (plain (cut_by t a) media xs).marks)
    → AcceptsExactly (ledger (plain (cut_by t a) media xs))
run-accepts t media xs a once different =
    let r : Run = plain (cut_by t a) media xs in
    accepted (ledger r) (only-the-last t media xs a once) (ledger-either r) (rw (← ledger-ids r) at different)
