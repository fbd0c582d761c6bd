-- The page Replies, proved.
--     replies     of `start`, the calls and `ledger`
--     replays     of `replay`
-- Assumes nothing.
use mathlib.Core.Path.{◌≡◌, refl, sym, ap, subst, ◌∙◌}
use mathlib.Core.List.{List, []}
use Prim.Native.Nat.{ℕ, zero, suc}
use native.Mathlib.Nat.{suc-ne-zero}
use native.Mathlib.Omega.{arith}
use lib.ListN.{length, take, drop}
use lib.Seq.{take-append_seam}
use borrow.Author.Tests.{ne_eqb}
use Rattle.device.specs.Media.{new_media}
use Rattle.model.specs.Ledger.{Entry}
use Rattle.oracle.specs.Verdict.{verdict, verified}
use Rattle.session.specs.declared.Told.{Told}
use Rattle.session.specs.declared.Counters.{Counters}
use Rattle.std.specs.Prelude.{None as Nothing, Some as At, Ok, Err}
use Rattle.session.specs.Armed.{cut_by}
use Rattle.session.specs.Log.{Log, Marks}
use Rattle.session.specs.Tests.{start_test, size_test, log_test, marks_test}
use Rattle.session.specs.Start.{fresh, Started, Opened, opened, started}
use Rattle.session.proofs.Refusals.{sizes-fit}
use Rattle.ledger.specs.Ledger.{Derived, Entered}
use Rattle.ledger.proofs.Readback.{first_rows, refused_in, rows_back, reads-back}
use Rattle.plain.specs.Plain.{Call, Run, unrun, plain}
use Rattle.plain.specs.Ledger.{ledger}
use Rattle.plain.specs.Claims.{CutOnce, FirstOfCommitted, Claims}
use Rattle.plain.proofs.Theorems.{claims}
use Rattle.threaded.specs.Threaded.{Session, Fresh, threaded}
use Rattle.threaded.specs.Claim.{plain_of}
use Rattle.threaded.specs.Demand3.{Demand3}
use Rattle.threaded.proofs.Calls.{sizes-are}
use Rattle.threaded.proofs.Same.{all_alike, fresh-alike, same, start-fresh}
use Rattle.threaded.proofs.Demand.{demand-3}
use Rattle.script.specs.Columns.{Columns}
use Rattle.rows.proofs.Numbers.{lengths-known}
use Rattle.steps.specs.Step.{session_of}
use Rattle.replay.specs.Replay.{Lent, list_of, run_of, uneven_of, short_of, replay_number, opening, leaves, Replayed as ReplayReply, replayed, replay_call}
use Rattle.plain_replies.specs.Replies.{ledger_in, judged_in, Judged, Derives, Replies, Replays, Replayed}

-- ---- columns that hold the plain run's ledger

-- and that `model` does not refuse: their verdict is the ledger's
columns-judged : (t : Told) (media : List ℕ) (xs : List Call) (n : ℕ) (e : Entered) → CutOnce t.armed
    → (ledger_in n e ≡ ledger (plain t media xs)) × (refused_in (first_rows n e) ≡ 0) → Judged (plain t media xs) n e
unfolding verified
columns-judged t media xs n e once (l, z) =
    let c : Claims t media xs = claims t media xs in
    let v : (h : List ℕ) (b : _) → judged_in n e h b ≡ verdict (ledger (plain t media xs)) h [] b = λ h b. rw (z, l) in
    record {
      holds = l;
      only-the-last = rw l (c.only-the-last once);
      accepts = λ d b one h.
          let x = (c.accepts-exactly once d).exactly b one h in (
            (λ a. subst (λ (k : List Entry). FirstOfCommitted k h) (sym l) (x.0 (sym (v h b) ∙ a))),
            λ a. v h b ∙ x.1 (subst (λ (k : List Entry). FirstOfCommitted k h) l a),
          );
    }

-- ---- `start`, the calls, `ledger`

-- a start that answered counters was not refused
unrefused : (t : Told) (media copy : List ℕ) (l : Log) (m : Marks) (c : Counters) (left : List ℕ) (number : ℕ)
    → start_test t.geometry (length media) (length copy) l m ≡ number → started t media (length copy) l m ≡ opened (Ok c) left
    → start_test t.geometry (length media) (length copy) l m ≡ 0
unfolding started
unrefused t media copy l m c left zero e q = e
unrefused t media copy l m c left (suc k) e q =
    let r : opened (Err (suc k)) media ≡ opened (Ok c) left = rw (e, ne_eqb (suc k) 0 (suc-ne-zero k)) at q in
    let z : ◌≡◌ {A = Started} (Err (suc k)) (Ok c) = ap (λ (y : Opened). y.reply) r in
    let v : ◌≡◌ {A = ℕ} 0 1 = cc in
    omega arith

started-fresh : (t : Told) (media copy : List ℕ) (l : Log) (m : Marks) (c : Counters) (left : List ℕ)
    → started t media (length copy) l m ≡ opened (Ok c) left → Fresh t (session_of c left copy l m)
started-fresh t media copy l m c left q =
    let z = start-fresh t media copy l m (unrefused t media copy l m c left _ refl q) in
    let both : opened (Ok fresh) (new_media (length media)) ≡ opened (Ok c) left = sym z.0 ∙ q in
    let a : fresh ≡ c = inside c (ap (λ (y : Opened). y.reply) both) in
    let b : new_media (length media) ≡ left = ap (λ (y : Opened). y.media) both in
    subst (λ (k : Counters). Fresh t (session_of k left copy l m)) a (subst (λ (d : List ℕ). Fresh t (session_of fresh d copy l m)) b z.1)
  where
    inside : (k : Counters) → ◌≡◌ {A = Started} (Ok fresh) (Ok k) → fresh ≡ k
    inside k w = cc

after-a-start : (t : Told) (media copy : List ℕ) (l : Log) (m : Marks) (c : Counters) (left : List ℕ)
    → started t media (length copy) l m ≡ opened (Ok c) left → (xs : List Call)
    → Fresh t (session_of c left copy l m) × Demand3 t (session_of c left copy l m) xs
after-a-start t media copy l m c left q xs =
    let f : Fresh t (session_of c left copy l m) = started-fresh t media copy l m c left q in
    (f, demand-3 t (session_of c left copy l m) xs f)

lengths-stay : (t : Told) (s : Session) → Fresh t s → (xs : List Call)
    → (size_test t.geometry (length (threaded t s xs).session.media) (length (threaded t s xs).session.copy) ≡ 0)
    × (log_test (threaded t s xs).session.log ≡ 0) × (marks_test (threaded t s xs).session.marks ≡ 0)
lengths-stay t s f xs =
    let z = (all_alike t s (unrun s.media) xs (fresh-alike t s f)).0 in
    (sizes-are t (threaded t s xs).session _ z, z.log-fits, z.marks-fit)

-- the columns that `ledger` left hold the plain run's ledger
derived-rows : (t : Told) (s : Session) (xs : List Call) (n : ℕ) (e : Entered) → Derives t s xs n e
    → (ledger_in n e ≡ ledger (plain_of t s xs)) × (refused_in (first_rows n e) ≡ 0)
derived-rows t s xs n e d =
    let last : Session = (threaded t s xs).session in
    let back = reads-back t last.counters last.media last.copy last.log last.marks d.lent n e d.derives in
    (back.0 ∙ (same t s xs d.fresh).entries, back.1)

pub replies : Replies
replies = record {
  after-a-start = after-a-start;
  lengths-stay = lengths-stay;
  judged = λ t s xs n e d once. columns-judged t s.media xs n e once (derived-rows t s xs n e d);
  later-cuts-keep = λ t s s' xs m j k once twice h o n n' e e' d d'.
      rw ((derived-rows (cut_by t (At j)) s xs n e d).0, (derived-rows (cut_by t (At k)) s' xs n' e' d').0, ← m)
      ((claims t s.media xs).later-cuts-keep j k once twice h o);
  uncut-keeps = λ t s s' xs m j once o n n' e e' d d'.
      rw ((derived-rows (cut_by t (At j)) s xs n e d).0, (derived-rows (cut_by t Nothing) s' xs n' e' d').0, ← m)
      ((claims t s.media xs).uncut-keeps j once o);
}

-- ---- `replay`

module _ (t : Told) (rows : ℕ) (k : Columns) (x : Lent) (n : ℕ) (y : Lent) where
  abbrev run : Run
  run = run_of t rows k x

  abbrev last : Session
  last = (threaded t (opening x) (list_of rows k)).session

  -- it was not refused, and left the plain run
  record Left : Type 0 where
    passes : replay_number t rows k x ≡ 0
    many : length (ledger run) ≡ n
    leaves-it : leaves run last x ≡ y

  left-by : (number : ℕ) → replay_number t rows k x ≡ number → Replays t rows k x n y → Left
  unfolding replay_call
  left-by zero e q =
      let r : replayed (Ok (length (ledger run))) (leaves run last x) ≡ replayed (Ok n) y = rw e at q in
      record { passes = e; many = inside (length (ledger run)) (ap (λ (z : ReplayReply). z.reply) r); leaves-it = ap (λ (z : ReplayReply). z.lent) r }
    where
      inside : (a : ℕ) → ◌≡◌ {A = Derived} (Ok a) (Ok n) → a ≡ n
      inside a w = cc
  left-by (suc m) e q =
      let r : replayed (Err (suc m)) x ≡ replayed (Ok n) y = rw (e, ne_eqb (suc m) 0 (suc-ne-zero m)) at q in
      let z : ◌≡◌ {A = Derived} (Err (suc m)) (Ok n) = ap (λ (z : ReplayReply). z.reply) r in
      let v : ◌≡◌ {A = ℕ} 0 1 = cc in
      absurd (suc-ne-zero 0 (sym v))

  module _ (q : Replays t rows k x n y) where
    left : Left
    left = left-by (replay_number t rows k x) refl q

    answers-left : take (length run.answers) y.answers ≡ run.answers
    answers-left =
        ap (λ (z : Lent). take (length run.answers) z.answers) (sym left.leaves-it)
        ∙ take-append_seam run.answers (drop (length run.answers) x.answers)

    media-left : y.media ≡ run.media
    media-left = ap (λ (z : Lent). z.media) (sym left.leaves-it)

    rows_left : (ledger_in n y.entries ≡ ledger run) × (refused_in (first_rows n y.entries) ≡ 0)
    rows_left =
        subst (λ (a : ℕ). (ledger_in a y.entries ≡ ledger run) × (refused_in (first_rows a y.entries) ≡ 0)) left.many
        (subst (λ (z : Lent). (ledger_in (length (ledger run)) z.entries ≡ ledger run) × (refused_in (first_rows (length (ledger run)) z.entries) ≡ 0)) left.leaves-it
        (rows_back (ledger run) x.entries))

    -- media of another length are refused
    media-long : length x.media ≡ t.geometry.capacity
    media-long =
        (sizes-fit t.geometry (length x.media) (length x.copy)
        (lengths-known t.geometry (length x.media) (length x.copy) (uneven_of x) (short_of rows (length (ledger run)) x) 4 rows k left.passes).sizes-pass
        ).0

pub replays : Replayed
replays = record {
  answers = answers-left;
  media = media-left;
  judged = λ t rows k x n y q once. columns-judged t (new_media (length x.media)) (list_of rows k) n y.entries once (rows_left t rows k x n y q);
  later-cuts-keep = λ t rows k x x' i j once twice h o n n' y y' q q'.
      rw (
        (rows_left (cut_by t (At i)) rows k x n y q).0,
        (rows_left (cut_by t (At j)) rows k x' n' y' q').0,
        media-long (cut_by t (At j)) rows k x' n' y' q' ∙ sym (media-long (cut_by t (At i)) rows k x n y q),
      )
      ((claims t (new_media (length x.media)) (list_of rows k)).later-cuts-keep i j once twice h o);
  uncut-keeps = λ t rows k x x' i once o n n' y y' q q'.
      rw (
        (rows_left (cut_by t (At i)) rows k x n y q).0,
        (rows_left (cut_by t Nothing) rows k x' n' y' q').0,
        media-long (cut_by t Nothing) rows k x' n' y' q' ∙ sym (media-long (cut_by t (At i)) rows k x n y q),
      )
      ((claims t (new_media (length x.media)) (list_of rows k)).uncut-keeps i once o);
}
