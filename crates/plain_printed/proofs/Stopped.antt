-- A writer that stops at its first error: of the lines that it reaches a cut run acknowledges what it acknowledges of all of them.
--     marked-none             a mark behind the last operation acknowledges nothing more, and takes nothing back
--     stopped_none            so do calls to a stopped run
--     replies, run-answers    the answers to a list of calls, from any run on
--     reached-all             where the uncut run has no error, the run cut once acknowledges the same whether or not the writer stops
--     writer-whole            a writer that does not fail reaches every line
--     writer-acknowledges     and cut once it acknowledges what the run of all lines does
-- Assumes nothing.
use mathlib.Core.Path.{◌≡◌, refl, sym, ap, ◌∙◌}
use mathlib.Core.Bool.{Bool, true, false, not, cond}
use mathlib.Core.List.{List, [], ◌∷◌, ◌++◌, map, map-append, append-nil, append_assoc}
use Prim.Native.Nat.{ℕ, suc, ◌-◌}
use native.Mathlib.Nat.{suc-ne-zero}
use native.Mathlib.Omega.{arith}
use lib.ListN.{length, take, get_or}
use lib.Dec.{eqb}
use borrow.Author.Tests.{ne_eqb, not-false}
use Rattle.basics.specs.Tests.{first_of}
use Rattle.device.proofs.Pairs.{false_left, false_right}
use Rattle.inject.specs.declared.Interruption.{Interruption}
use Rattle.inject.specs.declared.Interruption.TheVariants.{PowerLoss, Watchdog, Failure}
use Rattle.inject.specs.declared.Injection.{Injection}
use Rattle.landing.specs.Ending.{ending_of, stop_number}
use Rattle.model.specs.Ledger.{Entry, is_acknowledged, picked, ids, acknowledged}
use Rattle.session.specs.declared.Told.{Told}
use Rattle.std.specs.Prelude.{None as Nothing, Some as At}
use Rattle.session.specs.Armed.{cut_by}
use Rattle.session_program.specs.Program.{span_number}
use Rattle.records.specs.Records.{Label, begin, end, RecordMark, Asked, Kept, any, next_place, record_at, records_to, judged, entry_by, ledger_by}
use Rattle.plain.specs.Plain.{Act, program, erase, barrier, Call, act, mark, Op, Run, act_test, refusal, mark_refusal, wholly, landed_by, completed_by, ending_by, refused, taken_by, marked, step, run, unrun, plain}
use Rattle.plain.specs.Ledger.{asked, ledger}
use Rattle.plain.specs.Claims.{CutOnce}
use Rattle.plain.proofs.Runs.{taken-either, unless-either}
use Rattle.plain_printed.specs.Reached.{any_error, through_error, reached, failed_by}

-- ---- a mark behind the last operation

next_last : (last : ℕ) (ms : List RecordMark) (m : RecordMark) → m.place ≡ last → next_place last (ms ++ (m ∷ [])) ≡ next_place last ms
next_last last [] m e = e
next_last last (n ∷ ms) m e = refl

records-more : (last : ℕ) (ops : List Op) (ms : List RecordMark) (m : RecordMark) → m.place ≡ last
    → records_to last ops (ms ++ (m ∷ [])) ≡ records_to last ops ms ++ record_at ops m.label last last
unfolding records_to
records-more last ops [] m e = append-nil _ ∙ ap (λ (p : ℕ). record_at ops m.label p last) e
records-more last ops (n ∷ ms) m e =
    rw (next_last last ms m e, records-more last ops ms m e) (sym (append_assoc (record_at ops n.label n.place (next_place last ms)) (records_to last ops ms) (record_at ops m.label last last)))

picked-less : (es : List Entry) (e : Entry) → is_acknowledged e ≡ false → picked is_acknowledged (es ++ (e ∷ [])) ≡ picked is_acknowledged es
unfolding picked
picked-less [] e h = rw h
picked-less (x ∷ es) e h = ap (λ (l : List Entry). cond (is_acknowledged x) (x ∷ l) l) (picked-less es e h)

-- a record without operations is attempted
empty-attempted : (q : Asked Op) (id : ℕ) (later : List Op) → is_acknowledged (entry_by q (record { id = id; own = []; later = later })) ≡ false
unfolding entry_by any judged
empty-attempted q id later = refl

module _ (r : Run) where
  abbrev n : ℕ
  n = length r.ops

  abbrev entries : List (Kept Op) → List Entry
  entries rs = map (entry_by (asked r.media)) rs

  label-none : (es : List Entry) (l : Label) → picked is_acknowledged (es ++ entries (record_at r.ops l n n)) ≡ picked is_acknowledged es
  unfolding record_at
  label-none es (begin id) =
      let none : n - n ≡ 0 = omega arith in
      rw none (picked-less es _ (empty-attempted (asked r.media) id _))
  label-none es end = rw (append-nil es)

  pub marked-none : (l : Label) → acknowledged (ledger (marked r l)) ≡ acknowledged (ledger r)
  unfolding acknowledged ledger ledger_by
  marked-none l =
      rw (records-more n r.ops r.marks (record { label = l; place = n }) refl, map-append (entry_by (asked r.media)) (records_to n r.ops r.marks) (record_at r.ops l n n))
      (ap ids (label-none (entries (records_to n r.ops r.marks)) l))

-- ---- a stopped run

pub record Stays (r next : Run) : Type 0 where
  pub nothing-more : acknowledged (ledger next) ≡ acknowledged (ledger r)
  pub stop-stays : next.stop ≡ r.stop

refused-stays : (r : Run) (n : ℕ) → Stays r (refused r n)
unfolding ledger
refused-stays r n = record { nothing-more = refl; stop-stays = refl }

stopped-refusal : (t : Told) (r : Run) (a : Act) (k : ℕ) → stop_number r.stop ≡ suc k → refusal t r a ≡ suc k
unfolding refusal first_of
stopped-refusal t r a k e = rw (e, ne_eqb (suc k) 0 (suc-ne-zero k))

stopped-step : (t : Told) (r : Run) (x : Call) (k : ℕ) → stop_number r.stop ≡ suc k → Stays r (step t r x)
unfolding step
stopped-step t r (act a) k e = rw (stopped-refusal t r a k e, ne_eqb (suc k) 0 (suc-ne-zero k)) (refused-stays r (suc k))
stopped-step t r (mark l) k e =
    unless-either (Stays r) (mark_refusal r) r (marked r l) (refused-stays r (mark_refusal r)) (record { nothing-more = marked-none r l; stop-stays = refl })

pub stopped_none : (t : Told) (r : Run) (xs : List Call) (k : ℕ) → stop_number r.stop ≡ suc k → acknowledged (ledger (run t r xs)) ≡ acknowledged (ledger r)
unfolding run
stopped_none t r [] k e = refl
stopped_none t r (x ∷ xs) k e =
    let y : Stays r (step t r x) = stopped-step t r x k e in
    stopped_none t (step t r x) xs k (ap stop_number y.stop-stays ∙ e) ∙ y.nothing-more

-- ---- the answers, from any run on

abbrev pub reply : Told → Run → Call → ℕ
reply t r x = get_or (step t r x).answers (length r.answers) 0

unfoldable pub replies : Told → Run → List Call → List ℕ
replies t r [] = []
replies t r (x ∷ xs) = reply t r x ∷ replies t (step t r x) xs

last-is : (ns : List ℕ) (n : ℕ) → get_or (ns ++ (n ∷ [])) (length ns) 0 ≡ n
last-is [] n = refl
last-is (m ∷ ns) n = last-is ns n

-- a run with one more answer
OneMore : (before after : Run) → Type 0
OneMore r next = next.answers ≡ r.answers ++ (get_or next.answers (length r.answers) 0 ∷ [])

one_more : (ns : List ℕ) (n : ℕ) → ns ++ (n ∷ []) ≡ ns ++ (get_or (ns ++ (n ∷ [])) (length ns) 0 ∷ [])
one_more ns n = ap (λ (m : ℕ). ns ++ (m ∷ [])) (sym (last-is ns n))

step-answers : (t : Told) (r : Run) (x : Call) → OneMore r (step t r x)
unfolding step OneMore
step-answers t r (act a) =
    unless-either (OneMore r) (refusal t r a) r (taken_by t.geometry t.armed r (wholly r.media a)) (one_more r.answers (refusal t r a))
    (taken-either (OneMore r) t.geometry t.armed r (wholly r.media a) (one_more r.answers _) (λ j. one_more r.answers _))
step-answers t r (mark l) = unless-either (OneMore r) (mark_refusal r) r (marked r l) (one_more r.answers (mark_refusal r)) (one_more r.answers 0)

pub run-answers : (t : Told) (r : Run) (xs : List Call) → (run t r xs).answers ≡ r.answers ++ replies t r xs
unfolding run replies OneMore
run-answers t r [] = sym (append-nil r.answers)
run-answers t r (x ∷ xs) =
    run-answers t (step t r x) xs
    ∙ ap (λ (l : List ℕ). l ++ replies t (step t r x) xs) (step-answers t r x)
    ∙ append_assoc r.answers (reply t r x ∷ []) (replies t (step t r x) xs)

all-reached : (t : Told) (r : Run) (xs : List Call) → any_error (replies t r xs) ≡ false → take (through_error (replies t r xs)) xs ≡ xs
unfolding replies any_error through_error
all-reached t r [] e = refl
all-reached t r (x ∷ xs) e =
    let z : eqb (reply t r x) 0 ≡ true = not-false (eqb (reply t r x) 0) (false_left (not (eqb (reply t r x) 0)) _ e) in
    rw z (ap (λ (l : List Call). x ∷ l) (all-reached t (step t r x) xs (false_right (not (eqb (reply t r x) 0)) _ e)))

-- ---- cut once, beside the uncut run

cut-stops : (w : Interruption) (c : Bool) → (w ≡ Failure → ⊥) → (k : ℕ) × (stop_number (ending_of w c).stop ≡ suc k)
cut-stops PowerLoss true n = (20, refl)
cut-stops PowerLoss false n = (20, refl)
cut-stops Watchdog true n = (21, refl)
cut-stops Watchdog false n = (21, refl)
cut-stops Failure c n = absurd (n refl)

module _ (t : Told) (j : Injection) (once : CutOnce (At j)) where
  abbrev free : Told
  free = cut_by t Nothing

  abbrev hit : Told
  hit = cut_by t (At j)

  -- a call is the same in both, or it meets the cut and stops the run
  data Beside (r : Run) (x : Call) : Type 0 where
    same : step hit r x ≡ step free r x → Beside r x
    cut : (k : ℕ) → stop_number (step hit r x).stop ≡ suc k → Beside r x

  refusal-same : (r : Run) (a : Act) → refusal hit r a ≡ refusal free r a
  unfolding refusal act_test span_number
  refusal-same r (program offset bytes) = refl
  refusal-same r (erase offset len) = refl
  refusal-same r barrier = refl

  beside : (r : Run) (x : Call) → Beside r x
  unfolding step taken_by ending_by
  beside r (mark l) = same refl
  beside r (act a) = go (eqb (refusal free r a) 0) (eqb j.op (length r.ops)) refl refl
    where
      go : (b c : Bool) → eqb (refusal free r a) 0 ≡ b → eqb j.op (length r.ops) ≡ c → Beside r (act a)
      go false c e f = same (rw (refusal-same r a, e))
      go true false e f = same (rw (refusal-same r a, e, f))
      go true true e f =
          let o : Op = wholly r.media a in
          let z = cut-stops j.interruption (completed_by j o.kind (landed_by t.geometry j o.kind (length o.want)) (length o.want)) once in
          cut z.0 (rw (refusal-same r a, e, f) z.1)

  reached-all : (r : Run) (xs : List Call) → any_error (replies free r xs) ≡ false
      → acknowledged (ledger (run hit r (take (through_error (replies hit r xs)) xs))) ≡ acknowledged (ledger (run hit r xs))
  unfolding replies any_error through_error run
  reached-all r [] e = refl
  reached-all r (x ∷ xs) e = go (beside r x) (reached-all (step hit r x) xs)
    where
      rest : any_error (replies free (step free r x) xs) ≡ false
      rest = false_right (not (eqb (reply free r x) 0)) _ e

      go : Beside r x
          → (any_error (replies free (step hit r x) xs) ≡ false
          → acknowledged (ledger (run hit (step hit r x) (take (through_error (replies hit (step hit r x) xs)) xs))) ≡ acknowledged (ledger (run hit (step hit r x) xs)))
          → acknowledged (ledger (run hit r (take (through_error (replies hit r (x ∷ xs))) (x ∷ xs)))) ≡ acknowledged (ledger (run hit r (x ∷ xs)))
      go (same p) ih =
          let z : eqb (reply hit r x) 0 ≡ true = ap (λ (y : Run). eqb (get_or y.answers (length r.answers) 0) 0) p ∙ not-false (eqb (reply free r x) 0) (false_left (not (eqb (reply free r x) 0)) _ e) in
          rw z (ih (ap (λ (y : Run). any_error (replies free y xs)) p ∙ rest))
      go (cut k q) ih =
          stopped_none hit (step hit r x) (take (cond (eqb (reply hit r x) 0) (through_error (replies hit (step hit r x) xs)) 0) xs) k q
          ∙ sym (stopped_none hit (step hit r x) xs k q)

-- ---- from the start

module _ (media : List ℕ) (cs : List Call) where
  plain-answers : (t : Told) → (plain t media cs).answers ≡ replies t (unrun media) cs
  unfolding plain
  plain-answers t = run-answers t (unrun media) cs

  pub writer-whole : (t : Told) (on : Bool) → failed_by on (plain t media cs).answers ≡ false → reached on (plain t media cs).answers cs ≡ cs
  writer-whole t true e = refl
  writer-whole t false e =
      ap (λ (ns : List ℕ). take (through_error ns) cs) (plain-answers t) ∙ all-reached t (unrun media) cs (sym (ap any_error (plain-answers t)) ∙ e)

  from_start : (t : Told) (j : Injection) → CutOnce (At j) → any_error (replies (cut_by t Nothing) (unrun media) cs) ≡ false
      → acknowledged (ledger (plain (cut_by t (At j)) media (take (through_error (replies (cut_by t (At j)) (unrun media) cs)) cs)))
      ≡ acknowledged (ledger (plain (cut_by t (At j)) media cs))
  unfolding plain
  from_start t j o e = reached-all t j o (unrun media) cs e

  pub writer-acknowledges : (t : Told) (j : Injection) → CutOnce (At j) → (on : Bool) → failed_by on (plain (cut_by t Nothing) media cs).answers ≡ false
      → acknowledged (ledger (plain (cut_by t (At j)) media (reached on (plain (cut_by t (At j)) media cs).answers cs)))
      ≡ acknowledged (ledger (plain (cut_by t (At j)) media cs))
  writer-acknowledges t j o true e = refl
  writer-acknowledges t j o false e =
      ap (λ (ns : List ℕ). acknowledged (ledger (plain (cut_by t (At j)) media (take (through_error ns) cs)))) (plain-answers (cut_by t (At j)))
      ∙ from_start t j o (sym (ap any_error (plain-answers (cut_by t Nothing))) ∙ e)
