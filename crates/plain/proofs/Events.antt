-- The plain run's records, by the order of events.
--     records-are     "the operations taken from a taken begin to the next taken mark or the list's end"
-- Assumes nothing.
use mathlib.Core.Path.{◌≡◌, refl, sym, ap, ◌∙◌}
use mathlib.Core.List.{List, [], ◌∷◌, ◌++◌, append_assoc, append-nil}
use Prim.Native.Nat.{ℕ, ◌+◌}
use lib.ListN.{length, length-append}
use lib.Seq.{drop-length, drop-append_seam}
use Rattle.session.specs.declared.Told.{Told}
use Rattle.landing.specs.declared.Stop.{Stop}
use Rattle.records.specs.Records.{Label, RecordMark}
use Rattle.records.specs.Events.{Event, ops_in, records_in, marks_after}
use Rattle.records.proofs.Events.{records-in-order, ops-joined, marks-joined}
use Rattle.plain.specs.Plain.{Call, act, mark, Op, Run, refusal, mark_refusal, wholly, refused, taken, marked, step, run, unrun, plain}
use Rattle.plain.specs.Ledger.{records}
use Rattle.plain.specs.Events.{added, events_from, events}
use Rattle.plain.proofs.Runs.{taken-either, unless-either}

-- ---- one call

-- a run and the one before it, by what came between them
record Grown (r next : Run) (es : List (Event Op)) : Type 0 where
  ops-are : next.ops ≡ r.ops ++ ops_in es
  marks-are : next.marks ≡ r.marks ++ marks_after (length r.ops) es

abbrev Grows : Run → Run → Type 0
Grows r next = Grown r next (added r next)

refused-grows : (r : Run) (number : ℕ) → Grows r (refused r number)
unfolding ops_in marks_after
refused-grows r number =
    rw (drop-length r.ops, drop-length r.marks) (record { ops-are = sym (append-nil r.ops); marks-are = sym (append-nil r.marks) })

taken-grows : (r : Run) (o : Op) (s : Stop) → Grows r (taken r o s)
unfolding ops_in marks_after
taken-grows r o s =
    rw (drop-append_seam r.ops (o ∷ []), drop-length r.marks) (record { ops-are = refl; marks-are = sym (append-nil r.marks) })

marked-grows : (r : Run) (l : Label) → Grows r (marked r l)
unfolding ops_in marks_after
marked-grows r l =
    rw (drop-length r.ops, drop-append_seam r.marks (record { label = l; place = length r.ops } ∷ []))
    (record { ops-are = sym (append-nil r.ops); marks-are = refl })

step-grows : (t : Told) (r : Run) (x : Call) → Grows r (step t r x)
unfolding step
step-grows t r (act a) =
    unless-either (Grows r) (refusal t r a) r _ (refused-grows r (refusal t r a))
    (taken-either (Grows r) t.geometry t.armed r (wholly r.media a) (taken-grows r _ _) (λ j. taken-grows r _ _))
step-grows t r (mark l) = unless-either (Grows r) (mark_refusal r) r _ (refused-grows r (mark_refusal r)) (marked-grows r l)

-- ---- a list of calls

run-grows : (t : Told) (r : Run) (xs : List Call) → Grown r (run t r xs) (events_from t r xs)
unfolding run events_from
run-grows t r [] = unfold ops_in marks_after in record { ops-are = sym (append-nil r.ops); marks-are = sym (append-nil r.marks) }
run-grows t r (x ∷ xs) =
    let one : Grows r (step t r x) = step-grows t r x in
    let rest : Grown (step t r x) (run t (step t r x) xs) (events_from t (step t r x) xs) = run-grows t (step t r x) xs in
    joined r (step t r x) (run t (step t r x) xs) (added r (step t r x)) (events_from t (step t r x) xs) one rest
  where
    joined : (a b c : Run) (es fs : List (Event Op)) → Grown a b es → Grown b c fs → Grown a c (es ++ fs)
    joined a b c es fs y z =
        let n : length b.ops ≡ length a.ops + length (ops_in es) = ap length y.ops-are ∙ length-append a.ops (ops_in es) in
        record {
          ops-are = z.ops-are ∙ ap (λ (l : List Op). l ++ ops_in fs) y.ops-are ∙ append_assoc a.ops (ops_in es) (ops_in fs)
              ∙ ap (λ (l : List Op). a.ops ++ l) (sym (ops-joined es fs));
          marks-are = z.marks-are ∙ (λ i. y.marks-are i ++ marks_after (n i) fs)
              ∙ append_assoc a.marks (marks_after (length a.ops) es) (marks_after (length a.ops + length (ops_in es)) fs)
              ∙ ap (λ (l : List RecordMark). a.marks ++ l) (sym (marks-joined (length a.ops) es fs));
        }

pub records-are : (t : Told) (media : List ℕ) (xs : List Call) → records (plain t media xs) ≡ records_in (events t media xs)
unfolding plain
records-are t media xs =
    let z = run-grows t (unrun media) xs in
    rw (z.ops-are, z.marks-are) (records-in-order (events t media xs))
