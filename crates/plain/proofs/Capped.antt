-- Marks that stand past the last operation select the same operations as marks at it.
--     capped-records    the records of capped marks
--     cut_ledger        so the ledger of a run that was cut, over the uncut run's marks
-- Assumes nothing.
use mathlib.Core.Path.{◌≡◌, refl, sym, ap, ap₂, ◌∙◌}
use mathlib.Core.Logic.{⊎_elim}
use mathlib.Core.List.{List, [], ◌∷◌, ◌++◌, map}
use Prim.Native.Nat.{ℕ, suc, ◌-◌, ◌≤◌, ◌<◌, min}
use native.Mathlib.Nat.{min-eq_left, min-eq_right}
use native.Mathlib.Omega.{arith}
use lib.ListN.{length, take, drop, get_or, length-drop, drop_of_length-le}
use lib.Seq.{take-nil, drop-nil, take_all}
use Rattle.basics.proofs.Tests.{le-or-gt}
use Rattle.inject.specs.declared.Injection.{Injection}
use Rattle.session.specs.declared.Told.{Told}
use Rattle.std.specs.Prelude.{None as Nothing, Some as At}
use Rattle.session.specs.Armed.{cut_by}
use Rattle.records.specs.Records.{Label, begin, end, RecordMark, next_place, record_at, records_to, entry_by, ledger_by}
use Rattle.plain.specs.Plain.{Call, Op, Run, as_cut, plain}
use Rattle.plain.specs.Ledger.{asked, ledger}
use Rattle.plain.specs.Claims.{CutOnce, capped_at, Truncated}
use Rattle.plain.proofs.Truncation.{cut-length, cut-truncates}

-- a part of a list of n, its ends moved down to n: the same part, and the same behind it
pub record SamePart (ops : List Op) (from to n : ℕ) : Type 0 where
  pub own : take (min to n - min from n) (drop (min from n) ops) ≡ take (to - from) (drop from ops)
  pub later : drop (min to n - min from n) (drop (min from n) ops) ≡ drop (to - from) (drop from ops)

past-both : (ops : List Op) (from to n : ℕ) → length ops ≡ n → n < from → SamePart ops from to n
past-both ops from to n e h =
    let m : min from n ≡ n = omega arith in
    let a : drop n ops ≡ [] = drop_of_length-le ops {i = n} (omega arith) in
    let b : drop from ops ≡ [] = drop_of_length-le ops {i = from} (omega arith) in
    record {
      own = rw (m, a, b) (take-nil (min to n - n) ∙ sym (take-nil (to - from)));
      later = rw (m, a, b) (drop-nil (min to n - n) ∙ sym (drop-nil (to - from)));
    }

past_end : (ops : List Op) (from to n : ℕ) → length ops ≡ n → from ≤ n → n < to → SamePart ops from to n
past_end ops from to n e h k =
    let l : length (drop from ops) ≡ n - from = length-drop from ops ∙ ap (λ (x : ℕ). x - from) e in
    let m : min to n ≡ n = omega arith in
    record {
      own = rw (min-eq_left h, m, take_all (n - from) (drop from ops) (omega arith), take_all (to - from) (drop from ops) (omega arith));
      later = rw (min-eq_left h, m, drop_of_length-le (drop from ops) {i = n - from} (omega arith), drop_of_length-le (drop from ops) {i = to - from} (omega arith));
    }

same-part : (ops : List Op) (from to n : ℕ) → length ops ≡ n → SamePart ops from to n
same-part ops from to n e =
    ⊎_elim
    (λ (h : from ≤ n).
    ⊎_elim (λ (k : to ≤ n). record { own = rw (min-eq_left h, min-eq_left k); later = rw (min-eq_left h, min-eq_left k) }) (past_end ops from to n e h) (le-or-gt to n))
    (past-both ops from to n e) (le-or-gt from n)

pub capped-records : (last n : ℕ) (ops : List Op) (ms : List RecordMark) → length ops ≡ n → n ≤ last
    → records_to n ops (map (capped_at n) ms) ≡ records_to last ops ms
unfolding records_to record_at capped_at
capped-records last n ops [] e h = refl
capped-records last n ops (m ∷ ms) e h = go m.label (capped-records last n ops ms e h)
  where
    next : (ns : List RecordMark) → next_place n (map (capped_at n) ns) ≡ min (next_place last ns) n
    next [] = sym (min-eq_right h)
    next (x ∷ ns) = refl

    go : (l : Label) → records_to n ops (map (capped_at n) ms) ≡ records_to last ops ms
        → record_at ops l (min m.place n) (next_place n (map (capped_at n) ms)) ++ records_to n ops (map (capped_at n) ms)
        ≡ record_at ops l m.place (next_place last ms) ++ records_to last ops ms
    go end ih = ih
    go (begin id) ih =
        let s : SamePart ops m.place (next_place last ms) n = same-part ops m.place (next_place last ms) n e in
        rw (next ms, ih, s.own, s.later)

pub cut_ledger : (t : Told) (j : Injection) → CutOnce (At j) → (d : Op) (media : List ℕ) (xs : List Call) → j.op < length (plain (cut_by t Nothing) media xs).ops
    → ledger (plain (cut_by t (At j)) media xs) ≡ map (entry_by (asked (plain (cut_by t (At j)) media xs).media))
    (records_to (length (plain (cut_by t Nothing) media xs).ops)
    (take j.op (plain (cut_by t Nothing) media xs).ops ++ (as_cut t.geometry j (get_or (plain (cut_by t Nothing) media xs).ops j.op d) ∷ []))
    (plain (cut_by t Nothing) media xs).marks)
unfolding ledger ledger_by
cut_ledger t j once d media xs h =
    let u : Run = plain (cut_by t Nothing) media xs in
    let s : Run = plain (cut_by t (At j)) media xs in
    let w : Truncated t.geometry j d u s = cut-truncates t j once d media xs h in
    let n : length s.ops ≡ suc j.op = cut-length t j once d u s h w in
    ap (map (entry_by (asked s.media)))
    (ap₂ (λ (k : ℕ) (ms : List RecordMark). records_to k s.ops ms) n w.marks-are
    ∙ capped-records (length u.ops) (suc j.op) s.ops u.marks n h
    ∙ ap (λ (os : List Op). records_to (length u.ops) os u.marks) w.ops-are)
