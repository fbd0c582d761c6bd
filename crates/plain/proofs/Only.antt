-- Theorem 2: only the last committed record can be torn. A record that ends before the cut operation has nothing withheld; behind the
-- cut operation nothing is committed. Assumes nothing.
use mathlib.Core.Path.{◌≡◌, refl, sym, ◌∙◌}
use mathlib.Core.Logic.{⊎_elim}
use mathlib.Core.Bool.{Bool, true, false, ◌&&◌, false≢true}
use mathlib.Core.List.{List, [], ◌∷◌, ◌++◌, map}
use Prim.Native.Nat.{ℕ, zero, suc, ◌+◌, ◌-◌, ◌≤◌, ◌<◌}
use native.Mathlib.Nat.{le_refl}
use native.Mathlib.Omega.{arith}
use lib.ListN.{length, take, drop, drop_of_length-le}
use lib.Seq.{take-nil, take-take, take_at, length-take-le, drop-length}
use Rattle.basics.proofs.Tests.{le-or-gt}
use Rattle.device.specs.Media.{any_pair}
use Rattle.inject.specs.declared.Injection.{Injection}
use Rattle.session.specs.declared.Told.{Told}
use Rattle.session.specs.Armed.{Armed, cut_by}
use Rattle.std.specs.Prelude.{None as Nothing, Some as At}
use Rattle.model.specs.Ledger.{Entry, is_committed, picked}
use Rattle.records.specs.Records.{Label, begin, end, RecordMark, any, next_place, record_at, records_to, behind, judged, entry_by, ledger_by}
use Rattle.plain.specs.Plain.{Call, barrier, Op, Run, wholly, plain}
use Rattle.plain.specs.Ledger.{is_write, orders, changed, withheld, asked, ledger}
use Rattle.plain.specs.Claims.{CutOnce, Truncated, OnlyTheLast}
use Rattle.plain.proofs.Truncation.{cut-length, cut-truncates, cut-unmet}
use Rattle.plain.proofs.Tidy.{All, all_take, From, Rising, tidy, Whole, uncut-whole}

-- ---- nothing is withheld of what landed whole

pub no-pair : (f : ℕ → ℕ → Bool) (l : List ℕ) → any_pair f l [] ≡ false
unfolding any_pair
no-pair f [] = refl
no-pair f (x ∷ xs) = refl

whole-landed : (media : List ℕ) (o : Op) → Whole o → withheld media o ≡ false
unfolding withheld
whole-landed media o w = rw (w.all-landed, drop-length o.want) (no-pair _ _)

pub none-withheld : (media : List ℕ) (os : List Op) → All Whole os → any (withheld media) os ≡ false
unfolding any
none-withheld media [] h = refl
none-withheld media (o ∷ os) h = rw (whole-landed media o h.0) (none-withheld media os h.1)

-- a part of the first n operations
within-whole : (n from k : ℕ) (ops : List Op) → from + k ≤ n → All Whole (take n ops) → All Whole (take k (drop from ops))
within-whole n zero k ops h w = rw (take-take k n ops (omega arith)) at (all_take Whole k (take n ops) w)
within-whole zero (suc from) k ops h w = absurd (omega arith)
within-whole (suc n) (suc from) k [] h w = rw take-nil tt
within-whole (suc n) (suc from) k (o ∷ ops) h w = within-whole n from k ops (omega arith) w.1

own-whole : (n from to : ℕ) (ops : List Op) → to ≤ n → All Whole (take n ops) → All Whole (take (to - from) (drop from ops))
own-whole n from to ops h w =
    ⊎_elim (λ (l : from ≤ to). within-whole n from (to - from) ops (omega arith) w)
    (λ (l : to < from). let z : to - from ≡ 0 = omega arith in rw z tt) (le-or-gt from to)

-- ---- the records of operations that all but the last landed whole

module _ (media : List ℕ) (ops : List Op) (last : ℕ) where
  abbrev entries : List RecordMark → List Entry
  entries ms = map (entry_by (asked media)) (records_to last ops ms)

  -- past the last operation nothing is committed
  none-past : (n : ℕ) (ms : List RecordMark) → length ops ≤ n → From n ms → picked is_committed (entries ms) ≡ []
  unfolding records_to record_at entry_by judged picked any
  none-past n [] h f = refl
  none-past n (m ∷ ms) h f = go m.label (none-past n ms h f.1)
    where
      go : (l : Label) → picked is_committed (entries ms) ≡ []
          → picked is_committed (map (entry_by (asked media)) (record_at ops l m.place (next_place last ms) ++ records_to last ops ms)) ≡ []
      go end e = e
      go (begin id) e = rw (drop_of_length-le ops {i = m.place} (omega (arith, f.0)), take-nil) e

  from_next : (ms : List RecordMark) → Rising ms → From (next_place last ms) ms
  from_next [] r = tt
  from_next (m ∷ ms) r = (le_refl m.place, r.0)

  torn-alone : (id : ℕ) (c w f : Bool) (es : List Entry) → OnlyTheLast es → (w ≡ true → picked is_committed es ≡ []) → OnlyTheLast (judged id c w f ∷ es)
  unfolding judged picked
  torn-alone id false w f es ih past = ih
  torn-alone id true true f es ih past = ((λ z. past refl), ih)
  torn-alone id true false true es ih past = ((λ z. absurd (false≢true z)), ih)
  torn-alone id true false false es ih past = ((λ z. absurd (false≢true z)), ih)

  module _ (n : ℕ) (short : length ops ≤ suc n) (landed : All Whole (take n ops)) where
    -- something is withheld of a record only where it goes past the first n
    goes-past : (from to : ℕ) → any (withheld media) (take (to - from) (drop from ops)) ≡ true → n < to
    goes-past from to z =
        ⊎_elim (λ (l : to ≤ n). absurd (false≢true (sym (none-withheld media _ (own-whole n from to ops l landed)) ∙ z))) (λ (l : n < to). l) (le-or-gt to n)

    only : (ms : List RecordMark) → Rising ms → OnlyTheLast (entries ms)
    unfolding records_to record_at entry_by picked
    only [] r = tt
    only (m ∷ ms) r = go m.label (only ms r.1)
      where
        go : (l : Label) → OnlyTheLast (entries ms)
            → OnlyTheLast (map (entry_by (asked media)) (record_at ops l m.place (next_place last ms) ++ records_to last ops ms))
        go end ih = ih
        go (begin id) ih =
            let own : List Op = take (next_place last ms - m.place) (drop m.place ops) in
            let later : List Op = drop (next_place last ms - m.place) (drop m.place ops) in
            torn-alone id (any changed own) (any (withheld media) own) (any is_write own && any orders (behind is_write own ++ later)) (entries ms) ih
            (λ z. none-past (next_place last ms) ms (omega (arith, goes-past m.place (next_place last ms) z)) (from_next ms r.1))

-- ---- uncut, and cut

module _ (t : Told) (media : List ℕ) (xs : List Call) where
  uncut-only : OnlyTheLast (ledger (plain (cut_by t Nothing) media xs))
  unfolding ledger ledger_by
  uncut-only =
      let u : Run = plain (cut_by t Nothing) media xs in
      only u.media u.ops (length u.ops) (length u.ops) (omega arith) (all_take Whole (length u.ops) u.ops (uncut-whole t media xs)) u.marks
      (tidy (cut_by t Nothing) media xs).rising

  cut-only : (j : Injection) → CutOnce (At j) → OnlyTheLast (ledger (plain (cut_by t (At j)) media xs))
  unfolding ledger ledger_by
  cut-only j once =
      let u : Run = plain (cut_by t Nothing) media xs in
      let s : Run = plain (cut_by t (At j)) media xs in
      let k : ℕ = j.op in
      let d : Op = wholly [] barrier in
      ⊎_elim (λ (l : length u.ops ≤ k). rw (cut-unmet t j once d media xs l) uncut-only)
      (λ (l : k < length u.ops).
      let w : Truncated t.geometry j d u s = cut-truncates t j once d media xs l in
      let z : length (take k u.ops) ≡ k = length-take-le k u.ops (omega arith) in
      let q : length s.ops ≡ suc k = cut-length t j once d u s l w in
      let f : All Whole (take k s.ops) = rw (w.ops-are, take_at (take k u.ops) _ k z) (all_take Whole k u.ops (uncut-whole t media xs)) in
      only s.media s.ops (length s.ops) k (omega arith) f s.marks (tidy (cut_by t (At j)) media xs).rising)
      (le-or-gt (length u.ops) k)

  pub only-the-last : (a : Armed) → CutOnce a → OnlyTheLast (ledger (plain (cut_by t a) media xs))
  only-the-last Nothing once = uncut-only
  only-the-last (At j) once = cut-only j once
