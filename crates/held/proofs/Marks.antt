-- The marks below a limit, as an iterator over the rows of three columns gives them.
--     mark_row, is_below   a row, and the test
--     marks-given          those rows that pass are the marks below the limit
-- Assumes nothing.
use mathlib.Core.Path.{◌≡◌, refl, sym, ap, ◌∙◌}
use mathlib.Core.Bool.{Bool, cond}
use mathlib.Core.List.{List, [], ◌∷◌, map}
use Prim.Native.Nat.{ℕ, zero, suc, ◌<◌}
use native.Mathlib.Nat.{not-suc-le-zero, le_of_suc-le-suc, suc-ne-zero, suc_inj}
use native.Mathlib.Omega.{arith}
use lib.ListN.{length, take, get_or, length-take}
use lib.Seq.{length-take-le}
use lib.Dec.{ltb}
use Rattle.std.specs.List.{filter, range_with_len}
use Rattle.std.proofs.lemmas.List.{get_or-take, ext_get_or}
use Rattle.std.proofs.lemmas.List.FromFn.{get_or-map-range_with_len, length-map-range_with_len}
use Rattle.records.specs.Records.{end, RecordMark}
use Rattle.session.specs.Log.{marks_of}
use Rattle.ledger.specs.Ledger.{marks_from, marks_listed}
use Rattle.held.specs.Held.{Recorded, below}
use Rattle.held.specs.Scans.{mark_of, Fits}

-- ---- columns

pub marks-length : (cs is ps : List ℕ) → length is ≡ length cs → length ps ≡ length cs → length (marks_from cs is ps) ≡ length cs
unfolding marks_from
marks-length [] is ps p q = refl
marks-length (c ∷ cs) [] ps p q = p
marks-length (c ∷ cs) (i ∷ is) [] p q = q
marks-length (c ∷ cs) (i ∷ is) (x ∷ ps) p q = ap suc (marks-length cs is ps (suc_inj p) (suc_inj q))

pub marks-at : (cs is ps : List ℕ) (n : ℕ) (d : RecordMark) → length is ≡ length cs → length ps ≡ length cs → n < length cs
    → get_or (marks_from cs is ps) n d ≡ mark_of (get_or cs n 0) (get_or is n 0) (get_or ps n 0)
unfolding marks_from
marks-at [] is ps n d p q h = absurd (not-suc-le-zero h)
marks-at (c ∷ cs) [] ps n d p q h = absurd (suc-ne-zero (length cs) (sym p))
marks-at (c ∷ cs) (i ∷ is) [] n d p q h = absurd (suc-ne-zero (length cs) (sym q))
marks-at (c ∷ cs) (i ∷ is) (x ∷ ps) zero d p q h = refl
marks-at (c ∷ cs) (i ∷ is) (x ∷ ps) (suc n) d p q h = marks-at cs is ps n d (suc_inj p) (suc_inj q) (le_of_suc-le-suc h)

-- ---- as an iterator gives them

abbrev pub mark_row : Recorded → ℕ → RecordMark
mark_row x i = mark_of (get_or x.codes i 0) (get_or x.ids i 0) (get_or x.places i 0)

abbrev pub is_below : (limit : ℕ) → RecordMark → Bool
is_below limit m = ltb m.place limit

filter-below : (limit : ℕ) (ms : List RecordMark) → filter (is_below limit) ms ≡ below limit ms
unfolding below
filter-below limit [] = refl
filter-below limit (m ∷ ms) = ap (λ (l : List RecordMark). cond (ltb m.place limit) (m ∷ l) l) (filter-below limit ms)

mark-taken : (x : Recorded) (m : ℕ) → m < x.counters.marks
    → mark_of (get_or (take x.counters.marks x.codes) m 0) (get_or (take x.counters.marks x.ids) m 0) (get_or (take x.counters.marks x.places) m 0)
    ≡ mark_row x m
mark-taken x m h =
    let n : ℕ = x.counters.marks in
    λ z. mark_of (get_or-take n x.codes m 0 h z) (get_or-take n x.ids m 0 h z) (get_or-take n x.places m 0 h z)

module _ (x : Recorded) (w : Fits x) where
  abbrev n : ℕ
  n = x.counters.marks

  names : length (take n x.ids) ≡ length (take n x.codes)
  names = simp (length-take, w.ids)

  stands : length (take n x.places) ≡ length (take n x.codes)
  stands = simp (length-take, w.places)

  codes-length : length (take n x.codes) ≡ n
  codes-length = length-take-le n x.codes w.marks

  rows-marks : map (mark_row x) (range_with_len 0 n) ≡ marks_from (take n x.codes) (take n x.ids) (take n x.places)
  rows-marks =
      let d : RecordMark = record { label = end; place = 0 } in
      let l = length-map-range_with_len (mark_row x) 0 n in
      ext_get_or d (map (mark_row x) (range_with_len 0 n)) (marks_from (take n x.codes) (take n x.ids) (take n x.places))
      (l ∙ sym (marks-length (take n x.codes) (take n x.ids) (take n x.places) names stands ∙ codes-length))
      (λ i h.
      let k : i < n = rw (sym l) h in
      get_or-map-range_with_len (mark_row x) 0 n i i d k (omega arith)
      ∙ sym (marks-at (take n x.codes) (take n x.ids) (take n x.places) i d names stands (rw codes-length k) ∙ mark-taken x i k))

  pub marks-given : (limit : ℕ) → filter (is_below limit) (map (mark_row x) (range_with_len 0 n)) ≡ below limit (marks_listed x.counters (marks_of x.codes x.ids x.places))
  unfolding marks_listed
  marks-given limit = ap (filter (is_below limit)) rows-marks ∙ filter-below limit _
