-- Records by places are records by the order of events.
--     records-in-order     where a run holds the operations, and each mark with the count of those before it
--     ops-joined, marks-joined     events behind others
-- Assumes nothing.
use mathlib.Core.Path.{◌≡◌, refl, sym, ap, ◌∙◌}
use mathlib.Core.List.{List, [], ◌∷◌, ◌++◌, append_assoc}
use Prim.Native.Nat.{ℕ, suc, ◌+◌, ◌-◌}
use native.Mathlib.Nat.{zero-add}
use native.Mathlib.Omega.{arith}
use lib.ListN.{length, drop, length-append}
use lib.Seq.{take-append_seam, drop-append_seam}
use Rattle.records.specs.Records.{begin, end, RecordMark, Kept, next_place, record_at, records_to, records_of}
use Rattle.records.specs.Events.{Event, took, noted, ops_in, to_mark, behind_mark, records_in, marks_after}

module _ {A : Type 0} where
  -- the next mark parts the operations
  parted : (es : List (Event A)) → ops_in es ≡ to_mark es ++ behind_mark es
  unfolding ops_in to_mark behind_mark
  parted [] = refl
  parted (took o ∷ es) = ap (λ (l : List A). o ∷ l) (parted es)
  parted (noted l ∷ es) = refl

  -- and stands where the operations before it end
  next-is : (n : ℕ) (es : List (Event A)) → next_place (n + length (ops_in es)) (marks_after n es) ≡ n + length (to_mark es)
  unfolding ops_in to_mark marks_after
  next-is n [] = refl
  next-is n (took o ∷ es) =
      let p : n + suc (length (ops_in es)) ≡ suc n + length (ops_in es) = omega arith in
      let q : suc n + length (to_mark es) ≡ n + suc (length (to_mark es)) = omega arith in
      ap (λ (k : ℕ). next_place k (marks_after (suc n) es)) p ∙ next-is (suc n) es ∙ q
  next-is n (noted l ∷ es) = let p : n ≡ n + 0 = omega arith in p

  -- the record that a mark begins
  own_is : (before : List A) (id : ℕ) (es : List (Event A))
      → record_at (before ++ ops_in es) (begin id) (length before) (length before + length (to_mark es))
      ≡ record { id = id; own = to_mark es; later = behind_mark es } ∷ []
  unfolding record_at
  own_is before id es =
      let k : length before + length (to_mark es) - length before ≡ length (to_mark es) = omega arith in
      let d : drop (length before) (before ++ ops_in es) ≡ to_mark es ++ behind_mark es = drop-append_seam before (ops_in es) ∙ parted es in
      rw (k, d, take-append_seam (to_mark es) (behind_mark es), drop-append_seam (to_mark es) (behind_mark es))

  none_is : (ops : List A) (from to : ℕ) → record_at ops end from to ≡ []
  unfolding record_at
  none_is ops from to = refl

  -- events behind operations
  records-behind : (before : List A) (es : List (Event A))
      → records_to (length before + length (ops_in es)) (before ++ ops_in es) (marks_after (length before) es) ≡ records_in es
  unfolding records_to records_in ops_in marks_after
  records-behind before [] = refl
  records-behind before (took o ∷ es) =
      let n : suc (length before) ≡ length (before ++ (o ∷ [])) = let w = length-append before (o ∷ []) in omega (arith, w) in
      let k : length before + suc (length (ops_in es)) ≡ length (before ++ (o ∷ [])) + length (ops_in es) = omega (arith, n) in
      let l : before ++ (o ∷ ops_in es) ≡ (before ++ (o ∷ [])) ++ ops_in es = sym (append_assoc before (o ∷ []) (ops_in es)) in
      (λ i. records_to (k i) (l i) (marks_after (n i) es)) ∙ records-behind (before ++ (o ∷ [])) es
  records-behind before (noted (begin id) ∷ es) =
      rw (next-is (length before) es, own_is before id es) (ap (λ (rs : List (Kept A)). record { id = id; own = to_mark es; later = behind_mark es } ∷ rs) (records-behind before es))
  records-behind before (noted end ∷ es) =
      rw (none_is (before ++ ops_in es) (length before) (next_place (length before + length (ops_in es)) (marks_after (length before) es))) (records-behind before es)

  pub records-in-order : (es : List (Event A)) → records_of (ops_in es) (marks_after 0 es) ≡ records_in es
  records-in-order es = ap (λ (n : ℕ). records_to n (ops_in es) (marks_after 0 es)) (sym (zero-add (length (ops_in es)))) ∙ records-behind [] es

  pub ops-joined : (es fs : List (Event A)) → ops_in (es ++ fs) ≡ ops_in es ++ ops_in fs
  unfolding ops_in
  ops-joined [] fs = refl
  ops-joined (took o ∷ es) fs = ap (λ (l : List A). o ∷ l) (ops-joined es fs)
  ops-joined (noted l ∷ es) fs = ops-joined es fs

  pub marks-joined : (n : ℕ) (es fs : List (Event A)) → marks_after n (es ++ fs) ≡ marks_after n es ++ marks_after (n + length (ops_in es)) fs
  unfolding ops_in marks_after
  marks-joined n [] fs = let p : n ≡ n + 0 = omega arith in ap (λ (k : ℕ). marks_after k fs) p
  marks-joined n (took o ∷ es) fs =
      let p : suc n + length (ops_in es) ≡ n + suc (length (ops_in es)) = omega arith in
      marks-joined (suc n) es fs ∙ ap (λ (k : ℕ). marks_after (suc n) es ++ marks_after k fs) p
  marks-joined n (noted l ∷ es) fs = ap (λ (ms : List RecordMark). record { label = l; place = n } ∷ ms) (marks-joined n es fs)
