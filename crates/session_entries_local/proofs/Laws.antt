-- What the callers with a log in a local know: the blank log has 1,024 entries, and the entry read from a log of entries in which one was
-- stored is the row of the columns in which it was recorded. Assumes nothing.
use mathlib.Core.Path.{◌≡◌, refl, sym, ap, ◌∙◌}
use mathlib.Core.Bool.{Bool, true, false, cond}
use mathlib.Core.List.{List, [], ◌∷◌}
use Prim.Native.Nat.{ℕ, ◌<◌, ◌≤◌}
use native.Mathlib.Omega.{arith}
use lib.ListN.{length, set, length-replicate}
use lib.Dec.{eqb, ltb}
use borrow.Author.Tests.{eqb-true, ltb-true}
use Rattle.basics.proofs.Tests.{unless-zero, first_of-zero, first_of-pass, first_of-stop, first_of-one}
use Rattle.basics.proofs.Replies.{answered-err}
use Rattle.session.specs.declared.Entry.{Entry}
use Rattle.session.specs.Log.{Log, logged}
use Rattle.std.specs.Prelude.{Ok as Found, Err as NotThere}
use Rattle.session_entries.specs.Entries.{EntryAnswer, no_entry, place_test, number_of_entry, entry_at, row_of, with_rows, entries_number, to_entries, OfLength}
use Rattle.session_entries.proofs.Correspond.{entry-is-row, rows-length}
use Rattle.session_entries.proofs.Refused.{place_inside, entry-inside, number-of-answer, moved-fits}
use Rattle.session_entries.proofs.Returned.{entries-all, handed-length}
use Rattle.session_entries.proofs.Recorded.{recorded-is-stored}
use Rattle.session_entries_local.specs.Local.{blank_log, with_number, unless_refused, entry_with}

pub blank-length : length blank_log ≡ 1024
unfolding blank_log
blank-length = length-replicate 1024 no_entry

place-zero : (i n : ℕ) → place_test i n ≡ 0 → i < n
unfolding place_test
place-zero i n z = ltb-true i n (unless-zero (ltb i n) 10 z)

below : (i n k m : ℕ) → i < n → n ≤ k → m ≡ k → i < m
below i n k m a b c = omega (arith, a, b, c)

module _ (l : Log) (at : ℕ) (e : Entry) (i : ℕ) where
  abbrev n : ℕ
  n = length l.kinds

  abbrev m : ℕ
  m = with_number at i n (entries_number l blank_log)

  -- where nothing refuses
  module _ (at_in : at < n) (i-in : i < n) (z : entries_number l blank_log ≡ 0) where
    abbrev fits : OfLength n l × (n ≤ length blank_log)
    fits = moved-fits l n (length blank_log) z

    entries : set (to_entries l blank_log) at e ≡ with_rows (logged l at e) blank_log n
    entries =
        ap (λ (xs : List Entry). set xs at e) (entries-all l blank_log z)
        ∙ sym (recorded-is-stored l blank_log n at e fits.0 at_in fits.1)

    found : entry_at (with_rows (logged l at e) blank_log n) i ≡ Found (row_of (logged l at e) i)
    found =
        sym (entry-inside (with_rows (logged l at e) blank_log n) i (below i n (length blank_log) _ i-in fits.1 (rows-length (logged l at e) blank_log n)))
        ∙ ap Found (entry-is-row (logged l at e) blank_log n i fits.1 i-in)

    read : entry_at (set (to_entries l blank_log) at e) i ≡ Found (row_of (logged l at e) i)
    read = ap (λ (xs : List Entry). entry_at xs i) entries ∙ found

  open-zero : m ≡ 0 → entry_at (set (to_entries l blank_log) at e) i ≡ Found (row_of (logged l at e) i)
  unfolding with_number
  open-zero z =
      let z₁ = first_of-zero (place_test at n) (place_test i n ∷ entries_number l blank_log ∷ []) z in
      let z₂ = first_of-zero (place_test i n) (entries_number l blank_log ∷ []) z₁.1 in
      read (place-zero at n z₁.0) (place-zero i n z₂.0) (first_of-zero (entries_number l blank_log) [] z₂.1).0

  by-case : (t : Bool) (a b c : EntryAnswer) → (t ≡ true → a ≡ b) → cond t a c ≡ cond t b c
  by-case true a b c f = f refl
  by-case false a b c f = refl

  pub with-law : unless_refused m (entry_at (set (to_entries l blank_log) at e) i) ≡ entry_with l at e i
  unfolding entry_with
  with-law = by-case (eqb m 0) (entry_at (set (to_entries l blank_log) at e) i) (Found (row_of (logged l at e) i)) (NotThere m) (λ t. open-zero (eqb-true m 0 t))

-- what `entry_with` answers has the number of its tests
pub with-answer : (l : Log) (at : ℕ) (e : Entry) (i : ℕ) → number_of_entry (entry_with l at e i) ≡ with_number at i (length l.kinds) (entries_number l blank_log)
unfolding entry_with
with-answer l at e i = number-of-answer (with_number at i (length l.kinds) (entries_number l blank_log)) (row_of (logged l at e) i)

-- ---- each way out: a test that refuses, the tests before it passed

module _ (l : Log) (at : ℕ) (e : Entry) (i : ℕ) where
  abbrev rows : ℕ
  rows = length l.kinds

  abbrev number : ℕ
  number = entries_number l blank_log

  stopped : (r : ℕ) → (r ≡ 0 → ⊥) → r ≡ with_number at i rows number → NotThere r ≡ entry_with l at e i
  unfolding entry_with
  stopped r h q = ap NotThere q ∙ sym (answered-err (with_number at i rows number) _ (λ z. h (q ∙ z)))

  module _ (r : ℕ) (h : r ≡ 0 → ⊥) where
    pub stopped-at : r ≡ place_test at rows → NotThere r ≡ entry_with l at e i
    unfolding with_number
    stopped-at q = stopped r h (q ∙ sym (first_of-stop (place_test at rows) _ (λ z. h (q ∙ z))))

    pub stopped-index : 0 ≡ place_test at rows → r ≡ place_test i rows → NotThere r ≡ entry_with l at e i
    unfolding with_number
    stopped-index a q = stopped r h (q ∙ sym (first_of-pass (place_test at rows) _ (sym a) ∙ first_of-stop (place_test i rows) _ (λ z. h (q ∙ z))))

    pub stopped-number : 0 ≡ place_test at rows → 0 ≡ place_test i rows → r ≡ number → NotThere r ≡ entry_with l at e i
    unfolding with_number
    stopped-number a b q =
        stopped r h (q ∙ sym (first_of-pass (place_test at rows) _ (sym a) ∙ first_of-pass (place_test i rows) _ (sym b) ∙ first_of-one number))

  module _ (a : 0 ≡ place_test at rows) (z : 0 ≡ number) where
    -- the entry is stored in the local log
    pub stored : place_test at (length (to_entries l blank_log)) ≡ 0
    stored =
        let fits = moved-fits l rows (length blank_log) (sym z) in
        sym (place_inside at _ (below at rows (length blank_log) _ (place-zero at rows (sym a)) fits.1 (handed-length l blank_log)))

    pub answered-so : 0 ≡ place_test i rows → entry_at (set (to_entries l blank_log) at e) i ≡ entry_with l at e i
    unfolding with_number
    answered-so b =
        let m : with_number at i rows number ≡ 0 = first_of-pass (place_test at rows) _ (sym a) ∙ first_of-pass (place_test i rows) _ (sym b) ∙ first_of-one number ∙ sym z in
        sym (ap (λ (n : ℕ). unless_refused n (entry_at (set (to_entries l blank_log) at e) i)) m) ∙ with-law l at e i
