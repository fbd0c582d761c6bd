-- What `to_entries` and `to_columns` leave, by their numbers: a refusal changes nothing; where nothing refuses, the two logs are the same
-- (`Same`); and a log handed on and got back, either way round, is the log. Assumes nothing.
use mathlib.Core.Path.{◌≡◌, refl, sym, ap, subst, ◌∙◌}
use mathlib.Core.Bool.{Bool, true, false, not, cond, ◌||◌}
use mathlib.Core.List.{List, [], ◌∷◌}
use Prim.Native.Nat.{ℕ, ◌<◌, ◌≤◌}
use native.Mathlib.Omega.{arith}
use lib.ListN.{length, get_or}
use lib.Dec.{eqb, ltb}
use borrow.Author.Tests.{eq-eqb, ne_eqb, le-ltb}
use Rattle.basics.specs.Tests.{refuse_if}
use Rattle.basics.proofs.Tests.{refuse-not, first_of-pass, first_of-one}
use Rattle.session.specs.declared.Entry.{Entry}
use Rattle.session.specs.Log.{Log}
use Rattle.session.specs.Tests.{log_uneven_of}
use Rattle.session_entries.proofs.Refused.{moved-fits}
use Rattle.session_entries.proofs.Correspond.{entry_past, rows-length, row-past, kept-length, has-rows, rows_same, entries-same, as-entries, as-columns}
use Rattle.session_entries.specs.Entries.{no_entry, row_of, with_rows, with_entries, moved_test, moved_number, moved_rows, entries_number, to_entries, columns_number, to_columns, OfLength, Same}

at_most : (a b n : ℕ) → a ≡ n → b ≡ n → a ≤ b
at_most a b n p q = omega (arith, p, q)

self : (n : ℕ) → n ≤ n
self n = omega arith

inside : (i n m : ℕ) → i < n → n ≤ m → i < m
inside i n m h k = omega (arith, h, k)

no_rows : (number rows : ℕ) → (number ≡ 0 → ⊥) → moved_rows number rows ≡ 0
unfolding moved_rows
no_rows number rows ne = ap (λ (t : Bool). cond t rows 0) (ne_eqb number 0 ne)

pub all-rows : (number rows : ℕ) → number ≡ 0 → moved_rows number rows ≡ rows
unfolding moved_rows
all-rows number rows e = ap (λ (t : Bool). cond t rows 0) (eq-eqb number 0 e)

-- a log of entries that `to_entries` refuses is as it was, and so are columns that `to_columns` refuses
pub refused-entries : (l : Log) (log : List Entry) → (entries_number l log ≡ 0 → ⊥) → to_entries l log ≡ log
refused-entries l log ne = ap (with_rows l log) (no_rows (entries_number l log) (length l.kinds) ne)

pub refused-columns : (log : List Entry) (l : Log) → (columns_number log l ≡ 0 → ⊥) → to_columns log l ≡ l
refused-columns log l ne = ap (with_entries log l) (no_rows (columns_number log l) (length log) ne)

same : (o k n : ℕ) → o ≡ n → k ≡ n → not (eqb o k) ≡ false
same o k n p q = ap not (eq-eqb o k (p ∙ sym q))

even : (n : ℕ) (l : Log) → OfLength n l → log_uneven_of l ≡ false
even n l e = λ i.
    same (length l.offsets) (length l.kinds) n e.1 e.0 i || same (length l.lens) (length l.kinds) n e.2 e.0 i || same (length l.digests) (length l.kinds) n e.3 e.0 i || same (length l.changed) (length l.kinds) n e.4 e.0 i || same (length l.answered) (length l.kinds) n e.5 e.0 i

-- columns of one length, and room for the rows: nothing refuses
pub unrefused : (n : ℕ) (l : Log) (rows room : ℕ) → OfLength n l → rows ≤ room → moved_number l rows room ≡ 0
unfolding moved_test
unrefused n l rows room e h =
    first_of-pass (refuse_if (log_uneven_of l) 12) (refuse_if (ltb room rows) 13 ∷ []) (refuse-not (log_uneven_of l) 12 (even n l e))
    ∙ first_of-one (refuse_if (ltb room rows) 13) ∙ refuse-not (ltb room rows) 13 (le-ltb room rows h)

-- what each leaves where nothing refuses
pub entries-all : (l : Log) (log : List Entry) → entries_number l log ≡ 0 → to_entries l log ≡ with_rows l log (length l.kinds)
entries-all l log z = ap (with_rows l log) (all-rows (entries_number l log) (length l.kinds) z)

pub columns-all : (log : List Entry) (l : Log) → columns_number log l ≡ 0 → to_columns log l ≡ with_entries log l (length log)
columns-all log l z = ap (with_entries log l) (all-rows (columns_number log l) (length log) z)

-- what holds of all the rows and of none holds whatever the number
module _ {A : Type 0} (P : A → Type 0) (f : ℕ → A) (rows : ℕ) where
  by-case : (t : Bool) → P (f rows) → P (f 0) → P (f (cond t rows 0))
  by-case true p q = p
  by-case false p q = q

  either : (number : ℕ) → P (f rows) → P (f 0) → P (f (moved_rows number rows))
  unfolding moved_rows
  either number p q = by-case (eqb number 0) p q

-- handed on, the log of entries is the same as the columns for every row; what lies past is as it was, and so is its length. It may
-- be longer than the columns.
pub handed-on : (l : Log) (log : List Entry) → entries_number l log ≡ 0 → Same (length l.kinds) (to_entries l log) l
handed-on l log z =
    let fits = moved-fits l (length l.kinds) (length log) z in
    subst (λ (xs : List Entry). Same (length l.kinds) xs l) (sym (entries-all l log z))
    (rows_same l log (length l.kinds) (has-rows (length l.kinds) (length l.kinds) l fits.0 (self (length l.kinds))) fits.1)

pub handed-past : (l : Log) (log : List Entry) (i : ℕ) → length l.kinds ≤ i → get_or (to_entries l log) i no_entry ≡ get_or log i no_entry
handed-past l log i h =
    either (λ (xs : List Entry). get_or xs i no_entry ≡ get_or log i no_entry) (with_rows l log) (length l.kinds) (entries_number l log) (entry_past l log (length l.kinds) i h) refl

pub handed-length : (l : Log) (log : List Entry) → length (to_entries l log) ≡ length log
handed-length l log =
    either (λ (xs : List Entry). length xs ≡ length log) (with_rows l log) (length l.kinds) (entries_number l log) (rows-length l log (length l.kinds)) refl

-- got back, the columns are the same as the log for every entry; what lies past is as it was, and so are their lengths. They may be
-- longer than the log.
pub got-back : (log : List Entry) (l : Log) → columns_number log l ≡ 0 → Same (length log) log (to_columns log l)
got-back log l z =
    let fits = moved-fits l (length log) (length l.kinds) z in
    subst (λ (k : Log). Same (length log) log k) (sym (columns-all log l z))
    (entries-same log l (length log) (length l.kinds) fits.0 fits.1 (self (length log)))

pub got-past : (log : List Entry) (l : Log) (i : ℕ) → length log ≤ i → row_of (to_columns log l) i ≡ row_of l i
got-past log l i h =
    either (λ (k : Log). row_of k i ≡ row_of l i) (with_entries log l) (length log) (columns_number log l) (row-past log l (length log) i h) refl

pub got-length : (log : List Entry) (l : Log) (n : ℕ) → OfLength n l → OfLength n (to_columns log l)
got-length log l n e = either (OfLength n) (with_entries log l) (length log) (columns_number log l) (kept-length log l (length log) n e) e

-- two logs that are the same, and of one length, are each what the other is handed on as
pub entries-of : (n : ℕ) (log : List Entry) (l : Log) (log' : List Entry) → Same n log l → length log ≡ n → OfLength n l → length log' ≡ n → to_entries l log' ≡ log
entries-of n log l log' s p e q =
    entries-all l log' (unrefused n l (length l.kinds) (length log') e (at_most (length l.kinds) (length log') n e.0 q))
    ∙ ap (with_rows l log') e.0 ∙ as-entries n log l log' s p q

pub columns-of : (n : ℕ) (log : List Entry) (l l' : Log) → Same n log l → length log ≡ n → OfLength n l → OfLength n l' → to_columns log l' ≡ l
columns-of n log l l' s p e e' =
    columns-all log l' (unrefused n l' (length log) (length l'.kinds) e' (at_most (length log) (length l'.kinds) n p e'.0))
    ∙ ap (with_entries log l') p ∙ as-columns n log l l' s e e'

-- so columns handed on as entries and got back are the columns, for every row; and the same columns where all are of one length
pub rows-return : (l l' : Log) (log : List Entry) → entries_number l log ≡ 0 → columns_number (to_entries l log) l' ≡ 0
    → (i : ℕ) → i < length l.kinds → row_of (to_columns (to_entries l log) l') i ≡ row_of l i
rows-return l l' log z z' i h =
    sym ((got-back (to_entries l log) l' z').rows i (inside i (length l.kinds) (length (to_entries l log)) h (handed-on l log z).entries)) ∙ (handed-on l log z).rows i h

pub columns-return : (l l' : Log) (log : List Entry) (n : ℕ) → length log ≡ n → OfLength n l → OfLength n l' → to_columns (to_entries l log) l' ≡ l
columns-return l l' log n p e e' =
    let z = unrefused n l (length l.kinds) (length log) e (at_most (length l.kinds) (length log) n e.0 p) in
    columns-of n (to_entries l log) l l' (subst (λ (m : ℕ). Same m (to_entries l log) l) e.0 (handed-on l log z)) (handed-length l log ∙ p) e e'

-- and entries got back into columns and handed on are the entries
pub entries-return : (l : Log) (log log' : List Entry) (n : ℕ) → length log ≡ n → length log' ≡ n → OfLength n l → to_entries (to_columns log l) log' ≡ log
entries-return l log log' n p q e =
    let z = unrefused n l (length log) (length l.kinds) e (at_most (length log) (length l.kinds) n p e.0) in
    entries-of n log (to_columns log l) log' (subst (λ (m : ℕ). Same m log (to_columns log l)) p (got-back log l z)) p (got-length log l n e) q
