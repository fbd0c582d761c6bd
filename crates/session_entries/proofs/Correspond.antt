-- What goes over is the same log (`Same`), either way round: the rows as entries, the entries as rows. And two logs that are the same,
-- and of one length, are each what the other goes over to. Assumes nothing.
use mathlib.Core.Path.{◌≡◌, refl, sym, ap, ◌∙◌}
use mathlib.Core.Logic.{⊎_elim}
use mathlib.Core.List.{List}
use Prim.Native.Nat.{ℕ, zero, suc, ◌<◌, ◌≤◌}
use lib.ListN.{length, get_or, set}
use lib.Seq.{ext_get_or}
use native.Mathlib.Omega.{arith}
use Rattle.basics.proofs.Tests.{le-or-gt}
use Rattle.session.specs.declared.Entry.{Entry}
use Rattle.session.specs.Log.{Log}
use Rattle.session_entries.proofs.Fill.{fill, fill-length, fill-at, fill-past, filled}
use Rattle.session_entries.specs.Entries.{no_entry, row_of, with_rows, with_entries, OfLength, HasRows, Same}

up : (n m k : ℕ) → n ≤ m → k ≡ m → n ≤ k
up n m k h e = omega (arith, h, e)

pub rows_fill : (l : Log) (log : List Entry) (n : ℕ) → with_rows l log n ≡ fill (row_of l) log n
rows_fill l log zero = refl
rows_fill l log (suc i) = ap (λ (xs : List Entry). set xs i (row_of l i)) (rows_fill l log i)

-- the entry at an index is the columns' row; past those that go over it is as it was
pub entry-is-row : (l : Log) (log : List Entry) (n i : ℕ) → n ≤ length log → i < n → get_or (with_rows l log n) i no_entry ≡ row_of l i
entry-is-row l log n i room h = ap (λ (xs : List Entry). get_or xs i no_entry) (rows_fill l log n) ∙ fill-at no_entry (row_of l) log n i h room

pub entry_past : (l : Log) (log : List Entry) (n i : ℕ) → n ≤ i → get_or (with_rows l log n) i no_entry ≡ get_or log i no_entry
entry_past l log n i h = ap (λ (xs : List Entry). get_or xs i no_entry) (rows_fill l log n) ∙ fill-past no_entry (row_of l) log n i h

pub rows-length : (l : Log) (log : List Entry) (n : ℕ) → length (with_rows l log n) ≡ length log
rows-length l log n = ap length (rows_fill l log n) ∙ fill-length (row_of l) log n

pub kinds-fill : (log : List Entry) (l : Log) (n : ℕ) → (with_entries log l n).kinds ≡ fill (λ i. (get_or log i no_entry).kind) l.kinds n
kinds-fill log l zero = refl
kinds-fill log l (suc i) = ap (λ (xs : List ℕ). set xs i (get_or log i no_entry).kind) (kinds-fill log l i)

pub offsets-fill : (log : List Entry) (l : Log) (n : ℕ) → (with_entries log l n).offsets ≡ fill (λ i. (get_or log i no_entry).offset) l.offsets n
offsets-fill log l zero = refl
offsets-fill log l (suc i) = ap (λ (xs : List ℕ). set xs i (get_or log i no_entry).offset) (offsets-fill log l i)

pub lens-fill : (log : List Entry) (l : Log) (n : ℕ) → (with_entries log l n).lens ≡ fill (λ i. (get_or log i no_entry).len) l.lens n
lens-fill log l zero = refl
lens-fill log l (suc i) = ap (λ (xs : List ℕ). set xs i (get_or log i no_entry).len) (lens-fill log l i)

pub digests-fill : (log : List Entry) (l : Log) (n : ℕ) → (with_entries log l n).digests ≡ fill (λ i. (get_or log i no_entry).digest) l.digests n
digests-fill log l zero = refl
digests-fill log l (suc i) = ap (λ (xs : List ℕ). set xs i (get_or log i no_entry).digest) (digests-fill log l i)

pub changed-fill : (log : List Entry) (l : Log) (n : ℕ) → (with_entries log l n).changed ≡ fill (λ i. (get_or log i no_entry).changed) l.changed n
changed-fill log l zero = refl
changed-fill log l (suc i) = ap (λ (xs : List ℕ). set xs i (get_or log i no_entry).changed) (changed-fill log l i)

pub answered-fill : (log : List Entry) (l : Log) (n : ℕ) → (with_entries log l n).answered ≡ fill (λ i. (get_or log i no_entry).answered) l.answered n
answered-fill log l zero = refl
answered-fill log l (suc i) = ap (λ (xs : List ℕ). set xs i (get_or log i no_entry).answered) (answered-fill log l i)

-- a row of the columns is the log's entry; past those that go over it is as it was
pub row-is-entry : (log : List Entry) (l : Log) (n i : ℕ) → HasRows n l → i < n → row_of (with_entries log l n) i ≡ get_or log i no_entry
unfolding row_of
row-is-entry log l n i has h = λ k. record {
  kind = (ap (λ (xs : List ℕ). get_or xs i 0) (kinds-fill log l n) ∙ fill-at 0 (λ j. (get_or log j no_entry).kind) l.kinds n i h has.0) k;
  offset = (ap (λ (xs : List ℕ). get_or xs i 0) (offsets-fill log l n) ∙ fill-at 0 (λ j. (get_or log j no_entry).offset) l.offsets n i h has.1) k;
  len = (ap (λ (xs : List ℕ). get_or xs i 0) (lens-fill log l n) ∙ fill-at 0 (λ j. (get_or log j no_entry).len) l.lens n i h has.2) k;
  digest = (ap (λ (xs : List ℕ). get_or xs i 0) (digests-fill log l n) ∙ fill-at 0 (λ j. (get_or log j no_entry).digest) l.digests n i h has.3) k;
  changed = (ap (λ (xs : List ℕ). get_or xs i 0) (changed-fill log l n) ∙ fill-at 0 (λ j. (get_or log j no_entry).changed) l.changed n i h has.4) k;
  answered = (ap (λ (xs : List ℕ). get_or xs i 0) (answered-fill log l n) ∙ fill-at 0 (λ j. (get_or log j no_entry).answered) l.answered n i h has.5) k;
}

pub row-past : (log : List Entry) (l : Log) (n i : ℕ) → n ≤ i → row_of (with_entries log l n) i ≡ row_of l i
unfolding row_of
row-past log l n i h = λ k. record {
  kind = (ap (λ (xs : List ℕ). get_or xs i 0) (kinds-fill log l n) ∙ fill-past 0 (λ j. (get_or log j no_entry).kind) l.kinds n i h) k;
  offset = (ap (λ (xs : List ℕ). get_or xs i 0) (offsets-fill log l n) ∙ fill-past 0 (λ j. (get_or log j no_entry).offset) l.offsets n i h) k;
  len = (ap (λ (xs : List ℕ). get_or xs i 0) (lens-fill log l n) ∙ fill-past 0 (λ j. (get_or log j no_entry).len) l.lens n i h) k;
  digest = (ap (λ (xs : List ℕ). get_or xs i 0) (digests-fill log l n) ∙ fill-past 0 (λ j. (get_or log j no_entry).digest) l.digests n i h) k;
  changed = (ap (λ (xs : List ℕ). get_or xs i 0) (changed-fill log l n) ∙ fill-past 0 (λ j. (get_or log j no_entry).changed) l.changed n i h) k;
  answered = (ap (λ (xs : List ℕ). get_or xs i 0) (answered-fill log l n) ∙ fill-past 0 (λ j. (get_or log j no_entry).answered) l.answered n i h) k;
}

pub kept-length : (log : List Entry) (l : Log) (n m : ℕ) → OfLength m l → OfLength m (with_entries log l n)
kept-length log l n m e = (
  ap length (kinds-fill log l n) ∙ fill-length (λ i. (get_or log i no_entry).kind) l.kinds n ∙ e.0,
  ap length (offsets-fill log l n) ∙ fill-length (λ i. (get_or log i no_entry).offset) l.offsets n ∙ e.1,
  ap length (lens-fill log l n) ∙ fill-length (λ i. (get_or log i no_entry).len) l.lens n ∙ e.2,
  ap length (digests-fill log l n) ∙ fill-length (λ i. (get_or log i no_entry).digest) l.digests n ∙ e.3,
  ap length (changed-fill log l n) ∙ fill-length (λ i. (get_or log i no_entry).changed) l.changed n ∙ e.4,
  ap length (answered-fill log l n) ∙ fill-length (λ i. (get_or log i no_entry).answered) l.answered n ∙ e.5,
)

pub has-rows : (n m : ℕ) (l : Log) → OfLength m l → n ≤ m → HasRows n l
has-rows n m l e h = (up n m (length l.kinds) h e.0, up n m (length l.offsets) h e.1, up n m (length l.lens) h e.2, up n m (length l.digests) h e.3, up n m (length l.changed) h e.4, up n m (length l.answered) h e.5)

-- the rows that go over to a log of entries are the same there, and the entries that go over to columns
pub rows_same : (l : Log) (log : List Entry) (n : ℕ) → HasRows n l → n ≤ length log → Same n (with_rows l log n) l
rows_same l log n has room = record {
  entries = up n (length log) (length (with_rows l log n)) room (rows-length l log n);
  columns = has;
  rows = λ i h. entry-is-row l log n i room h;
}

pub entries-same : (log : List Entry) (l : Log) (n m : ℕ) → OfLength m l → n ≤ m → n ≤ length log → Same n log (with_entries log l n)
entries-same log l n m e h room = record {
  entries = room;
  columns = has-rows n m (with_entries log l n) (kept-length log l n m e) h;
  rows = λ i j. sym (row-is-entry log l n i (has-rows n m l e h) j);
}

-- ---- two logs that are the same

kinds-row : (n : ℕ) (log : List Entry) (l : Log) → Same n log l → (i : ℕ) → i < n → (get_or log i no_entry).kind ≡ get_or l.kinds i 0
unfolding row_of
kinds-row n log l s i h = ap (λ (e : Entry). e.kind) (s.rows i h)

offsets-row : (n : ℕ) (log : List Entry) (l : Log) → Same n log l → (i : ℕ) → i < n → (get_or log i no_entry).offset ≡ get_or l.offsets i 0
unfolding row_of
offsets-row n log l s i h = ap (λ (e : Entry). e.offset) (s.rows i h)

lens-row : (n : ℕ) (log : List Entry) (l : Log) → Same n log l → (i : ℕ) → i < n → (get_or log i no_entry).len ≡ get_or l.lens i 0
unfolding row_of
lens-row n log l s i h = ap (λ (e : Entry). e.len) (s.rows i h)

digests-row : (n : ℕ) (log : List Entry) (l : Log) → Same n log l → (i : ℕ) → i < n → (get_or log i no_entry).digest ≡ get_or l.digests i 0
unfolding row_of
digests-row n log l s i h = ap (λ (e : Entry). e.digest) (s.rows i h)

changed_row : (n : ℕ) (log : List Entry) (l : Log) → Same n log l → (i : ℕ) → i < n → (get_or log i no_entry).changed ≡ get_or l.changed i 0
unfolding row_of
changed_row n log l s i h = ap (λ (e : Entry). e.changed) (s.rows i h)

answered-row : (n : ℕ) (log : List Entry) (l : Log) → Same n log l → (i : ℕ) → i < n → (get_or log i no_entry).answered ≡ get_or l.answered i 0
unfolding row_of
answered-row n log l s i h = ap (λ (e : Entry). e.answered) (s.rows i h)

-- the columns go over to the entries
pub as-entries : (n : ℕ) (log : List Entry) (l : Log) (log' : List Entry) → Same n log l → length log ≡ n → length log' ≡ n → with_rows l log' n ≡ log
as-entries n log l log' s p q = rows_fill l log' n ∙ filled no_entry (row_of l) log' log n q p (λ i h. sym (s.rows i h))

-- and, in the log itself, change nothing, however long it is
pub again : (n : ℕ) (log : List Entry) (l : Log) → Same n log l → with_rows l log n ≡ log
again n log l s =
    ext_get_or no_entry (with_rows l log n) log (rows-length l log n) (λ i _. ⊎_elim
    (λ (h : n ≤ i). entry_past l log n i h)
    (λ (h : i < n). entry-is-row l log n i s.entries h ∙ sym (s.rows i h))
    (le-or-gt n i))

-- the entries go over to the columns
pub as-columns : (n : ℕ) (log : List Entry) (l l' : Log) → Same n log l → OfLength n l → OfLength n l' → with_entries log l' n ≡ l
as-columns n log l l' s e e' = λ k. record {
  kinds = (kinds-fill log l' n ∙ filled 0 (λ i. (get_or log i no_entry).kind) l'.kinds l.kinds n e'.0 e.0 (kinds-row n log l s)) k;
  offsets = (offsets-fill log l' n ∙ filled 0 (λ i. (get_or log i no_entry).offset) l'.offsets l.offsets n e'.1 e.1 (offsets-row n log l s)) k;
  lens = (lens-fill log l' n ∙ filled 0 (λ i. (get_or log i no_entry).len) l'.lens l.lens n e'.2 e.2 (lens-row n log l s)) k;
  digests = (digests-fill log l' n ∙ filled 0 (λ i. (get_or log i no_entry).digest) l'.digests l.digests n e'.3 e.3 (digests-row n log l s)) k;
  changed = (changed-fill log l' n ∙ filled 0 (λ i. (get_or log i no_entry).changed) l'.changed l.changed n e'.4 e.4 (changed_row n log l s)) k;
  answered = (answered-fill log l' n ∙ filled 0 (λ i. (get_or log i no_entry).answered) l'.answered l.answered n e'.5 e.5 (answered-row n log l s)) k;
}
