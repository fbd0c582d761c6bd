-- One operation recorded in the columns is, seen as entries, one entry stored; and an entry stored is, got back into the columns, one
-- operation recorded. A store keeps two logs the same. Assumes nothing.
use mathlib.Core.Path.{◌≡◌, sym, ap, subst, ◌∙◌}
use mathlib.Core.Logic.{⊎_elim}
use mathlib.Core.List.{List}
use Prim.Native.Nat.{ℕ, ◌<◌, ◌≤◌}
use native.Mathlib.Omega.{arith}
use lib.ListN.{length, get_or, set, length-set}
use lib.Seq.{get_or-set_same, get_or-set_other}
use Rattle.basics.proofs.Tests.{le-or-gt}
use Rattle.session.specs.declared.Entry.{Entry}
use Rattle.session.specs.Log.{Log, logged}
use Rattle.session_entries.proofs.Fill.{fill, fill-store}
use Rattle.session_entries.proofs.Correspond.{rows_fill, kinds-fill, offsets-fill, lens-fill, digests-fill, changed-fill, answered-fill, has-rows}
use Rattle.session_entries.specs.Entries.{no_entry, row_of, with_rows, with_entries, OfLength, HasRows, Same}

in-column : (i n k : ℕ) → i < n → n ≤ k → i < k
in-column i n k l h = omega (arith, l, h)

self : (n : ℕ) → n ≤ n
self n = omega arith

row-there : (n : ℕ) (l : Log) (i : ℕ) (e : Entry) → HasRows n l → i < n → row_of (logged l i e) i ≡ e
unfolding row_of
row-there n l i e has h = λ k. record {
  kind = get_or-set_same l.kinds i e.kind 0 (in-column i n (length l.kinds) h has.0) k;
  offset = get_or-set_same l.offsets i e.offset 0 (in-column i n (length l.offsets) h has.1) k;
  len = get_or-set_same l.lens i e.len 0 (in-column i n (length l.lens) h has.2) k;
  digest = get_or-set_same l.digests i e.digest 0 (in-column i n (length l.digests) h has.3) k;
  changed = get_or-set_same l.changed i e.changed 0 (in-column i n (length l.changed) h has.4) k;
  answered = get_or-set_same l.answered i e.answered 0 (in-column i n (length l.answered) h has.5) k;
}

row_apart : (l : Log) (i : ℕ) (e : Entry) (j : ℕ) → (j ≡ i → ⊥) → row_of (logged l i e) j ≡ row_of l j
unfolding row_of
row_apart l i e j ne = λ k. record {
  kind = get_or-set_other l.kinds i j e.kind 0 ne k;
  offset = get_or-set_other l.offsets i j e.offset 0 ne k;
  len = get_or-set_other l.lens i j e.len 0 ne k;
  digest = get_or-set_other l.digests i j e.digest 0 ne k;
  changed = get_or-set_other l.changed i j e.changed 0 ne k;
  answered = get_or-set_other l.answered i j e.answered 0 ne k;
}

-- an operation recorded in the columns is, seen as entries, that entry stored at its index
pub recorded-is-stored : (l : Log) (log : List Entry) (n i : ℕ) (e : Entry) → OfLength n l → i < n → n ≤ length log → with_rows (logged l i e) log n ≡ set (with_rows l log n) i e
recorded-is-stored l log n i e even h room =
    rows_fill (logged l i e) log n
    ∙ fill-store no_entry (row_of l) (row_of (logged l i e)) log n i e h room (row-there n l i e (has-rows n n l even (self n)) h) (row_apart l i e)
    ∙ ap (λ (xs : List Entry). set xs i e) (sym (rows_fill l log n))

-- one field of the log with an entry stored
module _ (field : Entry → ℕ) (log : List Entry) (i : ℕ) (e : Entry) where
  field-there : i < length log → field (get_or (set log i e) i no_entry) ≡ field e
  field-there h = ap field (get_or-set_same log i e no_entry h)

  field_apart : (j : ℕ) → (j ≡ i → ⊥) → field (get_or (set log i e) j no_entry) ≡ field (get_or log j no_entry)
  field_apart j ne = ap field (get_or-set_other log i j e no_entry ne)

  column : (xs : List ℕ) (n : ℕ) → length xs ≡ n → i < n → n ≤ length log → fill (λ j. field (get_or (set log i e) j no_entry)) xs n ≡ set (fill (λ j. field (get_or log j no_entry)) xs n) i (field e)
  column xs n even h room =
      fill-store 0 (λ j. field (get_or log j no_entry)) (λ j. field (get_or (set log i e) j no_entry)) xs n i (field e) h (omega (arith, even)) (field-there (omega (arith, h, room))) field_apart

-- an entry stored is, got back into the columns, that operation recorded at its index
pub stored-is-recorded : (log : List Entry) (l : Log) (n i : ℕ) (e : Entry) → OfLength n l → i < n → n ≤ length log → with_entries (set log i e) l n ≡ logged (with_entries log l n) i e
stored-is-recorded log l n i e even h room = λ k. record {
  kinds = (kinds-fill (set log i e) l n ∙ column (λ x. x.kind) log i e l.kinds n even.0 h room ∙ ap (λ (xs : List ℕ). set xs i e.kind) (sym (kinds-fill log l n))) k;
  offsets = (offsets-fill (set log i e) l n ∙ column (λ x. x.offset) log i e l.offsets n even.1 h room ∙ ap (λ (xs : List ℕ). set xs i e.offset) (sym (offsets-fill log l n))) k;
  lens = (lens-fill (set log i e) l n ∙ column (λ x. x.len) log i e l.lens n even.2 h room ∙ ap (λ (xs : List ℕ). set xs i e.len) (sym (lens-fill log l n))) k;
  digests = (digests-fill (set log i e) l n ∙ column (λ x. x.digest) log i e l.digests n even.3 h room ∙ ap (λ (xs : List ℕ). set xs i e.digest) (sym (digests-fill log l n))) k;
  changed = (changed-fill (set log i e) l n ∙ column (λ x. x.changed) log i e l.changed n even.4 h room ∙ ap (λ (xs : List ℕ). set xs i e.changed) (sym (changed-fill log l n))) k;
  answered = (answered-fill (set log i e) l n ∙ column (λ x. x.answered) log i e l.answered n even.5 h room ∙ ap (λ (xs : List ℕ). set xs i e.answered) (sym (answered-fill log l n))) k;
}

-- ---- two logs that are the same

kept : (n m k : ℕ) → n ≤ m → k ≡ m → n ≤ k
kept n m k h e = omega (arith, h, e)

one : (i j : ℕ) → i ≤ j → j ≤ i → i ≡ j
one i j h k = omega (arith, h, k)

-- one operation recorded in the one and its entry stored in the other, at any index, and they are still the same
module _ (n : ℕ) (log : List Entry) (l : Log) (s : Same n log l) (i : ℕ) (e : Entry) where
  there : i < n → get_or (set log i e) i no_entry ≡ row_of (logged l i e) i
  there h = get_or-set_same log i e no_entry (in-column i n (length log) h s.entries) ∙ sym (row-there n l i e s.columns h)

  apart : (j : ℕ) → j < n → (j ≡ i → ⊥) → get_or (set log i e) j no_entry ≡ row_of (logged l i e) j
  apart j h ne = get_or-set_other log i j e no_entry ne ∙ s.rows j h ∙ sym (row_apart l i e j ne)

  at_each : (j : ℕ) → j < n → get_or (set log i e) j no_entry ≡ row_of (logged l i e) j
  at_each j h =
      ⊎_elim
      (λ (a : i ≤ j). ⊎_elim
      (λ (b : j ≤ i). subst (λ (m : ℕ). m < n → get_or (set log i e) m no_entry ≡ row_of (logged l i e) m) (one i j a b) there h)
      (λ (b : i < j). apart j h (λ (p : j ≡ i). omega (arith, p, b)))
      (le-or-gt j i))
      (λ (a : j < i). apart j h (λ (p : j ≡ i). omega (arith, p, a)))
      (le-or-gt i j)

  pub stored_same : Same n (set log i e) (logged l i e)
  stored_same = record {
    entries = kept n (length log) (length (set log i e)) s.entries (length-set log i e);
    columns = (
      kept n (length l.kinds) (length (set l.kinds i e.kind)) s.columns.0 (length-set l.kinds i e.kind),
      kept n (length l.offsets) (length (set l.offsets i e.offset)) s.columns.1 (length-set l.offsets i e.offset),
      kept n (length l.lens) (length (set l.lens i e.len)) s.columns.2 (length-set l.lens i e.len),
      kept n (length l.digests) (length (set l.digests i e.digest)) s.columns.3 (length-set l.digests i e.digest),
      kept n (length l.changed) (length (set l.changed i e.changed)) s.columns.4 (length-set l.changed i e.changed),
      kept n (length l.answered) (length (set l.answered i e.answered)) s.columns.5 (length-set l.answered i e.answered),
    );
    rows = at_each;
  }

-- recording keeps the lengths
pub recorded-length : (n : ℕ) (l : Log) (i : ℕ) (e : Entry) → OfLength n l → OfLength n (logged l i e)
recorded-length n l i e even = (
  length-set l.kinds i e.kind ∙ even.0,
  length-set l.offsets i e.offset ∙ even.1,
  length-set l.lens i e.len ∙ even.2,
  length-set l.digests i e.digest ∙ even.3,
  length-set l.changed i e.changed ∙ even.4,
  length-set l.answered i e.answered ∙ even.5,
)
