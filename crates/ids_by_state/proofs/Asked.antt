-- What `write_picked` answers at each of its ways out: one law for each, whose premises are what the calls ensure and what the tests
-- say. Assumes nothing.
use mathlib.Core.Path.{◌≡◌, sym}
use mathlib.Core.Bool.{Bool}
use mathlib.Core.List.{List, ◌++◌}
use Prim.Native.Nat.{ℕ, ◌≤◌, ◌<◌}
use lib.ListN.{length, drop}
use borrow.Author.Tests.{ne_eqb, le-leb, lt-leb}
use Rattle.std.specs.Prelude.{Ok, Err}
use Rattle.basics.specs.Tests.{unless, first_of}
use Rattle.refusals.specs.Numbers.{number_of}
use Rattle.refusals.specs.Nonzero.{refusal-nonzero}
use Rattle.refusals.specs.declared.Refusal.{Refusal}
use Rattle.model.specs.Ledger.{Entry}
use Rattle.model.specs.Columns.{ledger_of, refused}
use Rattle.model.specs.Answers.{Written}
use Rattle.model.proofs.Codes.{Sound, refused_none}
use Rattle.ids_by_state.specs.Answers.{picked_ids, picked_written}

pub one_length : (is ss ts : List ℕ) → 0 ≡ refused is ss ts → (length ss ≡ length is) × (length ts ≡ length is)
one_length is ss ts told = let g : Sound is ss ts = refused_none is ss ts (sym told) in (g.states, g.torns)

module _ (test : Entry → Bool) (is ss ts column : List ℕ) where
  pub write-refused : (e : Refusal) → number_of e ≡ refused is ss ts → ◌≡◌ {A = Written} (record { answer = Err (number_of e); column = column }) (picked_written test is ss ts column)
  unfolding picked_written first_of
  write-refused e told = simp (sym told, ne_eqb (number_of e) 0 (refusal-nonzero e))

  -- m of them
  module _ (told : 0 ≡ refused is ss ts) (m : ℕ) (q : m ≡ length (picked_ids test (ledger_of is ss ts))) where
    pub write-short : length column < m → ◌≡◌ {A = Written} (record { answer = Err 13; column = column }) (picked_written test is ss ts column)
    unfolding picked_written first_of unless
    write-short h = simp (sym told, sym q, lt-leb _ _ h)

    pub write-room : m ≤ length column → length (picked_ids test (ledger_of is ss ts)) ≤ length column
    write-room h = rw (sym q) h

    pub write-is : m ≤ length column → (new : List ℕ) → new ≡ picked_ids test (ledger_of is ss ts) ++ drop (length (picked_ids test (ledger_of is ss ts))) column
        → ◌≡◌ {A = Written} (record { answer = Ok m; column = new }) (picked_written test is ss ts column)
    unfolding picked_written first_of unless
    write-is h new g = simp (sym told, sym q, le-leb _ _ h, g)
