-- One mark entered, and the loop over the marks.
--     enter_one                 a begin stores its entry
--     fill-next, fill_end       the loop: what is left to be entered
--     derive-short, derive-all  13, or the ledger in its columns
-- Assumes nothing.
use mathlib.Core.Path.{◌≡◌, sym, ap, ◌∙◌}
use mathlib.Core.List.{List, ◌∷◌}
use Prim.Native.Nat.{ℕ, ◌+◌, ◌≤◌, ◌<◌}
use native.Mathlib.Omega.{arith}
use lib.ListN.{length, drop, get_or, set}
use borrow.Author.Tests.{eq-eqb, le-leb, lt-leb}
use Rattle.basics.specs.Tests.{flag, unless}
use Rattle.basics.proofs.Scans.{at-step, at-end}
use Rattle.model.specs.Ledger.{code_of}
use Rattle.std.specs.Prelude.{Ok as Entries, Err as NotDerived}
use Rattle.records.specs.declared.Facts.{Facts}
use Rattle.records.specs.declared.Codes.{Codes}
use Rattle.ledger.specs.Ledger.{Entered, entered_of, entered, ledgered}
use Rattle.records.specs.Columns.{entry_at, codes_of}
use Rattle.ledger.specs.Scans.{begins, next_of, Filled, filled, entering, fill_from, entries_from, derived_by}
use Rattle.records.proofs.Judged.{entry-id, entry-same}
use Rattle.ledger.proofs.Entries.{entries-length, filled-all}

-- ---- one mark

module _ (f : Facts) (ks cs : List ℕ) (from to code id n : ℕ) (is ss ts : List ℕ) where
  pub enter_one : code ≡ 1 → (next : ℕ) → next ≡ to → (x : Codes) → x ≡ codes_of (entry_at f ks cs 0 from next)
      → (is' ss' ts' : List ℕ) → is' ≡ set is n id → ss' ≡ set ss n x.state → ts' ≡ set ts n x.torn
      → filled (n + 1) (entered_of is' ss' ts') ≡ entering f ks cs code id from to (filled n (entered_of is ss ts))
  enter_one h next t x e is' ss' ts' p q r =
      let y = entry_at f ks cs id from to in
      let same : x ≡ codes_of y = e ∙ ap (λ (z : ℕ). codes_of (entry_at f ks cs 0 from z)) t ∙ sym (entry-same f ks cs from to id) in
      let a : is' ≡ set is n y.id = p ∙ ap (set is n) (sym (entry-id f ks cs from to id)) in
      let b : ss' ≡ set ss n (code_of y.state) = q ∙ ap (λ (z : Codes). set ss n z.state) same in
      let d : ts' ≡ set ts n (flag y.mark) = r ∙ ap (λ (z : Codes). set ts n z.torn) same in
      rw (eq-eqb code 1 h) (λ i. filled (n + 1) (entered_of (a i) (b i) (d i)))

-- ---- all marks

module _ (f : Facts) (ks cs ms is ps : List ℕ) (d : length is ≡ length ms) (g : length ps ≡ length ms) where
  pub fill-next : (i : ℕ) → i < length ms → (x y : Filled)
      → y ≡ entering f ks cs (get_or ms i 0) (get_or is i 0) (get_or ps i 0) (next_of (length ks) (drop (i + 1) ps)) x
      → fill_from f ks cs (drop i ms) (drop i is) (drop i ps) x ≡ fill_from f ks cs (drop (i + 1) ms) (drop (i + 1) is) (drop (i + 1) ps) y
  unfolding fill_from
  fill-next i h x y e =
      let hi : i < length is = omega arith in
      let hp : i < length ps = omega arith in
      at-step (λ (l : List ℕ). fill_from f ks cs l (drop i is) (drop i ps) x) ms i 0 h
      ∙ at-step (λ (l : List ℕ). fill_from f ks cs (get_or ms i 0 ∷ drop (i + 1) ms) l (drop i ps) x) is i 0 hi
      ∙ at-step (λ (l : List ℕ). fill_from f ks cs (get_or ms i 0 ∷ drop (i + 1) ms) (get_or is i 0 ∷ drop (i + 1) is) l x) ps i 0 hp
      ∙ ap (fill_from f ks cs (drop (i + 1) ms) (drop (i + 1) is) (drop (i + 1) ps)) (sym e)

  pub fill_end : (i : ℕ) → length ms ≤ i → (x : Filled) → fill_from f ks cs (drop i ms) (drop i is) (drop i ps) x ≡ x
  unfolding fill_from
  fill_end i h x = at-end (λ (l : List ℕ). fill_from f ks cs l (drop i is) (drop i ps) x) ms i h

  module _ (e : Entered) (n : ℕ) (count : n ≡ begins ms) where
    many : length (entries_from f ks cs ms is ps) ≡ n
    many = entries-length f ks cs ms is ps d g ∙ sym count

    pub derive-short : length e.ids < n → ledgered (NotDerived 13) e ≡ derived_by f ks cs ms is ps e
    unfolding derived_by unless
    derive-short h = let k : length e.ids < length (entries_from f ks cs ms is ps) = rw many h in rw (lt-leb _ _ k)

    pub derive-all : n ≤ length e.ids → length e.states ≡ length e.ids → length e.torn ≡ length e.ids
        → (r : ℕ) (after : Entered) → filled r after ≡ fill_from f ks cs ms is ps (filled 0 e) → ledgered (Entries r) after ≡ derived_by f ks cs ms is ps e
    unfolding derived_by unless
    derive-all h s t r after q =
        let l = entries_from f ks cs ms is ps in
        let k : length l ≤ length e.ids = rw many h in
        let w : filled r after ≡ filled (length l) (entered l e) = q ∙ filled-all f ks cs ms is ps d g e k s t in
        rw (le-leb (length l) (length e.ids) k) (ap (λ (x : Filled). ledgered (Entries x.count) x.columns) w)
