-- The number that refuses rows, from the tests in turn, and what rows know that it does not refuse. Assumes nothing.
use mathlib.Core.Path.{◌≡◌, sym, ap, ◌∙◌}
use mathlib.Core.Bool.{Bool, true, false, ◌||◌}
use mathlib.Core.List.{[], ◌∷◌}
use Prim.Native.Nat.{ℕ}
use lib.ListN.{length, take}
use lib.Dec.{ltb}
use borrow.Author.Tests.{ltb-false}
use Rattle.basics.specs.Tests.{unless, refuse_if, first_of}
use Rattle.basics.proofs.Tests.{unless-zero, refuse-zero, first_of-pass, first_of-stop, first_of-one, first_of-zero}
use Rattle.storage.specs.declared.Geometry.{Geometry}
use Rattle.storage.specs.Geometry.{geometry_test}
use Rattle.device.proofs.Pairs.{false_left, false_right}
use Rattle.model.specs.Columns.{all_up_to}
use Rattle.session.specs.Tests.{size_test}
use Rattle.script.specs.Columns.{Columns}
use Rattle.rows.specs.Rows.{rows_uneven_of, any_outside, lengths_number, contents_number, rows_number}
use Rattle.rows.specs.Ready.{Ready}
use Rattle.rows.proofs.Lengths.{passed, five-even}

-- columns of one length
abbrev pub RowsEven : Columns → Type 0
RowsEven k =
    (length k.firsts ≡ length k.kinds) × (length k.seconds ≡ length k.kinds) × (length k.thirds ≡ length k.kinds) × (length k.starts ≡ length k.kinds)

module _ (g : Geometry) (media copy : ℕ) (uneven short : Bool) (most rows : ℕ) (k : Columns) where
  -- what lengths that are not refused are
  pub record Even : Type 0 where
    pub geometry-passes : geometry_test g ≡ 0
    pub sizes-pass : size_test g media copy ≡ 0
    pub others : uneven ≡ false
    pub columns-even : RowsEven k

  pub evens : lengths_number g media copy (uneven || rows_uneven_of k) ≡ 0 → Even
  evens e =
      let all = passed g media copy (uneven || rows_uneven_of k) e in
      record {
        geometry-passes = all.geometry-passes;
        sizes-pass = all.sizes-pass;
        others = false_left uneven (rows_uneven_of k) all.all-even;
        columns-even = five-even (length k.kinds) (length k.firsts) (length k.seconds) (length k.thirds) (length k.starts) (false_right uneven (rows_uneven_of k) all.all-even);
      }

  -- the two tests, as the function takes them
  module _ (listed : Bool) (w : listed ≡ rows_uneven_of k) where
    lengths-are : lengths_number g media copy (uneven || listed) ≡ lengths_number g media copy (uneven || rows_uneven_of k)
    lengths-are = ap (λ (b : Bool). lengths_number g media copy (uneven || b)) w

    pub lengths-refuse : (n : ℕ) → (n ≡ 0 → ⊥) → n ≡ lengths_number g media copy (uneven || listed) → n ≡ rows_number g media copy uneven short most rows k
    unfolding rows_number
    lengths-refuse n h e = e ∙ lengths-are ∙ sym (first_of-stop _ _ (λ z. h (e ∙ lengths-are ∙ z)))

    pub lengths-pass : 0 ≡ lengths_number g media copy (uneven || listed) → Even
    lengths-pass z = evens (sym (z ∙ lengths-are))

    pub contents-tell : 0 ≡ lengths_number g media copy (uneven || listed) → (n : ℕ) → n ≡ contents_number most rows k short → n ≡ rows_number g media copy uneven short most rows k
    unfolding rows_number
    contents-tell z n f = f ∙ sym (first_of-pass _ _ (sym (z ∙ lengths-are)) ∙ first_of-one _)

  -- rows that are not refused
  module _ (none : rows_number g media copy uneven short most rows k ≡ 0) where
    both : (lengths_number g media copy (uneven || rows_uneven_of k) ≡ 0) × (first_of (contents_number most rows k short ∷ []) ≡ 0)
    unfolding rows_number
    both = first_of-zero _ _ none

    pub lengths-known : Even
    lengths-known = evens both.0

    abbrev outside : Bool
    outside = any_outside (length k.pool) (take rows k.kinds) (take rows k.seconds) (take rows k.starts)

    contents-pass : (all_up_to most (take rows k.kinds) ≡ true) × ((short || ltb (length k.kinds) rows || outside) ≡ false)
    unfolding contents_number
    contents-pass =
        let known = unless (all_up_to most (take rows k.kinds)) 12 in
        let room = refuse_if (short || ltb (length k.kinds) rows || outside) 13 in
        let one = first_of-zero known (room ∷ []) (sym (first_of-one _) ∙ both.1) in
        let two = first_of-zero room [] one.1 in
        (unless-zero (all_up_to most (take rows k.kinds)) 11 one.0, refuse-zero (short || ltb (length k.kinds) rows || outside) 12 two.0)

    pub kinds-known : all_up_to most (take rows k.kinds) ≡ true
    kinds-known = contents-pass.0

    two-pass : (short || ltb (length k.kinds) rows) ≡ false
    two-pass = false_left (short || ltb (length k.kinds) rows) outside contents-pass.1

    pub long-enough : short ≡ false
    long-enough = false_left short (ltb (length k.kinds) rows) two-pass

    pub ready : Ready rows k
    ready = record {
      firsts-even = lengths-known.columns-even.0;
      seconds-even = lengths-known.columns-even.1;
      thirds-even = lengths-known.columns-even.2;
      starts-even = lengths-known.columns-even.3;
      room = ltb-false (length k.kinds) rows (false_right short (ltb (length k.kinds) rows) two-pass);
    }
