-- What each way out of the marks' tests answers, and the two ways that a call goes, refused or taken. Assumes nothing.
use mathlib.Core.Path.{◌≡◌, sym, ap, ◌∙◌}
use mathlib.Core.List.{List, [], ◌∷◌}
use Prim.Native.Nat.{ℕ, ◌+◌, ◌≤◌}
use lib.ListN.{length}
use lib.Dec.{leb}
use borrow.Author.Tests.{leb-true, eq-eqb, ne_eqb}
use Rattle.basics.specs.Tests.{unless}
use Rattle.basics.proofs.Tests.{first_of-one, first_of-zero, unless-zero}
use Rattle.session.specs.declared.Counters.{Counters}
use Rattle.session.specs.Replies.{Called}
use Rattle.session.specs.Log.{Marks, Mark, marked}
use Rattle.session.specs.Tests.{marks_length_test, mark_test, marks_number}
use Rattle.session.specs.Marks.{noted, noting, marked_from, noted_by}

-- ---- the tests

-- what a call that marks and is not refused knows
pub marks-fit : (marks more codes ids places : ℕ) → marks_number marks more codes ids places ≡ 0 → marks + more ≤ 512
unfolding marks_number mark_test
marks-fit marks more codes ids places e =
    let two = first_of-zero (marks_length_test codes ids places) (unless (leb (marks + more) 512) 28 ∷ []) e in
    leb-true (marks + more) 512 (unless-zero (leb (marks + more) 512) 27 (sym (first_of-one _) ∙ two.1))

-- ---- refused or taken

module _ (c : Counters) (more : ℕ) (m : Marks) (n : ℕ)
    (e : n ≡ marks_number c.marks more (length m.codes) (length m.ids) (length m.places)) where
  pub noted-refused : (xs : List Mark) → (n ≡ 0 → ⊥) → noted (record { answer = n; counters = c }) m ≡ noted_by c more xs m
  noted-refused xs h = simp (← e, ne_eqb n 0 h)

  pub noted-taken : (xs : List Mark) → n ≡ 0 → (r : Called) (m' : Marks) → r ≡ record { answer = 0; counters = noting c more }
      → m' ≡ marked_from m c.marks xs → noted r m' ≡ noted_by c more xs m
  noted-taken xs z r m' a b = simp (← e, eq-eqb n 0 z, a, b)

-- one mark stored, and two
pub marked-one : (m : Marks) (i : ℕ) (x : Mark) (m' : Marks) → m' ≡ marked m i x → m' ≡ marked_from m i (x ∷ [])
unfolding marked_from
marked-one m i x m' e = e

pub marked-two : (m : Marks) (i : ℕ) (x y : Mark) (m' m'' : Marks) → m' ≡ marked m i x → m'' ≡ marked m' (i + 1) y → m'' ≡ marked_from m i (x ∷ y ∷ [])
unfolding marked_from
marked-two m i x y m' m'' e f = f ∙ ap (λ (k : Marks). marked k (i + 1) y) e
