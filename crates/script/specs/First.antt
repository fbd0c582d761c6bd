-- Document 01, "Scripts and the two programs": "Line 1, and only it: `G`, capacity, erase, program, read, `a` or `r` (absorbed,
-- rejected), `s` or `c` (the writer stops at its first error and returns it, or carries on and returns success)."
-- Definitions only; assumes nothing.
use Rattle.std.specs.Prelude.{Bool, true, false, ◌&&◌, ◌||◌, List, [], ◌∷◌, ℕ, leb}
use Rattle.basics.specs.Tests.{unless, first_of}
use Rattle.storage.specs.declared.Geometry.{Geometry}
use Rattle.storage.specs.Geometry.{geometry_of, geometry_test}
use Rattle.text.specs.Lines.{TextLine, ended, unended, fields_of}
use Rattle.text.specs.Numbers.{Decimal, number, none, number_of}
use Rattle.script.specs.declared.Head.{Head}
use Rattle.script.specs.Calls.{is_kind}

-- what line 1 says, or that it says nothing
pub data FirstLine : Type 0 where
  given : Head → FirstLine
  no_head : FirstLine

abbrev pub head_is : Geometry → (rejected carries : Bool) → Head
head_is g rejected carries = record { geometry = g; rejected = rejected; carries_on = carries }

-- the letters are right, and the four numbers read
abbrev pub head_with : Bool → (capacity erase program read : Decimal) → (rejected carries : Bool) → FirstLine
head_with true (number c) (number e) (number p) (number r) rejected carries = given (head_is (geometry_of c e p r) rejected carries)
head_with true (number c) (number e) (number p) none rejected carries = no_head
head_with true (number c) (number e) none r rejected carries = no_head
head_with true (number c) none p r rejected carries = no_head
head_with true none e p r rejected carries = no_head
head_with false c e p r rejected carries = no_head

-- the seven fields: 71 `G`, 97 `a`, 114 `r`, 115 `s`, 99 `c`
unfoldable pub headed : (kind capacity erase program read rule mode : List ℕ) → FirstLine
headed kind capacity erase program read rule mode =
    head_with (is_kind 71 kind && ((is_kind 97 rule || is_kind 114 rule) && (is_kind 115 mode || is_kind 99 mode)))
    (number_of capacity) (number_of erase) (number_of program) (number_of read) (is_kind 114 rule) (is_kind 99 mode)

-- line 1 by its fields, neither more nor fewer
unfoldable pub head_of : List (List ℕ) → FirstLine
head_of [] = no_head
head_of (k ∷ []) = no_head
head_of (k ∷ c ∷ []) = no_head
head_of (k ∷ c ∷ e ∷ []) = no_head
head_of (k ∷ c ∷ e ∷ p ∷ []) = no_head
head_of (k ∷ c ∷ e ∷ p ∷ r ∷ []) = no_head
head_of (k ∷ c ∷ e ∷ p ∷ r ∷ j ∷ []) = no_head
head_of (k ∷ c ∷ e ∷ p ∷ r ∷ j ∷ w ∷ []) = headed k c e p r j w
head_of (k ∷ c ∷ e ∷ p ∷ r ∷ j ∷ w ∷ f ∷ fs) = no_head

-- "So is a last line without LF."
unfoldable pub first_of_line : TextLine → FirstLine
first_of_line (ended l) = head_of (fields_of l)
first_of_line (unended l) = no_head

-- "10: capacity above 16,384, in the programs only, after 1 to 3"
unfoldable pub head_test : Geometry → ℕ
head_test g = first_of (geometry_test g ∷ unless (leb g.capacity 16384) 10 ∷ [])
