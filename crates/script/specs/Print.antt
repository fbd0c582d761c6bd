-- A script as text: what is printed for a line 1 and a list of calls, so that reading it gives them back.
-- Definitions only; assumes nothing.
use Rattle.std.specs.Prelude.{◌≡◌, cond, List, [], ◌∷◌, ◌++◌, ℕ, ◌≤◌, length}
use Rattle.text.specs.Numbers.{largest, decimal_of}
use Rattle.text.specs.Pairs.{AllBytes, pairs_text}
use Rattle.script.specs.declared.Head.{Head}
use Rattle.script.specs.Calls.{Call, begin, end, mark, program, erase, barrier}
use Rattle.script.specs.First.{head_test}

-- fields parted by tabs
unfoldable pub joined : List (List ℕ) → List ℕ
joined [] = []
joined (f ∷ []) = f
joined (f ∷ g ∷ fs) = f ++ (9 ∷ joined (g ∷ fs))

-- a call's fields
abbrev pub fields_in : Call → List (List ℕ)
fields_in (begin id) = (66 ∷ []) ∷ decimal_of id ∷ []
fields_in end = (78 ∷ []) ∷ []
fields_in (mark id from to) = (77 ∷ []) ∷ decimal_of id ∷ decimal_of from ∷ decimal_of to ∷ []
fields_in (program offset bytes) = (80 ∷ []) ∷ decimal_of offset ∷ pairs_text bytes ∷ []
fields_in (erase offset count) = (69 ∷ []) ∷ decimal_of offset ∷ decimal_of count ∷ []
fields_in barrier = (83 ∷ []) ∷ []

-- a line for each call
unfoldable pub print_calls : List Call → List ℕ
print_calls [] = []
print_calls (c ∷ cs) = joined (fields_in c) ++ (10 ∷ print_calls cs)

-- line 1's fields
abbrev pub head_fields : Head → List (List ℕ)
head_fields h =
    (71 ∷ [])
    ∷ decimal_of h.geometry.capacity
    ∷ decimal_of h.geometry.erase_size
    ∷ decimal_of h.geometry.program_size
    ∷ decimal_of h.geometry.read_size
    ∷ (cond h.rejected 114 97 ∷ [])
    ∷ (cond h.carries_on 99 115 ∷ [])
    ∷ []

unfoldable pub printed : Head → List Call → List ℕ
printed h cs = joined (head_fields h) ++ (10 ∷ print_calls cs)

-- ---- what a script can say: numbers are u32, bytes are bytes, and there are at most 4,096 of them

abbrev pub Sayable : Call → Type 0
Sayable (begin id) = id ≤ largest
Sayable end = Unit {0}
Sayable (mark id from to) = (id ≤ largest) × ((from ≤ largest) × (to ≤ largest))
Sayable (program offset bytes) = (offset ≤ largest) × (AllBytes bytes × (length bytes ≤ 4096))
Sayable (erase offset count) = (offset ≤ largest) × (count ≤ largest)
Sayable barrier = Unit {0}

abbrev pub AllSayable : List Call → Type 0
AllSayable [] = Unit {0}
AllSayable (c ∷ cs) = Sayable c × AllSayable cs

-- a line 1 that no test refuses
pub record Sound (h : Head) : Type 0 where
  pub capacity : h.geometry.capacity ≤ largest
  pub erase : h.geometry.erase_size ≤ largest
  pub program : h.geometry.program_size ≤ largest
  pub read : h.geometry.read_size ≤ largest
  pub tests : head_test h.geometry ≡ 0
