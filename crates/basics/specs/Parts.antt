-- A part of a list, and a list with a part replaced. Assumes nothing.
use Rattle.std.specs.Prelude.{Bool, cond, List, ◌++◌, ℕ, ◌+◌, length, take, drop, leb}

-- "the part .. from offset to offset plus length": n elements from offset on
unfoldable pub part : {A : Type 0} → List A → (offset n : ℕ) → List A
part xs offset n = take n (drop offset xs)

-- that part lies within the list
abbrev pub within : {A : Type 0} → List A → (offset n : ℕ) → Bool
within xs offset n = leb (offset + n) (length xs)

-- the list with its elements from offset on replaced by as many new ones
unfoldable pub overlaid : {A : Type 0} → List A → (offset : ℕ) → List A → List A
overlaid xs offset new = take offset xs ++ (new ++ drop (offset + length new) xs)

-- the list with f done to a part of it; where that part is not all there, the list as it was
unfoldable pub on_part : {A : Type 0} → List A → (offset n : ℕ) → (List A → List A) → List A
on_part xs offset n f = cond (within xs offset n) (overlaid xs offset (f (part xs offset n))) xs
