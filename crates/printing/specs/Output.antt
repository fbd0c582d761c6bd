-- What is told of a text that is printed line by line, and what a writer took of it. Definitions only; assumes nothing.
use Rattle.std.specs.Prelude.{◌≡◌, ◌≤◌, Bool, true, ℕ, length, take, eqb, Option}
use mathlib.Core.List.{List, flatten}
use Rattle.std.specs.Io.KnownBytes.{Appends}
use Rattle.printing.specs.declared.Printed.{Printed}

-- Of the lines `ls`, the first `lines` were taken: how many bytes they have, and whether they are all. Which write is the first that is
-- not taken nobody knows but the system, so that the count of lines is the answer that is left free.
abbrev pub printed_of : (ls : List (List ℕ)) → (lines : ℕ) → Printed
printed_of ls lines = record { lines = lines; bytes = length (flatten (take lines ls)); taken = eqb lines (length ls) }

-- A writer took the front of `bytes`, and all of them where that is `told`; private contracts alone cite it.
abbrev pub FrontOf : (old new : Option (List ℕ)) → (bytes : List ℕ) → (told : Bool) → Type 0
FrontOf old new bytes told = (n : ℕ) × (n ≤ length bytes) × Appends old new (take n bytes) × (told ≡ true → n ≡ length bytes)

-- A writer took the front of the text that the lines `ls` make: the bytes that are told at least, and the whole where all is told as taken.
abbrev pub Written : (ls : List (List ℕ)) → Printed → (old new : Option (List ℕ)) → Type 0
Written ls r old new = (n : ℕ) × (r.bytes ≤ n) × Appends old new (take n (flatten ls)) × (r.taken ≡ true → n ≡ length (flatten ls))
