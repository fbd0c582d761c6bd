-- The layer `script` with its answers as ten cells of a reply: number and line, the four units of line 1, whether a bit set without
-- an erase is rejected, whether the writer carries on, how many calls and how many bytes. Definitions only; assumes nothing.
use Rattle.std.specs.Prelude.{Bool, cond, List, [], ◌∷◌, ℕ}
use Rattle.script.specs.declared.Head.{Head}
use Rattle.script.specs.Columns.{ReadScript, Read, Refused}

-- a flag is 1 where it is set
abbrev pub flag_cell : Bool → ℕ
flag_cell flag = cond flag 1 0

-- a script that was read: number and line are 0
abbrev pub read_cells : Head → (calls bytes : ℕ) → List ℕ
read_cells h calls bytes =
    0
    ∷ 0
    ∷ h.geometry.capacity
    ∷ h.geometry.erase_size
    ∷ h.geometry.program_size
    ∷ h.geometry.read_size
    ∷ flag_cell h.rejected
    ∷ flag_cell h.carries_on
    ∷ calls
    ∷ bytes
    ∷ []

-- a refused one: nothing but number and line
abbrev pub reply_cells : ReadScript → List ℕ
reply_cells (Read h calls bytes) = read_cells h calls bytes
reply_cells (Refused number line) = number ∷ line ∷ 0 ∷ 0 ∷ 0 ∷ 0 ∷ 0 ∷ 0 ∷ 0 ∷ 0 ∷ []
