-- Nothing is lost between the text and the columns: the rows that reading writes hold the script's calls.
-- Assumes nothing.
use mathlib.Core.Path.{◌≡◌, refl, ap, sym, ◌∙◌}
use mathlib.Core.List.{List, [], ◌∷◌, ◌++◌, append_assoc, map}
use Prim.Native.Nat.{ℕ, ◌+◌}
use lib.ListN.{length, take, drop, length-append}
use lib.Seq.{drop_at, take-append_seam}
use Rattle.script.specs.Calls.{Call, begin, end, mark, program, erase, barrier}
use Rattle.script.specs.Columns.{Columns, kind_of, first_in, second_in, third_in, bytes_in, starts_of, bytes_of, written}
use Rattle.script.specs.Held.{call_from, rows_in, calls_in}

held : (before bs after : List ℕ) (start : ℕ) → length before ≡ start → take (length bs) (drop start (before ++ (bs ++ after))) ≡ bs
held before bs after start e = ap (take (length bs)) (drop_at before (bs ++ after) start e) ∙ take-append_seam bs after

row-held : (x : Call) (before after : List ℕ) (start : ℕ) → length before ≡ start → call_from (kind_of x) (first_in x) (second_in x) (third_in x) start (before ++ (bytes_in x ++ after)) ≡ x
row-held (begin id) before after start e = refl
row-held end before after start e = refl
row-held (mark id from to) before after start e = refl
row-held (program offset bs) before after start e = ap (program offset) (held before bs after start e)
row-held (erase offset count) before after start e = refl
row-held barrier before after start e = refl

-- the pool, with a call's bytes by themselves, and with them before the place
apart : (before u v rest : List ℕ) → before ++ ((u ++ v) ++ rest) ≡ before ++ (u ++ (v ++ rest))
apart before u v rest = ap (λ (l : List ℕ). before ++ l) (append_assoc u v rest)

passed : (before u v rest : List ℕ) → before ++ ((u ++ v) ++ rest) ≡ (before ++ u) ++ (v ++ rest)
passed before u v rest = apart before u v rest ∙ sym (append_assoc before u (v ++ rest))

rows-held : (cs : List Call) (ks xs ys zs ss before rest : List ℕ) (start : ℕ) → length before ≡ start
    → rows_in (length cs) (map kind_of cs ++ ks) (map first_in cs ++ xs) (map second_in cs ++ ys) (map third_in cs ++ zs) (starts_of start cs ++ ss) (before ++ (bytes_of cs ++ rest)) ≡ cs
unfolding rows_in starts_of bytes_of
rows-held [] ks xs ys zs ss before rest start e = refl
rows-held (c ∷ cs) ks xs ys zs ss before rest start e =
    ap (λ (p : List ℕ). call_from (kind_of c) (first_in c) (second_in c) (third_in c) start p ∷ rows_in (length cs) (map kind_of cs ++ ks) (map first_in cs ++ xs) (map second_in cs ++ ys) (map third_in cs ++ zs) (starts_of (start + length (bytes_in c)) cs ++ ss) (before ++ ((bytes_in c ++ bytes_of cs) ++ rest))) (apart before (bytes_in c) (bytes_of cs) rest)
    ∙ ap (λ (x : Call). x ∷ rows_in (length cs) (map kind_of cs ++ ks) (map first_in cs ++ xs) (map second_in cs ++ ys) (map third_in cs ++ zs) (starts_of (start + length (bytes_in c)) cs ++ ss) (before ++ ((bytes_in c ++ bytes_of cs) ++ rest))) (row-held c before (bytes_of cs ++ rest) start e)
    ∙ ap (λ (p : List ℕ). c ∷ rows_in (length cs) (map kind_of cs ++ ks) (map first_in cs ++ xs) (map second_in cs ++ ys) (map third_in cs ++ zs) (starts_of (start + length (bytes_in c)) cs ++ ss) p) (passed before (bytes_in c) (bytes_of cs) rest)
    ∙ ap (λ (l : List Call). c ∷ l) (rows-held cs ks xs ys zs ss (before ++ bytes_in c) rest (start + length (bytes_in c)) (length-append before (bytes_in c) ∙ ap (λ (n : ℕ). n + length (bytes_in c)) e))

-- the rows that were written are the calls
pub calls-kept : (cs : List Call) (k : Columns) → calls_in (length cs) (written cs k) ≡ cs
unfolding written
calls-kept cs k = rows-held cs _ _ _ _ _ [] _ 0 refl
