-- Columns of 32,768 rows and a pool of 32,768 bytes are enough for every script: the line of a call has at least two bytes, its letter and its LF,
-- and a byte of a program takes two digits.
-- Assumes nothing.
use mathlib.Core.Path.{◌≡◌, refl}
use mathlib.Core.Bool.{Bool, true, false, cond}
use mathlib.Core.List.{List, [], ◌∷◌}
use Prim.Native.Nat.{ℕ, suc, ◌+◌, ◌*◌, ◌≤◌}
use native.Mathlib.Omega.{arith}
use lib.ListN.{length, length-append}
use lib.Dec.{eqb, leb}
use borrow.Author.Tests.{leb-true}
use Rattle.text.specs.Lines.{TextLine, ended, unended, onto_line, lines_of, onto_field, fields_of}
use Rattle.text.specs.Numbers.{Decimal, number, none, number_of}
use Rattle.text.specs.Pairs.{pair_values}
use Rattle.hex_pairs.proofs.Bytes.{pair-count}
use Rattle.script.specs.declared.Head.{Head}
use Rattle.script.specs.Calls.{Call, Meaning, call, malformed, begin_with, mark_with, erase_with, program_with, begin_line, end_line, mark_line, program_line, erase_line, barrier_line, is_bytes, is_kind, call_of, meaning_of, Reading, calls, faulty, call_then, on_meaning, read_lines}
use Rattle.script.specs.First.{FirstLine, given, no_head, first_of_line, head_test}
use Rattle.script.specs.Script.{Script, script, refused, with_calls, with_first, with_lines, script_of}
use Rattle.script.specs.Columns.{bytes_in, bytes_of}

-- ---- how long the fields of a line are

abbrev sum_of : List (List ℕ) → ℕ
sum_of [] = 0
sum_of (f ∷ fs) = length f + sum_of fs

onto-sum : (x : ℕ) (F : List (List ℕ)) → sum_of (onto_field x F) ≤ suc (sum_of F)
onto-sum x [] = omega arith
onto-sum x (f ∷ fs) = omega arith

sum_step : (t : Bool) (x n : ℕ) (F : List (List ℕ)) → sum_of F ≤ n → sum_of (cond t ([] ∷ F) (onto_field x F)) ≤ suc n
sum_step true x n F h = omega arith
sum_step false x n F h = omega (arith, onto-sum x F)

sum_fields : (xs : List ℕ) → sum_of (fields_of xs) ≤ length xs
unfolding fields_of
sum_fields [] = omega arith
sum_fields (x ∷ xs) = sum_step (eqb x 9) x (length xs) (fields_of xs) (sum_fields xs)

-- ---- the line of a call has a letter, and two bytes of text for each byte

abbrev Small : ℕ → Meaning → Type 0
Small n malformed = Unit {0}
Small n (call c) = (1 ≤ n) × (2 * length (bytes_in c) ≤ n)

small-begin : (n : ℕ) (d : Decimal) → 1 ≤ n → Small n (begin_with d)
small-begin n (number i) h = (h, omega arith)
small-begin n none h = tt

small-erase : (n : ℕ) (d e : Decimal) → 1 ≤ n → Small n (erase_with d e)
small-erase n (number i) (number j) h = (h, omega arith)
small-erase n (number i) none h = tt
small-erase n none e h = tt

small-mark : (n : ℕ) (d e f : Decimal) → 1 ≤ n → Small n (mark_with d e f)
small-mark n (number i) (number j) (number k) h = (h, omega arith)
small-mark n (number i) (number j) none h = tt
small-mark n (number i) none f h = tt
small-mark n none e f h = tt

small-program : (n : ℕ) (d : Decimal) (t : Bool) (bs : List ℕ) → 1 ≤ n → 2 * length bs ≤ n → Small n (program_with d t bs)
small-program n (number o) true bs h k = (h, k)
small-program n (number o) false bs h k = tt
small-program n none t bs h k = tt

begin-line : (n : ℕ) (F : List (List ℕ)) → 1 ≤ n → Small n (begin_line F)
begin-line n [] h = tt
begin-line n (f ∷ []) h = small-begin n (number_of f) h
begin-line n (f ∷ g ∷ gs) h = tt

end-line : (n : ℕ) (F : List (List ℕ)) → 1 ≤ n → Small n (end_line F)
end-line n [] h = (h, omega arith)
end-line n (f ∷ fs) h = tt

mark-line : (n : ℕ) (F : List (List ℕ)) → 1 ≤ n → Small n (mark_line F)
mark-line n [] h = tt
mark-line n (f ∷ []) h = tt
mark-line n (f ∷ g ∷ []) h = tt
mark-line n (f ∷ g ∷ i ∷ []) h = small-mark n (number_of f) (number_of g) (number_of i) h
mark-line n (f ∷ g ∷ i ∷ j ∷ js) h = tt

program-line : (n : ℕ) (F : List (List ℕ)) → 1 ≤ n → sum_of F ≤ n → Small n (program_line F)
program-line n [] h k = tt
program-line n (f ∷ []) h k = tt
program-line n (f ∷ g ∷ []) h k = small-program n (number_of f) (is_bytes g) (pair_values g) h (omega (arith, pair-count g))
program-line n (f ∷ g ∷ i ∷ is) h k = tt

erase-line : (n : ℕ) (F : List (List ℕ)) → 1 ≤ n → Small n (erase_line F)
erase-line n [] h = tt
erase-line n (f ∷ []) h = tt
erase-line n (f ∷ g ∷ []) h = small-erase n (number_of f) (number_of g) h
erase-line n (f ∷ g ∷ i ∷ is) h = tt

barrier-line : (n : ℕ) (F : List (List ℕ)) → 1 ≤ n → Small n (barrier_line F)
barrier-line n [] h = (h, omega arith)
barrier-line n (f ∷ fs) h = tt

letter : (x : ℕ) (k : List ℕ) → is_kind x k ≡ true → 1 ≤ length k
letter x [] e = absurd (let z : ◌≡◌ {A = ℕ} 0 1 = cc in omega arith)
letter x (y ∷ k) e = omega arith

small-if : (t : Bool) (n : ℕ) (a b : Meaning) → (t ≡ true → Small n a) → Small n b → Small n (cond t a b)
small-if true n a b p q = p refl
small-if false n a b p q = q

small-call : (F : List (List ℕ)) → Small (sum_of F) (call_of F)
unfolding call_of
small-call [] = tt
small-call (k ∷ fs) =
    let n = length k + sum_of fs in
    small-if (is_kind 66 k) n _ _ (λ e. begin-line n fs (omega (arith, letter 66 k e)))
    (small-if (is_kind 78 k) n _ _ (λ e. end-line n fs (omega (arith, letter 78 k e)))
    (small-if (is_kind 77 k) n _ _ (λ e. mark-line n fs (omega (arith, letter 77 k e)))
    (small-if (is_kind 80 k) n _ _ (λ e. program-line n fs (omega (arith, letter 80 k e)) (omega arith))
    (small-if (is_kind 69 k) n _ _ (λ e. erase-line n fs (omega (arith, letter 69 k e)))
    (small-if (is_kind 83 k) n _ _ (λ e. barrier-line n fs (omega (arith, letter 83 k e)))
    tt)))))

small-more : (n m : ℕ) (c : Meaning) → n ≤ m → Small n c → Small m c
small-more n m malformed h p = tt
small-more n m (call c) h p = (omega (arith, p.0), omega (arith, p.1))

-- ---- how long the lines of a text are

abbrev line_long : TextLine → ℕ
line_long (ended l) = suc (length l)
line_long (unended l) = length l

abbrev total_of : List TextLine → ℕ
total_of [] = 0
total_of (l ∷ ls) = line_long l + total_of ls

onto-total : (x : ℕ) (ls : List TextLine) → total_of (onto_line x ls) ≤ suc (total_of ls)
onto-total x [] = omega arith
onto-total x (ended l ∷ ls) = omega arith
onto-total x (unended l ∷ ls) = omega arith

total-step : (t : Bool) (x n : ℕ) (ls : List TextLine) → total_of ls ≤ n → total_of (cond t (ended [] ∷ ls) (onto_line x ls)) ≤ suc n
total-step true x n ls h = omega arith
total-step false x n ls h = omega (arith, onto-total x ls)

total-lines : (xs : List ℕ) → total_of (lines_of xs) ≤ length xs
unfolding lines_of
total-lines [] = omega arith
total-lines (x ∷ xs) = total-step (eqb x 10) x (length xs) (lines_of xs) (total-lines xs)

-- ---- the calls of lines

pub record Within (n : ℕ) (cs : List Call) : Type 0 where
  pub rows : 2 * length cs ≤ n
  pub bytes : 2 * length (bytes_of cs) ≤ n

small_line : (l : List ℕ) → Small (length l) (meaning_of (ended l))
unfolding meaning_of
small_line l = small-more (sum_of (fields_of l)) (length l) (call_of (fields_of l)) (sum_fields l) (small-call (fields_of l))

no-calls : (n : ℕ) (cs : List Call) → calls [] ≡ calls cs → Within n cs
unfolding bytes_of
no-calls n cs e = let q : [] ≡ cs = cc in rw (← q) (record { rows = omega arith; bytes = omega arith })

within-then : (n m : ℕ) (c : Call) (R : Reading) (cs : List Call) → Small n (call c) → ((ds : List Call) → R ≡ calls ds → Within m ds) → call_then c R ≡ calls cs → Within (suc n + m) cs
unfolding bytes_of
within-then n m c (faulty l) cs s k e = absurd (let z : ◌≡◌ {A = ℕ} 0 1 = cc in omega arith)
within-then n m c (calls ds) cs s k e =
    let q : c ∷ ds ≡ cs = cc in
    let w = k ds refl in
    let a = w.rows in
    let b = w.bytes in
    rw (← q) (record { rows = omega (arith, s.0); bytes = omega (arith, s.1, length-append (bytes_in c) (bytes_of ds)) })

within_step : (n m line : ℕ) (x : Meaning) (R : Reading) (cs : List Call) → Small n x → ((ds : List Call) → R ≡ calls ds → Within m ds) → on_meaning x line R ≡ calls cs → Within (suc n + m) cs
within_step n m line malformed R cs s k e = absurd (let z : ◌≡◌ {A = ℕ} 0 1 = cc in omega arith)
within_step n m line (call c) R cs s k e = within-then n m c R cs s k e

unended-none : (l : List ℕ) (line : ℕ) (R : Reading) (cs : List Call) → on_meaning (meaning_of (unended l)) line R ≡ calls cs → ⊥
unfolding meaning_of
unended-none l line R cs e = let z : ◌≡◌ {A = ℕ} 0 1 = cc in omega arith

pub within : (ls : List TextLine) (line : ℕ) (cs : List Call) → read_lines line ls ≡ calls cs → Within (total_of ls) cs
unfolding read_lines
within [] line cs e = no-calls 0 cs e
within (ended l ∷ ls) line cs e = within_step (length l) (total_of ls) line (meaning_of (ended l)) (read_lines (line + 1) ls) cs (small_line l) (λ ds q. within ls (line + 1) ds q) e
within (unended l ∷ ls) line cs e = absurd (unended-none l line (read_lines (line + 1) ls) cs e)

-- ---- a script that is not refused

kept : (t : Bool) (s : Script) (n m : ℕ) (h : Head) (cs : List Call) → cond t s (refused n m) ≡ script h cs → (t ≡ true) × (s ≡ script h cs)
kept true s n m h cs e = (refl, e)
kept false s n m h cs e = absurd (let z : ◌≡◌ {A = ℕ} 0 1 = cc in omega arith)

kept-calls : (g h : Head) (R : Reading) (cs : List Call) → with_calls g R ≡ script h cs → R ≡ calls cs
kept-calls g h (calls ds) cs e = let q : ds ≡ cs = cc in rw q
kept-calls g h (faulty l) cs e = absurd (let z : ◌≡◌ {A = ℕ} 0 1 = cc in omega arith)

kept-first : (f : FirstLine) (ls : List TextLine) (h : Head) (cs : List Call) → with_first f ls ≡ script h cs → read_lines 2 ls ≡ calls cs
kept-first no_head ls h cs e = absurd (let z : ◌≡◌ {A = ℕ} 0 1 = cc in omega arith)
kept-first (given g) ls h cs e = kept-calls g h (read_lines 2 ls) cs (kept (eqb (head_test g.geometry) 0) (with_calls g (read_lines 2 ls)) _ _ h cs e).1

kept-lines : (ls : List TextLine) (h : Head) (cs : List Call) → with_lines ls ≡ script h cs → Within (total_of ls) cs
kept-lines [] h cs e = absurd (let z : ◌≡◌ {A = ℕ} 0 1 = cc in omega arith)
kept-lines (l ∷ ls) h cs e =
    let w = within ls 2 cs (kept-first (first_of_line l) ls h cs e) in
    let a = w.rows in
    let b = w.bytes in
    record { rows = omega arith; bytes = omega arith }

pub record Enough (cs : List Call) : Type 0 where
  pub rows : length cs ≤ 32768
  pub bytes : length (bytes_of cs) ≤ 32768

pub enough : (text : List ℕ) (h : Head) (cs : List Call) → script_of text ≡ script h cs → Enough cs
unfolding script_of
enough text h cs e =
    let a = kept (leb (length text) 65536) (with_lines (lines_of text)) 9 0 h cs e in
    let n : length text ≤ 65536 = leb-true (length text) 65536 a.0 in
    let t : total_of (lines_of text) ≤ length text = total-lines text in
    let w = kept-lines (lines_of text) h cs a.1 in
    let x = w.rows in
    let y = w.bytes in
    record { rows = omega arith; bytes = omega arith }
