-- The round trip: what is printed for a line 1 and a list of calls reads as that line 1 and those calls.
-- Assumes nothing.
use mathlib.Core.Path.{◌≡◌, refl, ap, ◌∙◌}
use mathlib.Core.List.{List, [], ◌∷◌, ◌++◌, append-nil, append_assoc}
use mathlib.Core.Bool.{Bool, true, false, cond}
use Prim.Native.Nat.{ℕ, ◌+◌, ◌≤◌, ◌<◌}
use native.Mathlib.Omega.{arith}
use lib.ListN.{length}
use borrow.Author.Tests.{ne_eqb, le-leb}
use Rattle.storage.specs.Geometry.{geometry_of}
use Rattle.text.specs.Lines.{TextLine, ended, lines_of, fields_of}
use Rattle.text.specs.Numbers.{largest, decimal_of}
use Rattle.text.specs.Pairs.{AllBytes, pairs_text}
use Rattle.text.proofs.Plain.{Plain}
use Rattle.text.proofs.ReadBack.{decimal-plain, decimal-read, pairs-plain, pairs-are, pairs-read}
use Rattle.script.specs.declared.Head.{Head}
use Rattle.script.specs.Calls.{Call, begin, end, mark, program, erase, barrier, call, is_bytes, call_of, meaning_of, calls, call_then, read_lines}
use Rattle.script.specs.First.{given, head_is, headed, head_of, first_of_line}
use Rattle.script.specs.Script.{script, script_of}
use Rattle.script.specs.Print.{joined, fields_in, print_calls, head_fields, printed, Sayable, AllSayable, Sound}
use Rattle.script.proofs.Cells.{above-ne}
use Rattle.script.proofs.Passes.{line-by}

-- ---- fields without tab and LF, joined

abbrev AllPlain : List (List ℕ) → Type 0
AllPlain [] = Unit {0}
AllPlain (f ∷ fs) = Plain f × AllPlain fs

fields-plain : (f : List ℕ) → Plain f → fields_of f ≡ f ∷ []
unfolding fields_of
fields-plain [] p = refl
fields-plain (x ∷ f) p = simp (ne_eqb x 9 (above-ne x 9 (omega arith) p.0), fields-plain f p.1)

fields-cat : (f g : List ℕ) → Plain f → fields_of (f ++ (9 ∷ g)) ≡ f ∷ fields_of g
unfolding fields_of
fields-cat [] g p = refl
fields-cat (x ∷ f) g p = simp (ne_eqb x 9 (above-ne x 9 (omega arith) p.0), fields-cat f g p.1)

fields-joined : (f : List ℕ) (fs : List (List ℕ)) → AllPlain (f ∷ fs) → fields_of (joined (f ∷ fs)) ≡ f ∷ fs
unfolding joined
fields-joined f [] p = fields-plain f p.0
fields-joined f (g ∷ fs) p = fields-cat f (joined (g ∷ fs)) p.0 ∙ ap (λ (l : List (List ℕ)). f ∷ l) (fields-joined g fs p.1)

lines-plain : (f : List ℕ) (l : List ℕ) (r : List TextLine) → Plain f → (rest : List ℕ) → lines_of rest ≡ ended l ∷ r → lines_of (f ++ rest) ≡ ended (f ++ l) ∷ r
unfolding lines_of
lines-plain [] l r p rest e = e
lines-plain (x ∷ f) l r p rest e = simp (ne_eqb x 10 (above-ne x 10 (omega arith) p.0), lines-plain f l r p.1 rest e)

lines_start : (rest : List ℕ) → lines_of (10 ∷ rest) ≡ ended [] ∷ lines_of rest
unfolding lines_of
lines_start rest = refl

lines-tab : (rest l : List ℕ) (r : List TextLine) → lines_of rest ≡ ended l ∷ r → lines_of (9 ∷ rest) ≡ ended (9 ∷ l) ∷ r
unfolding lines_of
lines-tab rest l r e = simp e

lines-joined : (fs : List (List ℕ)) (rest : List ℕ) → AllPlain fs → lines_of (joined fs ++ (10 ∷ rest)) ≡ ended (joined fs) ∷ lines_of rest
unfolding joined
lines-joined [] rest p = lines_start rest
lines-joined (f ∷ []) rest p =
    lines-plain f [] (lines_of rest) p.0 (10 ∷ rest) (lines_start rest) ∙ ap (λ (l : List ℕ). ended l ∷ lines_of rest) (append-nil f)
lines-joined (f ∷ g ∷ fs) rest p =
    ap lines_of (append_assoc f (9 ∷ joined (g ∷ fs)) (10 ∷ rest))
    ∙ lines-plain f (9 ∷ joined (g ∷ fs)) (lines_of rest) p.0 (9 ∷ (joined (g ∷ fs) ++ (10 ∷ rest))) (lines-tab (joined (g ∷ fs) ++ (10 ∷ rest)) (joined (g ∷ fs)) (lines_of rest) (lines-joined (g ∷ fs) rest p.1))

-- ---- calls

bytes-are : (bs : List ℕ) → AllBytes bs → length bs ≤ 4096 → is_bytes (pairs_text bs) ≡ true
unfolding is_bytes
bytes-are bs a h = simp (pairs-are bs a, pairs-read bs a, le-leb _ _ h)

call-plain : (c : Call) → Sayable c → AllPlain (fields_in c)
call-plain (begin id) w = ((omega arith, tt), (decimal-plain id, tt))
call-plain end w = ((omega arith, tt), tt)
call-plain (mark id from to) w = ((omega arith, tt), (decimal-plain id, (decimal-plain from, (decimal-plain to, tt))))
call-plain (program offset bs) w = ((omega arith, tt), (decimal-plain offset, (pairs-plain bs w.1.0, tt)))
call-plain (erase offset count) w = ((omega arith, tt), (decimal-plain offset, (decimal-plain count, tt)))
call-plain barrier w = ((omega arith, tt), tt)

call-fields : (c : Call) → Sayable c → fields_of (joined (fields_in c)) ≡ fields_in c
call-fields (begin id) w = fields-joined _ _ (call-plain (begin id) w)
call-fields end w = fields-joined _ _ (call-plain end w)
call-fields (mark id from to) w = fields-joined _ _ (call-plain (mark id from to) w)
call-fields (program offset bs) w = fields-joined _ _ (call-plain (program offset bs) w)
call-fields (erase offset count) w = fields-joined _ _ (call-plain (erase offset count) w)
call-fields barrier w = fields-joined _ _ (call-plain barrier w)

call-read : (c : Call) → Sayable c → call_of (fields_in c) ≡ call c
unfolding call_of
call-read (begin id) w = simp (decimal-read id w)
call-read end w = refl
call-read (mark id from to) w = simp (decimal-read id w.0, decimal-read from w.1.0, decimal-read to w.1.1)
call-read (program offset bs) w = simp (decimal-read offset w.0, bytes-are bs w.1.0 w.1.1, pairs-read bs w.1.0)
call-read (erase offset count) w = simp (decimal-read offset w.0, decimal-read count w.1)
call-read barrier w = refl

line_read : (c : Call) → Sayable c → meaning_of (ended (joined (fields_in c))) ≡ call c
unfolding meaning_of
line_read c w = ap call_of (call-fields c w) ∙ call-read c w

lines-printed : (c : Call) (cs : List Call) → Sayable c → lines_of (print_calls (c ∷ cs)) ≡ ended (joined (fields_in c)) ∷ lines_of (print_calls cs)
unfolding print_calls
lines-printed c cs w = lines-joined (fields_in c) (print_calls cs) (call-plain c w)

no_lines : lines_of (print_calls []) ≡ []
unfolding print_calls lines_of
no_lines = refl

calls-read : (n : ℕ) (cs : List Call) → AllSayable cs → read_lines n (lines_of (print_calls cs)) ≡ calls cs
unfolding read_lines
calls-read n [] w = ap (read_lines n) no_lines
calls-read n (c ∷ cs) w =
    ap (read_lines n) (lines-printed c cs w.0)
    ∙ line-by n (ended (joined (fields_in c))) (lines_of (print_calls cs)) (call c) (line_read c w.0)
    ∙ ap (call_then c) (calls-read (n + 1) cs w.1)

-- ---- line 1

choice-plain : (t : Bool) (x y : ℕ) → 10 < x → 10 < y → 10 < cond t x y
choice-plain true x y h k = h
choice-plain false x y h k = k

head_plain : (h : Head) → AllPlain (head_fields h)
head_plain h = ((omega arith, tt), (decimal-plain h.geometry.capacity, (decimal-plain h.geometry.erase_size, (decimal-plain h.geometry.program_size, (decimal-plain h.geometry.read_size, ((choice-plain h.rejected 114 97 (omega arith) (omega arith), tt), ((choice-plain h.carries_on 99 115 (omega arith) (omega arith), tt), tt)))))))

headed-read : (c e p r : ℕ) (j w : Bool) → c ≤ largest → e ≤ largest → p ≤ largest → r ≤ largest
    → headed (71 ∷ []) (decimal_of c) (decimal_of e) (decimal_of p) (decimal_of r) (cond j 114 97 ∷ []) (cond w 99 115 ∷ []) ≡ given (head_is (geometry_of c e p r) j w)
unfolding headed
headed-read c e p r true true hc he hp hr = simp (decimal-read c hc, decimal-read e he, decimal-read p hp, decimal-read r hr)
headed-read c e p r true false hc he hp hr = simp (decimal-read c hc, decimal-read e he, decimal-read p hp, decimal-read r hr)
headed-read c e p r false true hc he hp hr = simp (decimal-read c hc, decimal-read e he, decimal-read p hp, decimal-read r hr)
headed-read c e p r false false hc he hp hr = simp (decimal-read c hc, decimal-read e he, decimal-read p hp, decimal-read r hr)

head_read : (h : Head) → Sound h → first_of_line (ended (joined (head_fields h))) ≡ given h
unfolding first_of_line head_of
head_read h s =
    ap head_of (fields-joined _ _ (head_plain h))
    ∙ headed-read h.geometry.capacity h.geometry.erase_size h.geometry.program_size h.geometry.read_size h.rejected h.carries_on s.capacity s.erase s.program s.read

-- the round trip
pub round_trip : (h : Head) (cs : List Call) → Sound h → AllSayable cs → length (printed h cs) ≤ 65536 → script_of (printed h cs) ≡ script h cs
unfolding script_of printed
round_trip h cs s w l =
    let e : lines_of (printed h cs) ≡ ended (joined (head_fields h)) ∷ lines_of (print_calls cs) = lines-joined (head_fields h) (print_calls cs) (head_plain h) in
    simp (le-leb _ _ l, e, head_read h s, s.tests, calls-read 2 cs w)
