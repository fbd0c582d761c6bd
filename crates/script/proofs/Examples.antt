-- Scripts worked out by the definition: document 01's example of a sweep, and a fault of each kind. Bytes in decimal.
-- Assumes nothing.
use mathlib.Core.Path.{◌≡◌, refl}
use mathlib.Core.List.{List, [], ◌∷◌, ◌++◌}
use mathlib.Core.Bool.{false}
use Prim.Native.Nat.{ℕ}
use lib.Count.{ones}
use Rattle.basics.specs.Tests.{unless, refuse_if, first_of}
use Rattle.storage.specs.Geometry.{geometry_of, geometry_test}
use Rattle.text.specs.Lines.{lines_of, fields_of}
use Rattle.text.specs.Numbers.{is_digit, all_digits, value_from, is_number, number_of}
use Rattle.text.specs.Pairs.{is_letter, is_hex, all_hex, is_pairs, hex_of, pair_values}
use Rattle.script.specs.Calls.{begin, end, program, barrier, is_bytes, call_of, meaning_of, read_lines}
use Rattle.script.specs.First.{head_is, headed, head_of, first_of_line, head_test}
use Rattle.script.specs.Script.{script, refused, script_of}

-- G 4 4 1 1 a s
abbrev head : List ℕ
head = 71 ∷ 9 ∷ 52 ∷ 9 ∷ 52 ∷ 9 ∷ 49 ∷ 9 ∷ 49 ∷ 9 ∷ 97 ∷ 9 ∷ 115 ∷ 10 ∷ []

-- and then B 7, P 0 00, S, N
sweep : script_of (head ++ (66 ∷ 9 ∷ 55 ∷ 10 ∷ 80 ∷ 9 ∷ 48 ∷ 9 ∷ 48 ∷ 48 ∷ 10 ∷ 83 ∷ 10 ∷ 78 ∷ 10 ∷ []))
    ≡ script (head_is (geometry_of 4 4 1 1) false false) (begin 7 ∷ program 0 (0 ∷ []) ∷ barrier ∷ end ∷ [])
unfolding script_of lines_of fields_of call_of meaning_of read_lines is_bytes is_pairs pair_values all_hex is_hex is_letter hex_of is_digit all_digits value_from is_number number_of geometry_test head_test headed head_of first_of_line ones unless refuse_if first_of
sweep = refl

-- a last line without LF: S, N
last_line : script_of (head ++ (83 ∷ 10 ∷ 78 ∷ [])) ≡ refused 8 3
unfolding script_of lines_of fields_of call_of meaning_of read_lines is_digit all_digits value_from is_number number_of geometry_test head_test headed head_of first_of_line ones unless refuse_if first_of
last_line = refl

-- a second `G`, an empty line, CR LF, a leading zero: B 07, an upper-case pair: P 0 0A
second_head : script_of (head ++ head) ≡ refused 8 2
unfolding script_of lines_of fields_of call_of meaning_of read_lines is_digit all_digits value_from is_number number_of geometry_test head_test headed head_of first_of_line ones unless refuse_if first_of
second_head = refl

empty-line : script_of (head ++ (10 ∷ [])) ≡ refused 8 2
unfolding script_of lines_of fields_of call_of meaning_of read_lines is_digit all_digits value_from is_number number_of geometry_test head_test headed head_of first_of_line ones unless refuse_if first_of
empty-line = refl

carriage-return : script_of (head ++ (83 ∷ 13 ∷ 10 ∷ [])) ≡ refused 8 2
unfolding script_of lines_of fields_of call_of meaning_of read_lines is_digit all_digits value_from is_number number_of geometry_test head_test headed head_of first_of_line ones unless refuse_if first_of
carriage-return = refl

leading-zero : script_of (head ++ (66 ∷ 9 ∷ 48 ∷ 55 ∷ 10 ∷ [])) ≡ refused 8 2
unfolding script_of lines_of fields_of call_of meaning_of read_lines is_digit all_digits value_from is_number number_of geometry_test head_test headed head_of first_of_line ones unless refuse_if first_of
leading-zero = refl

upper-case : script_of (head ++ (80 ∷ 9 ∷ 48 ∷ 9 ∷ 48 ∷ 65 ∷ 10 ∷ [])) ≡ refused 8 2
unfolding script_of lines_of fields_of call_of meaning_of read_lines is_bytes is_pairs pair_values all_hex is_hex is_letter hex_of is_digit all_digits value_from is_number number_of geometry_test head_test headed head_of first_of_line ones unless refuse_if first_of
upper-case = refl

-- no bytes at all are fine, but their field must be there: P 0 with its tab, and without
no_bytes : script_of (head ++ (80 ∷ 9 ∷ 48 ∷ 9 ∷ 10 ∷ [])) ≡ script (head_is (geometry_of 4 4 1 1) false false) (program 0 [] ∷ [])
unfolding script_of lines_of fields_of call_of meaning_of read_lines is_bytes is_pairs pair_values all_hex is_digit all_digits value_from is_number number_of geometry_test head_test headed head_of first_of_line ones unless refuse_if first_of
no_bytes = refl

no_field : script_of (head ++ (80 ∷ 9 ∷ 48 ∷ 10 ∷ [])) ≡ refused 8 2
unfolding script_of lines_of fields_of call_of meaning_of read_lines is_digit all_digits value_from is_number number_of geometry_test head_test headed head_of first_of_line ones unless refuse_if first_of
no_field = refl

-- line 1 absent
absent : script_of [] ≡ refused 8 1
unfolding script_of lines_of
absent = refl

-- 8 before 1 to 3 and 10: G 0 3 1 1 x s is 8, with `a` it is 1; 32768 is above 16,384, and 3 comes before that
no-rule : script_of (71 ∷ 9 ∷ 48 ∷ 9 ∷ 51 ∷ 9 ∷ 49 ∷ 9 ∷ 49 ∷ 9 ∷ 120 ∷ 9 ∷ 115 ∷ 10 ∷ []) ≡ refused 8 1
unfolding script_of lines_of fields_of is_digit all_digits value_from is_number number_of headed head_of first_of_line
no-rule = refl

zero-unit : script_of (71 ∷ 9 ∷ 48 ∷ 9 ∷ 51 ∷ 9 ∷ 49 ∷ 9 ∷ 49 ∷ 9 ∷ 97 ∷ 9 ∷ 115 ∷ 10 ∷ []) ≡ refused 1 1
unfolding script_of lines_of fields_of is_digit all_digits value_from is_number number_of headed head_of first_of_line geometry_test head_test ones unless refuse_if first_of
zero-unit = refl

-- G 32768 1 1 1 a s, and G 32768 1 2 1 a s
too_large : script_of (71 ∷ 9 ∷ 51 ∷ 50 ∷ 55 ∷ 54 ∷ 56 ∷ 9 ∷ 49 ∷ 9 ∷ 49 ∷ 9 ∷ 49 ∷ 9 ∷ 97 ∷ 9 ∷ 115 ∷ 10 ∷ []) ≡ refused 10 1
unfolding script_of lines_of fields_of is_digit all_digits value_from is_number number_of headed head_of first_of_line geometry_test head_test ones unless refuse_if first_of read_lines
too_large = refl

unnested-first : script_of (71 ∷ 9 ∷ 51 ∷ 50 ∷ 55 ∷ 54 ∷ 56 ∷ 9 ∷ 49 ∷ 9 ∷ 50 ∷ 9 ∷ 49 ∷ 9 ∷ 97 ∷ 9 ∷ 115 ∷ 10 ∷ []) ≡ refused 3 1
unfolding script_of lines_of fields_of is_digit all_digits value_from is_number number_of headed head_of first_of_line geometry_test head_test ones unless refuse_if first_of read_lines
unnested-first = refl
