-- Pieces written one after the other where a cursor stands.
--     overlaid-none, length-overlaid, overlaid-more    a text laid over a part, and another behind it
--     byte_put, no_byte         a byte, and no room for it
--     number_put, no_number     what `print_number` answers
--     joint, last-piece, two-pieces    pieces written after others
--     all_fit                   pieces that fit are written as one text
--     word-put, word-put-end    a turn of the loop that writes a word, and its end
-- Assumes nothing.
use mathlib.Core.Path.{◌≡◌, refl, sym, ap, ◌∙◌}
use mathlib.Core.Bool.{Bool, true, false}
use mathlib.Core.List.{List, [], ◌∷◌, ◌++◌, append_assoc, flatten}
use Prim.Native.Nat.{ℕ, ◌+◌, ◌≤◌, ◌<◌}
use native.Mathlib.Numerals.{add-one}
use native.Mathlib.Omega.{arith}
use lib.ListN.{length, get_or, set, take, drop, length-append, length-drop, take-append-drop}
use lib.Seq.{length-take-le, take_at, drop-append-add, drop-drop, set_split}
use lib.Dec.{leb}
use borrow.Author.Tests.{le-leb, lt-leb}
use Rattle.basics.specs.Parts.{overlaid}
use Rattle.basics.proofs.Scans.{at-step, at-end}
use Rattle.std.specs.Prelude.{Option, Some as Next, None as NoRoom}
use Rattle.text.specs.Numbers.{decimal_of}
use Rattle.text.specs.Printing.{Print, printed_at}
use Rattle.pieces.specs.Pieces.{letter, Cursor, cursor, after, after_all, letters}

-- ---- a text laid over a part

pub overlaid-none : (xs : List ℕ) (at : ℕ) → overlaid xs at [] ≡ xs
unfolding overlaid
overlaid-none xs at = let e : at + 0 ≡ at = omega arith in rw e (take-append-drop at xs)

pub length-overlaid : (xs : List ℕ) (at : ℕ) (a : List ℕ) → at + length a ≤ length xs → length (overlaid xs at a) ≡ length xs
unfolding overlaid
length-overlaid xs at a h =
    let l : length (take at xs) ≡ at = length-take-le at xs (omega arith) in
    simp (length-append, l, length-drop) (omega arith)

pub overlaid-more : (xs : List ℕ) (at : ℕ) (a b : List ℕ) → at + length a ≤ length xs → overlaid (overlaid xs at a) (at + length a) b ≡ overlaid xs at (a ++ b)
unfolding overlaid
overlaid-more xs at a b h =
    let head = take at xs in
    let tail = drop (at + length a) xs in
    let lh : length head ≡ at = length-take-le at xs (omega arith) in
    let la : length (head ++ a) ≡ at + length a = simp (length-append, lh) in
    let t : take (at + length a) (head ++ (a ++ tail)) ≡ head ++ a = rw (← append_assoc head a tail) (take_at (head ++ a) tail (at + length a) la) in
    let d : drop (at + length a + length b) (head ++ (a ++ tail)) ≡ drop (length b) tail =
    rw (← append_assoc head a tail) (ap (λ (n : ℕ). drop (n + length b) ((head ++ a) ++ tail)) (sym la) ∙ drop-append-add (head ++ a) tail (length b)) in
    let e : at + length (a ++ b) ≡ at + length a + length b = simp length-append (omega arith) in
    rw (t, d, e, drop-drop (length b) (at + length a) xs, append_assoc head a, append_assoc a b)

set-overlaid : (xs : List ℕ) (at x : ℕ) → at < length xs → set xs at x ≡ overlaid xs at (letter x)
unfolding overlaid
set-overlaid xs at x h = rw add-one (set_split xs at x h)

-- ---- one piece

module _ (bytes : List ℕ) (at : ℕ) (out : List ℕ) where
  after-in : at + length bytes ≤ length out → after bytes (cursor at out) ≡ cursor (at + length bytes) (overlaid out at bytes)
  unfolding after
  after-in h = simp (le-leb _ _ h)

  after-out : length out < at + length bytes → after bytes (cursor at out) ≡ cursor at out
  unfolding after
  after-out h = simp (lt-leb _ _ h)

module _ (byte at : ℕ) (out : List ℕ) where
  pub byte_put : at < length out → cursor (at + 1) (set out at byte) ≡ after (letter byte) (cursor at out)
  byte_put h = let k : at + 1 ≤ length out = omega arith in rw (set-overlaid out at byte h) (sym (after-in (letter byte) at out k))

  pub no_byte : length out ≤ at → cursor at out ≡ after (letter byte) (cursor at out)
  no_byte h = let k : length out < at + 1 = omega arith in sym (after-out (letter byte) at out k)

-- what `print_number` leaves, as a cursor: it stays where nothing fits
abbrev reached : (at : ℕ) → Print → Cursor
reached at p = cursor (place p.reply) p.out
  where
    place : Option ℕ → ℕ
    place (Next past) = past
    place NoRoom = at

module _ (n at : ℕ) (out : List ℕ) where
  print-after : (b : Bool) → leb (at + length (decimal_of n)) (length out) ≡ b → reached at (printed_at n at out) ≡ after (decimal_of n) (cursor at out)
  unfolding after
  print-after true e = simp e
  print-after false e = simp e

  module _ (r : Option ℕ) (new : List ℕ) (e : ◌≡◌ {A = Print} (record { reply = r; out = new }) (printed_at n at out)) where
    told : reached at (record { reply = r; out = new }) ≡ after (decimal_of n) (cursor at out)
    told = ap (reached at) e ∙ print-after (leb (at + length (decimal_of n)) (length out)) refl

    pub number_put : (past : ℕ) → r ≡ Next past → cursor past new ≡ after (decimal_of n) (cursor at out)
    number_put past q = rw q at told

    pub no_number : r ≡ NoRoom → cursor at new ≡ after (decimal_of n) (cursor at out)
    no_number q = rw q at told

-- ---- pieces after others

all_append : (ps qs : List (List ℕ)) (c : Cursor) → after_all (ps ++ qs) c ≡ after_all qs (after_all ps c)
unfolding after_all
all_append [] qs c = refl
all_append (p ∷ ps) qs c = all_append ps qs (after p c)

pub joint : (ps qs : List (List ℕ)) (a b c : Cursor) → b ≡ after_all ps a → c ≡ after_all qs b → c ≡ after_all (ps ++ qs) a
joint ps qs a b c e q = q ∙ ap (after_all qs) e ∙ sym (all_append ps qs a)

pub last-piece : (ps : List (List ℕ)) (p : List ℕ) (a b c : Cursor) → b ≡ after_all ps a → c ≡ after p b → c ≡ after_all (ps ++ (p ∷ [])) a
unfolding after_all
last-piece ps p a b c e q = q ∙ ap (after p) e ∙ sym (all_append ps (p ∷ []) a)

pub two-pieces : (p q : List ℕ) (a b c : Cursor) → b ≡ after p a → c ≡ after q b → c ≡ after_all (p ∷ q ∷ []) a
unfolding after_all
two-pieces p q a b c e g = g ∙ ap (after q) e

pub all_fit : (ps : List (List ℕ)) (at : ℕ) (out : List ℕ) → at + length (flatten ps) ≤ length out
    → after_all ps (cursor at out) ≡ cursor (at + length (flatten ps)) (overlaid out at (flatten ps))
unfolding after_all flatten
all_fit [] at out h = let e : at + 0 ≡ at = omega arith in rw (e, overlaid-none out at)
all_fit (p ∷ ps) at out h =
    let l : length (p ++ flatten ps) ≡ length p + length (flatten ps) = length-append p (flatten ps) in
    let k : at + length p ≤ length out = omega arith in
    let s : at + length (p ++ flatten ps) ≡ at + length p + length (flatten ps) = omega arith in
    let g : at + length p + length (flatten ps) ≤ length (overlaid out at p) = rw (length-overlaid out at p k) (omega arith) in
    ap (after_all ps) (after-in p at out k) ∙ all_fit ps (at + length p) (overlaid out at p) g ∙ rw (overlaid-more out at p (flatten ps) k, s)

-- ---- the bytes of a word

module _ (s : List ℕ) (i : ℕ) (whole : Cursor) (a : Cursor) where
  pub word-put : (b : Cursor) → whole ≡ after_all (letters (drop i s)) a → i < length s → b ≡ after (letter (get_or s i 0)) a → whole ≡ after_all (letters (drop (i + 1) s)) b
  unfolding letters after_all
  word-put b e h g = e ∙ at-step (λ (l : List ℕ). after_all (letters l) a) s i 0 h ∙ ap (after_all (letters (drop (i + 1) s))) (sym g)

  pub word-put-end : whole ≡ after_all (letters (drop i s)) a → length s ≤ i → a ≡ whole
  unfolding letters after_all
  word-put-end e h = sym (e ∙ at-end (λ (l : List ℕ). after_all (letters l) a) s i h)

pub ruleset cursors = (byte_put, no_byte, number_put, no_number, two-pieces)
