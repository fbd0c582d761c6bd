-- Room in the lent columns, and what `count_calls` and `read_script` answer and leave.
-- Assumes nothing.
use mathlib.Core.Path.{◌≡◌, refl, ap, ap₂, sym, ◌∙◌}
use mathlib.Core.Bool.{Bool, true, false, not, ◌&&◌, ◌||◌}
use mathlib.Core.List.{List, [], ◌∷◌}
use Prim.Native.Nat.{ℕ, ◌≤◌}
use native.Mathlib.Omega.{arith}
use lib.ListN.{length, drop}
use lib.Dec.{eqb, leb, ltb}
use borrow.Author.Tests.{ne_eqb, eqb-true, leb-true, le-leb, lt-leb, ltb-true, ltb-false}
use Rattle.basics.specs.Tests.{unless, refuse_if, first_of}
use Rattle.basics.proofs.Tests.{unless-zero, first_of-zero}
use Rattle.refusals.specs.Tests.{columns_test}
use Rattle.text.specs.Lines.{lines_of}
use Rattle.std.proofs.lemmas.Bool.{and_parts}
use Rattle.script.specs.declared.Head.{Head}
use Rattle.script.specs.Calls.{Call, read_lines}
use Rattle.script.specs.Script.{script, refused, script_of}
use Rattle.script.specs.Columns.{Columns, columns, bytes_of, written, five_uneven, Read, Refused, room_for, room_test, count_of, after, read_into}
use Rattle.script.specs.Inner.{Sane, Ready, calls_read}
use Rattle.script.proofs.Enough.{enough}

-- ---- room_refusal

unequal-by : (a b c d : Bool) → (not a || not b || not c || not d) ≡ true → (a && (b && (c && d))) ≡ false
unequal-by true true true true e = sym e
unequal-by true true true false e = refl
unequal-by true true false d e = refl
unequal-by true false c d e = refl
unequal-by false b c d e = refl

equal_by : (a b c d : Bool) → (not a || not b || not c || not d) ≡ false → (a && (b && (c && d))) ≡ true
equal_by true true true true e = refl
equal_by true true true false e = sym e
equal_by true true false d e = sym e
equal_by true false c d e = sym e
equal_by false b c d e = sym e

turned : (t : Bool) (m n : ℕ) → ltb m n ≡ t → leb n m ≡ not t
turned true m n e = lt-leb n m (ltb-true m n e)
turned false m n e = le-leb n m (ltb-false m n e)

short-by : (t u : Bool) → (t || u) ≡ true → (not t && not u) ≡ false
short-by true u e = refl
short-by false true e = refl
short-by false false e = sym e

enough-by : (t u : Bool) → (t || u) ≡ false → (not t && not u) ≡ true
enough-by true u e = sym e
enough-by false true e = sym e
enough-by false false e = refl

module _ (k a b c s p n m : ℕ) where
  room-unequal : five_uneven k a b c s ≡ true → 12 ≡ room_for k a b c s p n m
  unfolding room_for first_of unless
  room-unequal e = rw (unequal-by (eqb a k) (eqb b k) (eqb c k) (eqb s k) e)

  module _ (e : five_uneven k a b c s ≡ false) where
    room-short : (ltb k n || ltb p m) ≡ true → 13 ≡ room_for k a b c s p n m
    unfolding room_for first_of unless
    room-short q = rw (equal_by (eqb a k) (eqb b k) (eqb c k) (eqb s k) e, turned (ltb k n) k n refl, turned (ltb p m) p m refl, short-by (ltb k n) (ltb p m) q)

    room-enough : (ltb k n || ltb p m) ≡ false → 0 ≡ room_for k a b c s p n m
    unfolding room_for first_of unless
    room-enough q = rw (equal_by (eqb a k) (eqb b k) (eqb c k) (eqb s k) e, turned (ltb k n) k n refl, turned (ltb p m) p m refl, enough-by (ltb k n) (ltb p m) q)

  pub room-is : (u t : Bool) → five_uneven k a b c s ≡ u → (ltb k n || ltb p m) ≡ t → columns_test u t ≡ room_for k a b c s p n m
  unfolding first_of refuse_if
  room-is true t e q = room-unequal e
  room-is false true e q = room-short e q
  room-is false false e q = room-enough e q

-- what an unrefused call knows
record Equal (k a b c s p n m : ℕ) : Type 0 where
  firsts : a ≡ k
  seconds : b ≡ k
  thirds : c ≡ k
  starts : s ≡ k
  rows : n ≤ k
  bytes : m ≤ p

equal : (k a b c s p n m : ℕ) → room_for k a b c s p n m ≡ 0 → Equal k a b c s p n m
unfolding room_for
equal k a b c s p n m e =
    let one = first_of-zero (unless (eqb a k && (eqb b k && (eqb c k && eqb s k))) 12) (unless (leb n k && leb m p) 13 ∷ []) e in
    let two = first_of-zero (unless (leb n k && leb m p) 13) [] one.1 in
    let x = and_parts (eqb a k) (eqb b k && (eqb c k && eqb s k)) (unless-zero _ 11 one.0) in
    let y = and_parts (eqb b k) (eqb c k && eqb s k) x.1 in
    let z = and_parts (eqb c k) (eqb s k) y.1 in
    let w = and_parts (leb n k) (leb m p) (unless-zero _ 12 two.0) in
    record { firsts = eqb-true a k x.0; seconds = eqb-true b k y.0; thirds = eqb-true c k z.0; starts = eqb-true s k z.1; rows = leb-true n k w.0; bytes = leb-true m p w.1 }

-- ---- count_calls and read_script

pub count-bad : (s : List ℕ) (n line : ℕ) → script_of s ≡ refused n line → Refused n line ≡ count_of (script_of s)
count-bad s n line e = rw e

pub read-bad : (s : List ℕ) (n line : ℕ) → script_of s ≡ refused n line → (k : Columns) → after (Refused n line) k ≡ read_into s k
unfolding read_into
read-bad s n line e k = rw e

module _ (s : List ℕ) (h : Head) (body n b : ℕ) (w : Sane s h body n b) where
  pub count-good : Read h n b ≡ count_of (script_of s)
  count-good = ap₂ (Read h) w.count w.size ∙ sym (ap count_of w.is)

  module _ (k : Columns) where
    test : room_test k (length w.cs) (length (bytes_of w.cs)) ≡ room_test k n b
    test = rw (← w.count, ← w.size)

    pub read-no-room : (m : ℕ) → (m ≡ 0 → ⊥) → m ≡ room_test k n b → after (Refused m 0) k ≡ read_into s k
    unfolding read_into
    read-no-room m z e = rw (w.is, test, ← e, ne_eqb m 0 z)

    module _ (e : 0 ≡ room_test k n b) where
      pub read-ready : Ready s body k (calls_read (read_lines 2 (lines_of (drop body s))))
      read-ready =
          let x = equal (length k.kinds) (length k.firsts) (length k.seconds) (length k.thirds) (length k.starts) (length k.pool) n b (sym e) in
          let o = enough s h w.cs w.is in
          let c = w.count in
          let d = w.size in
          let r₀ = x.rows in
          let r₁ = x.firsts in
          let r₂ = x.seconds in
          let r₃ = x.thirds in
          let r₄ = x.starts in
          let r₅ = x.bytes in
          rw w.lines
          (record {
            lines = w.lines;
            kinds = omega arith;
            firsts = omega arith;
            seconds = omega arith;
            thirds = omega arith;
            starts = omega arith;
            pool = omega arith;
            rows = o.rows;
            few = o.bytes;
            inside = w.inside;
          })

      pub read_done : (l : Columns) → l ≡ written (calls_read (read_lines 2 (lines_of (drop body s)))) k → after (Read h n b) l ≡ read_into s k
      unfolding read_into
      read_done l f =
          let g : l ≡ written w.cs k = f ∙ rw w.lines in
          let i : Read h n b ≡ Read h (length w.cs) (length (bytes_of w.cs)) = ap₂ (Read h) w.count w.size in
          rw (w.is, test, ← e, ← g, ← i)

-- ---- columns that are long enough

-- columns of 32,768 rows and a pool of 32,768 bytes are never refused with 12 or 13
pub never-short : (s : List ℕ) (h : Head) (cs : List Call) (kinds firsts seconds thirds starts pool : List ℕ) → script_of s ≡ script h cs
    → length kinds ≡ 32768 → length firsts ≡ 32768 → length seconds ≡ 32768 → length thirds ≡ 32768 → length starts ≡ 32768 → length pool ≡ 32768
    → read_into s (columns kinds firsts seconds thirds starts pool) ≡ after (Read h (length cs) (length (bytes_of cs))) (written cs (columns kinds firsts seconds thirds starts pool))
unfolding read_into room_for first_of unless
never-short s h cs kinds firsts seconds thirds starts pool e k a b c t p =
    let n = enough s h cs e in
    let x : length cs ≤ 32768 = n.rows in
    let y : length (bytes_of cs) ≤ 32768 = n.bytes in
    simp (e, k, a, b, c, t, p, le-leb _ _ x, le-leb _ _ y)

-- all of them, for `search (rules, rooms)`
pub ruleset rooms = (count-bad, count-good, read-bad, read-ready, read_done)
