-- Hexadecimal pairs: digits, runs of them, and the field that they are.
--     run-position             where a run ends is where `position` finds no digit
--     blocks-skipped, digits-stopped      what `position` found among the blocks, and among the bytes after them
--     run-cut, run-ended, run-other    the field after which a run of digits ends
-- Assumes nothing.
use mathlib.Core.Path.{◌≡◌, refl, ap, sym, ◌∙◌}
use mathlib.Core.Bool.{Bool, true, false, cond, not, ◌&&◌}
use mathlib.Core.List.{List, [], ◌∷◌, ◌++◌}
use Prim.Native.Nat.{ℕ, zero, suc, ◌+◌, ◌-◌, ◌*◌, ◌/◌, ◌%◌, ◌≤◌, ◌<◌}
use native.Mathlib.Nat.{not-suc-le-zero, le_of_suc-le-suc}
use native.Mathlib.Omega.{arith}
use lib.ListN.{length, get_or, take, drop, drop_of_length-le, length-drop}
use lib.Seq.{get_or-drop, drop-drop, length-take-le, take-length}
use lib.Dec.{eqb, ltb}
use borrow.Author.Tests.{eq-eqb, ne_eqb, ltb-false}
use Rattle.basics.proofs.Scans.{take_more}
use Rattle.text.specs.Fields.{Field, field, missing, onto, field_to}
use Rattle.text.specs.Numbers.{is_digit}
use Rattle.text.specs.Pairs.{is_letter, is_hex, all_hex, is_pairs}
use Rattle.text.proofs.Plain.{both}
use Rattle.std.specs.Prelude.{Option, Some, None}
use Rattle.std.specs.Option.{unwrap_or}
use Rattle.std.specs.List.{position_or_len}
use Rattle.std.proofs.lemmas.List.Recursion.{is_position_or_len}
use Rattle.std.proofs.lemmas.List.Sums.{prefix_len-le-length}
use Rattle.std.specs.Simd.{first_chunks}
use Rattle.hex_pairs.specs.Answers.{pairs_at}
use Rattle.hex_pairs.specs.Inner.{hexes, Skipped, Stopped}

-- ---- whether all are digits

all_snoc : (xs : List ℕ) (x : ℕ) → all_hex (xs ++ (x ∷ [])) ≡ (all_hex xs && is_hex x)
unfolding all_hex
all_snoc [] x = and-true (is_hex x)
  where
    and-true : (t : Bool) → (t && true) ≡ t
    and-true true = refl
    and-true false = refl
all_snoc (y ∷ ys) x = rw (all_snoc ys x) (assoc (is_hex y) (all_hex ys) (is_hex x))
  where
    assoc : (a b c : Bool) → (a && (b && c)) ≡ ((a && b) && c)
    assoc true b c = refl
    assoc false b c = refl

-- the loop of `all_hex`: the flag is that of what was passed
pub all_none : (s : List ℕ) → true ≡ all_hex (take 0 s)
unfolding all_hex
all_none s = refl

pub all_more : (s : List ℕ) (i : ℕ) (all digit : Bool) → i < length s → all ≡ all_hex (take i s) → digit ≡ is_hex (get_or s i 0) → (all && digit) ≡ all_hex (take (i + 1) s)
all_more s i all digit h e q = rw (take_more s i 0 h, all_snoc (take i s) (get_or s i 0), ← e, ← q)

-- ---- a run of digits

turned : (t : Bool) (n : ℕ) → cond t (suc n) 0 ≡ cond (not t) 0 (1 + n)
turned true n = omega arith
turned false n = refl

run-position : (xs : List ℕ) → hexes xs ≡ position_or_len (λ (c : ℕ). not (is_hex c)) xs
unfolding hexes
run-position xs = is_position_or_len hexes (λ (c : ℕ). not (is_hex c)) refl (λ x ys. turned (is_hex x) (hexes ys)) xs

block : (n : ℕ) (xs : List ℕ) → n ≤ length xs → all_hex (take n xs) ≡ true → hexes xs ≡ n + hexes (drop n xs)
unfolding hexes all_hex
block zero xs h e = sym (omega arith)
block (suc n) [] h e = absurd (not-suc-le-zero h)
block (suc n) (x ∷ xs) h e =
    let t = both (is_hex x) (all_hex (take n xs)) e in
    let r = block n xs (le_of_suc-le-suc h) t.1 in
    simp t.0 (omega (arith, r))

-- ---- skip_blocks and hex_end, by what `position` found

abbrev pub no_block : List ℕ → Bool
no_block b = not (all_hex b)

abbrev pub no_digit : ℕ → Bool
no_digit c = not (is_hex c)

-- what `position` answers, or else the length, is the place
found_or : (k n : ℕ) → k ≤ n → (r : Option ℕ) → r ≡ cond (ltb k n) (Some k) None → unwrap_or r n ≡ k
found_or k n h r e = by-test (ltb k n) refl
  where
    by-test : (t : Bool) → ltb k n ≡ t → unwrap_or r n ≡ k
    by-test true q = rw (e, q)
    by-test false q = let z : n ≤ k = ltb-false k n q in rw (e, q) (omega arith)

none-passed : (xs : List ℕ) → hexes xs ≡ 0 * 32 + hexes (drop (0 * 32) xs)
none-passed xs = let z : 0 * 32 ≡ 0 = omega arith in let d : hexes (drop 0 xs) ≡ hexes xs = refl in rw z (omega arith)

one-block : (t : Bool) (xs : List ℕ) (k : ℕ) → all_hex (take 32 xs) ≡ t → 32 ≤ length xs → hexes (drop 32 xs) ≡ k * 32 + hexes (drop (k * 32) (drop 32 xs))
    → hexes xs ≡ cond (not (not t)) (1 + k) 0 * 32 + hexes (drop (cond (not (not t)) (1 + k) 0 * 32) xs)
one-block true xs k e h r =
    let b : hexes xs ≡ 32 + hexes (drop 32 xs) = block 32 xs h e in
    let m : 32 + k * 32 ≡ (1 + k) * 32 = omega arith in
    let d : drop (k * 32) (drop 32 xs) ≡ drop ((1 + k) * 32) xs = drop-drop (k * 32) 32 xs ∙ ap (λ (j : ℕ). drop j xs) m in
    let g : hexes (drop 32 xs) ≡ k * 32 + hexes (drop ((1 + k) * 32) xs) = r ∙ ap (λ (l : List ℕ). k * 32 + hexes l) d in
    omega arith
one-block false xs k e h r = none-passed xs

blocks-run : (n : ℕ) (xs : List ℕ) → n * 32 ≤ length xs
    → hexes xs ≡ position_or_len no_block (first_chunks 32 n xs) * 32 + hexes (drop (position_or_len no_block (first_chunks 32 n xs) * 32) xs)
blocks-run zero xs h = none-passed xs
blocks-run (suc n) xs h =
    let d : length (drop 32 xs) ≡ length xs - 32 = length-drop 32 xs in
    one-block (all_hex (take 32 xs)) xs (position_or_len no_block (first_chunks 32 n (drop 32 xs))) refl (omega arith) (blocks-run n (drop 32 xs) (omega arith))

whole : (s : List ℕ) (i : ℕ) → take (length s - i) (drop i s) ≡ drop i s
whole s i = ap (λ (j : ℕ). take j (drop i s)) (sym (length-drop i s)) ∙ take-length (drop i s)

module _ (s : List ℕ) (from : ℕ) (h : from ≤ length s) where
  pub blocks-skipped : (blocks : List (List ℕ)) → blocks ≡ first_chunks 32 (length (take (length s - from) (drop from s)) / 32) (take (length s - from) (drop from s))
      → length blocks ≡ length (take (length s - from) (drop from s)) / 32
      → (r : Option ℕ) → r ≡ cond (ltb (position_or_len no_block blocks) (length blocks)) (Some (position_or_len no_block blocks)) None
      → Skipped s from (from + unwrap_or r (length blocks) * 32)
  blocks-skipped blocks b m r e =
      let t = whole s from in
      let d : length (drop from s) ≡ length s - from = length-drop from s in
      let l : position_or_len no_block blocks ≤ length blocks = prefix_len-le-length (λ (x : List ℕ). not (no_block x)) blocks in
      let k : unwrap_or r (length blocks) ≡ position_or_len no_block blocks = found_or _ _ l r e in
      let n : length blocks ≡ (length s - from) / 32 = m ∙ ap (λ (xs : List ℕ). length xs / 32) t ∙ ap (λ (j : ℕ). j / 32) d in
      let q : blocks ≡ first_chunks 32 (length (drop from s) / 32) (drop from s) = b ∙ ap (λ (xs : List ℕ). first_chunks 32 (length xs / 32) xs) t in
      let g = blocks-run (length (drop from s) / 32) (drop from s) (omega arith) in
      let f : hexes (drop from s) ≡ position_or_len no_block blocks * 32 + hexes (drop (position_or_len no_block blocks * 32) (drop from s)) = rw q g in
      let u : drop (position_or_len no_block blocks * 32) (drop from s) ≡ drop (from + position_or_len no_block blocks * 32) s = drop-drop (position_or_len no_block blocks * 32) from s in
      let v : hexes (drop from s) ≡ position_or_len no_block blocks * 32 + hexes (drop (from + position_or_len no_block blocks * 32) s) = f ∙ ap (λ (xs : List ℕ). position_or_len no_block blocks * 32 + hexes xs) u in
      rw k (record { low = omega arith; high = omega arith; same = omega arith })

  pub digits-stopped : (start : ℕ) → Skipped s from start → (r : Option ℕ)
      → r ≡ cond (ltb (position_or_len no_digit (take (length s - start) (drop start s))) (length (take (length s - start) (drop start s)))) (Some (position_or_len no_digit (take (length s - start) (drop start s)))) None
      → Stopped s from (start + unwrap_or r (length (take (length s - start) (drop start s))))
  digits-stopped start w r e =
      let t = whole s start in
      let d : length (drop start s) ≡ length s - start = length-drop start s in
      let l : position_or_len no_digit (drop start s) ≤ length (drop start s) = prefix_len-le-length (λ (x : ℕ). not (no_digit x)) (drop start s) in
      let k : unwrap_or r (length (take (length s - start) (drop start s))) ≡ position_or_len no_digit (drop start s) = rw t (found_or _ _ l r (e ∙ rw t)) in
      let f = run-position (drop start s) in
      let low = w.low in
      let high = w.high in
      let same = w.same in
      rw k (record { low = omega arith; high = omega arith; is = omega arith })

-- ---- the field after which a run of digits ends

-- LF is no digit
lf-none : is_hex 10 ≡ false
unfolding is_hex is_letter is_digit
lf-none = refl

not-lf : (x : ℕ) → is_hex x ≡ true → x ≡ 10 → ⊥
not-lf x e q = let z : true ≡ false = sym e ∙ ap is_hex q ∙ lf-none in let o : ◌≡◌ {A = ℕ} 0 1 = cc in omega arith

abbrev hex_field : Field → Bool
hex_field missing = false
hex_field (field f) = all_hex f

hex-onto : (x : ℕ) (F : Field) → is_hex x ≡ true → hex_field (onto x F) ≡ hex_field F
unfolding all_hex
hex-onto x missing e = refl
hex-onto x (field f) e = simp e

no-hex-onto : (x : ℕ) (F : Field) → is_hex x ≡ false → hex_field (onto x F) ≡ false
unfolding all_hex
no-hex-onto x missing e = refl
no-hex-onto x (field f) e = simp e

-- the run goes on to the end of the text
cut_step : (t : Bool) (x : ℕ) (xs : List ℕ) → is_hex x ≡ t → cond t (suc (hexes xs)) 0 ≡ suc (length xs) → (hexes xs ≡ length xs → field_to 10 xs ≡ missing)
    → cond (eqb x 10) (field []) (onto x (field_to 10 xs)) ≡ missing
cut_step true x xs e h k = let q : hexes xs ≡ length xs = omega arith in rw (ne_eqb x 10 (not-lf x e), k q)
cut_step false x xs e h k = absurd (omega arith)

run-cut : (xs : List ℕ) → hexes xs ≡ length xs → field_to 10 xs ≡ missing
unfolding hexes field_to
run-cut [] h = refl
run-cut (x ∷ xs) h = cut_step (is_hex x) x xs refl h (λ q. run-cut xs q)

-- it ends at an LF: the field is the run
record Run (xs : List ℕ) : Type 0 where
  is : field_to 10 xs ≡ field (take (hexes xs) xs)
  hex : all_hex (take (hexes xs) xs) ≡ true

ended-step : (t : Bool) (x : ℕ) (xs : List ℕ) → is_hex x ≡ t → cond t (suc (hexes xs)) 0 < suc (length xs) → get_or (x ∷ xs) (cond t (suc (hexes xs)) 0) 0 ≡ 10
    → (hexes xs < length xs → get_or xs (hexes xs) 0 ≡ 10 → Run xs)
    → (cond (eqb x 10) (field []) (onto x (field_to 10 xs)) ≡ field (take (cond t (suc (hexes xs)) 0) (x ∷ xs))) × (all_hex (take (cond t (suc (hexes xs)) 0) (x ∷ xs)) ≡ true)
unfolding all_hex
ended-step true x xs e h g k =
    let r : Run xs = k (omega arith) g in
    (rw (ne_eqb x 10 (not-lf x e), r.is), simp (e, r.hex))
ended-step false x xs e h g k = (rw (eq-eqb x 10 g), refl)

run-ended : (xs : List ℕ) → hexes xs < length xs → get_or xs (hexes xs) 0 ≡ 10 → Run xs
unfolding hexes field_to
run-ended [] h g = absurd (not-suc-le-zero h)
run-ended (x ∷ xs) h g = let r = ended-step (is_hex x) x xs refl h g (λ a b. run-ended xs a b) in record { is = r.0; hex = r.1 }

-- it ends at any other byte: the field is no pairs
other_step : (t : Bool) (x : ℕ) (xs : List ℕ) → is_hex x ≡ t → cond t (suc (hexes xs)) 0 < suc (length xs) → (get_or (x ∷ xs) (cond t (suc (hexes xs)) 0) 0 ≡ 10 → ⊥)
    → (hexes xs < length xs → (get_or xs (hexes xs) 0 ≡ 10 → ⊥) → hex_field (field_to 10 xs) ≡ false)
    → hex_field (cond (eqb x 10) (field []) (onto x (field_to 10 xs))) ≡ false
other_step true x xs e h g k = rw (ne_eqb x 10 (not-lf x e)) (hex-onto x (field_to 10 xs) e ∙ k (omega arith) g)
other_step false x xs e h g k = rw (ne_eqb x 10 g) (no-hex-onto x (field_to 10 xs) e)

run-other : (xs : List ℕ) → hexes xs < length xs → (get_or xs (hexes xs) 0 ≡ 10 → ⊥) → hex_field (field_to 10 xs) ≡ false
unfolding hexes field_to
run-other [] h g = absurd (not-suc-le-zero h)
run-other (x ∷ xs) h g = other_step (is_hex x) x xs refl h g (λ a b. run-other xs a b)

-- ---- read_pairs

no_pairs : (from : ℕ) (F : Field) → hex_field F ≡ false → None ≡ pairs_at from F
unfolding is_pairs
no_pairs from missing e = refl
no_pairs from (field f) e = rw e

pub pairs-out : (s : List ℕ) (from : ℕ) → length s < from → None ≡ pairs_at from (field_to 10 (drop from s))
unfolding field_to
pairs-out s from h = let k : length s ≤ from = omega arith in rw (drop_of_length-le s {i = from} k)

module _ (s : List ℕ) (from r : ℕ) (w : Stopped s from r) where
  size : hexes (drop from s) ≡ r - from
  size = let e = w.is in omega arith

  long : length (drop from s) ≡ length s - from
  long = length-drop from s

  pub pairs-cut : length s ≤ r → None ≡ pairs_at from (field_to 10 (drop from s))
  pairs-cut h =
      let k : r ≤ length s = w.high in
      let q : hexes (drop from s) ≡ length (drop from s) = omega (arith, size, long) in
      rw (run-cut (drop from s) q)

  module _ (h : r < length s) where
    inside : hexes (drop from s) < length (drop from s)
    inside = let l = w.low in omega (arith, size, long)

    byte : get_or (drop from s) (hexes (drop from s)) 0 ≡ get_or s r 0
    byte = get_or-drop from s (hexes (drop from s)) 0 ∙ ap (λ (n : ℕ). get_or s n 0) (sym w.is)

    pub pairs-other : (get_or s r 0 ≡ 10 → ⊥) → None ≡ pairs_at from (field_to 10 (drop from s))
    pairs-other n = no_pairs from (field_to 10 (drop from s)) (run-other (drop from s) inside (λ q. n (sym byte ∙ q)))

    module _ (q : get_or s r 0 ≡ 10) where
      run : Run (drop from s)
      run = run-ended (drop from s) inside (byte ∙ q)

      wide : length (take (hexes (drop from s)) (drop from s)) ≡ r - from
      wide = length-take-le (hexes (drop from s)) (drop from s) (let i = inside in omega arith) ∙ size

      pub pairs-odd : ((r - from) % 2 ≡ 0 → ⊥) → None ≡ pairs_at from (field_to 10 (drop from s))
      unfolding is_pairs
      pairs-odd n = rw (run.is, run.hex, wide, ne_eqb _ _ n)

      pub pairs-even : (r - from) % 2 ≡ 0 → Some ((r - from) / 2, r + 1) ≡ pairs_at from (field_to 10 (drop from s))
      unfolding is_pairs
      pairs-even n =
          let l = w.low in
          let e : from + (r - from) + 1 ≡ r + 1 = omega arith in
          rw (run.is, run.hex, wide, eq-eqb _ _ n, e)

-- all of them, for `search (rules, hexs)`
pub ruleset hexs = (all_none, all_more, pairs-out, pairs-cut, pairs-other, pairs-odd, pairs-even)
