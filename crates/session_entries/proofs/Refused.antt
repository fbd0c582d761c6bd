-- What the tests of an index and of lengths tell: the number of a place inside and outside, and what holds where nothing refuses.
-- Assumes nothing.
use mathlib.Core.Path.{◌≡◌, refl, ap, sym, ◌∙◌}
use mathlib.Core.Bool.{Bool, true, false, not, cond, ◌||◌}
use mathlib.Core.List.{List, [], ◌∷◌}
use Prim.Native.Nat.{ℕ, ◌<◌, ◌≤◌}
use native.Mathlib.Omega.{arith}
use lib.ListN.{length, get_or}
use lib.Dec.{eqb, ltb}
use borrow.Author.Tests.{lt-ltb, le-ltb, ltb-true, ltb-false, eqb-true, not-false}
use Rattle.basics.specs.Tests.{refuse_if}
use Rattle.basics.proofs.Tests.{unless_holds, unless-fails, refuse-zero, first_of-zero}
use Rattle.session.specs.declared.Entry.{Entry}
use Rattle.session.specs.Log.{Log}
use Rattle.session.specs.Tests.{log_uneven, log_uneven_of}
use Rattle.std.specs.Prelude.{Ok as Found, Err as NotThere}
use Rattle.std.specs.Prelude.{Option, Some, None}
use Rattle.std.specs.Option.{ok_or, option_copied}
use Rattle.std.specs.Slice.{IsItemAt}
use denote.Bor.{Bor}
use Rattle.basics.specs.Replies.{numbered}
use Rattle.refusals.specs.declared.Refusal.TheVariants.{NoSuchPlace}
use Rattle.refusals.specs.Numbers.{number_of}
use Rattle.session_entries.specs.Entries.{no_entry, place_test, number_of_entry, entry_by, entry_at, moved_test, moved_number, OfLength}

pub place_inside : (i n : ℕ) → i < n → 0 ≡ place_test i n
unfolding place_test
place_inside i n h = sym (unless_holds (ltb i n) 11 (lt-ltb i n h))

pub place-outside : (i n : ℕ) → n ≤ i → 11 ≡ place_test i n
unfolding place_test
place-outside i n h = sym (unless-fails (ltb i n) 11 (le-ltb i n h))

pub entry-inside : (log : List Entry) (i : ℕ) → i < length log → Found (get_or log i no_entry) ≡ entry_at log i
unfolding entry_at
entry-inside log i h = ap (λ (n : ℕ). entry_by n (get_or log i no_entry)) (place_inside i (length log) h)

pub entry-outside : (log : List Entry) (i : ℕ) → length log ≤ i → NotThere 11 ≡ entry_at log i
unfolding entry_at
entry-outside log i h = ap (λ (n : ℕ). entry_by n (get_or log i no_entry)) (place-outside i (length log) h)

-- what `get` lends, copied
pub entry-read : (log : List Entry) (i : ℕ) (o : Option (Bor Entry)) → IsItemAt log i o → numbered number_of (ok_or (option_copied o) NoSuchPlace) ≡ entry_at log i
entry-read log i None a = entry-outside log i (ltb-false i (length log) (sym a.0))
entry-read log i (Some b) a =
    let v : b.now ≡ get_or log i no_entry = a.4 (omega arith) no_entry in
    ap Found v ∙ entry-inside log i (ltb-true i (length log) (sym a.0))

-- an answer has the number that it was made by
by_number : (t : Bool) (n : ℕ) (e : Entry) → (t ≡ true → n ≡ 0) → number_of_entry (cond t (Found e) (NotThere n)) ≡ n
by_number true n e z = sym (z refl)
by_number false n e z = refl

pub number-of-answer : (n : ℕ) (e : Entry) → number_of_entry (entry_by n e) ≡ n
number-of-answer n e = by_number (eqb n 0) n e (eqb-true n 0)

-- what `read_entry` answers has the number of its test
pub entry-number : (log : List Entry) (i : ℕ) → number_of_entry (entry_at log i) ≡ place_test i (length log)
unfolding entry_at
entry-number log i = number-of-answer (place_test i (length log)) (get_or log i no_entry)

-- neither of two faults, none of five
none_of_two : (a b : Bool) → (a || b) ≡ false → (a ≡ false) × (b ≡ false)
none_of_two true b e = let z : true ≡ false = e in (z, cc)
none_of_two false b e = (refl, e)

none-of-five : (p q r s t : Bool) → (p || q || r || s || t) ≡ false → (p ≡ false) × (q ≡ false) × (r ≡ false) × (s ≡ false) × (t ≡ false)
none-of-five p q r s t e =
    let e₄ = none_of_two (p || q || r || s) t e in let e₃ = none_of_two (p || q || r) s e₄.0 in
    let e₂ = none_of_two (p || q) r e₃.0 in let e₁ = none_of_two p q e₂.0 in (e₁.0, e₁.1, e₂.1, e₃.1, e₄.1)

same_length : (o k : ℕ) → not (eqb o k) ≡ false → o ≡ k
same_length o k e = eqb-true o k (not-false (eqb o k) e)

pub even-lengths : (k o l d c a : ℕ) → log_uneven k o l d c a ≡ false → (o ≡ k) × (l ≡ k) × (d ≡ k) × (c ≡ k) × (a ≡ k)
even-lengths k o l d c a e =
    let f = none-of-five (not (eqb o k)) (not (eqb l k)) (not (eqb d k)) (not (eqb c k)) (not (eqb a k)) e in
    (same_length o k f.0, same_length l k f.1, same_length d k f.2, same_length c k f.3, same_length a k f.4)

-- columns that can be handed on are of one length, and there is room for the rows
pub moved-fits : (l : Log) (rows room : ℕ) → moved_number l rows room ≡ 0 → OfLength (length l.kinds) l × (rows ≤ room)
unfolding moved_test
moved-fits l rows room z =
    let zs = first_of-zero (refuse_if (log_uneven_of l) 12) (refuse_if (ltb room rows) 13 ∷ []) z in
    let even = even-lengths _ _ _ _ _ _ (refuse-zero (log_uneven_of l) 11 zs.0) in
    ((refl, even.0, even.1, even.2, even.3, even.4), ltb-false room rows (refuse-zero (ltb room rows) 12 (first_of-zero (refuse_if (ltb room rows) 13) [] zs.1).0))
