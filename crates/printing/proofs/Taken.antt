-- The bytes that a reader gave, read after read.
--     kept_before   a read behind one that took nothing
--     taken_more    a read into the room behind the bytes taken
--     taken_kept    a read there that took nothing
--     at_end        a reader that gives nothing has nothing
-- Assumes nothing.
use Rattle.std.proofs.Common.{◌≡◌, ℕ, ◌+◌, ◌-◌, ◌≤◌, List, ◌++◌, None, Some, length, take, slice_range, sym, ap, ◌∙◌, subst, arith, le_refl, drop_at, length-take-le}
use Rattle.std.proofs.lemmas.Slice.{take-put_mid_below}
use Rattle.std.specs.Io.KnownBytes.{Consumes, Keeps, IsAtEnd}
use Rattle.std.proofs.KnownBytes.{Consumes-trans, Consumes-kept}
use Rattle.std.specs.declared.option.Option.{Option}
use borrow.Rule.Slice.PartMut.{put_mid, post_of}
use lib.Seq.{take-add, take-append-le}

pub kept_before : (a b c : Option (List ℕ)) (bs : List ℕ) → Keeps a b → Consumes b c bs → Consumes a c bs
kept_before None b c bs p q = tt
kept_before (Some x) None c bs p q = absurd p
kept_before (Some x) (Some y) None bs p q = absurd q
kept_before (Some x) (Some y) (Some z) bs p q = sym p ∙ q

take_split : (a b : ℕ) (old new : List ℕ) → a ≤ b → take a new ≡ take a old → take a old ++ slice_range new a b ≡ take b new
take_split a b old new h front =
    let same : a + (b - a) ≡ b = omega arith in
    ap (λ l. l ++ slice_range new a b) (sym front) ∙ sym (take-add a (b - a) new) ∙ ap (λ n. take n new) same

slice_range-put_mid : (a k n : ℕ) (xs ys : List ℕ) → a ≤ length xs → n ≤ length ys → slice_range (put_mid a k xs ys) a (a + n) ≡ take n ys
slice_range-put_mid a k n xs ys within fits =
    let same : (a + n) - a ≡ n = omega arith in
    let after = post_of a k xs in
    ap (take ((a + n) - a)) (drop_at (take a xs) (ys ++ after) a (length-take-le a xs within)) ∙ ap (λ m. take m (ys ++ after)) same ∙ take-append-le n ys after fits

pub taken_more : (a b c : Option (List ℕ)) (from n : ℕ) (xs ys : List ℕ) → from ≤ length xs → n ≤ length ys
    → Consumes a b (take from xs) → Consumes b c (take n ys) → Consumes a c (take (from + n) (put_mid from (length xs - from) xs ys))
taken_more a b c from n xs ys within fits p q =
    let room = length xs - from in
    let part = slice_range-put_mid from room n xs ys within fits in
    let joined = take_split from (from + n) xs (put_mid from room xs ys) (omega arith) (take-put_mid_below _ _ _ _ _ (le_refl _) within) in
    subst (Consumes a c) (ap (λ l. take from xs ++ l) (sym part) ∙ joined) (Consumes-trans a b c _ _ p q)

pub taken_kept : (a b c : Option (List ℕ)) (from : ℕ) (xs ys : List ℕ) → from ≤ length xs
    → Consumes a b (take from xs) → Keeps b c → Consumes a c (take from (put_mid from (length xs - from) xs ys))
taken_kept a b c from xs ys within p q =
    subst (Consumes a c) (sym (take-put_mid_below _ _ _ _ _ (le_refl _) within)) (Consumes-kept a b c _ p q)

-- nothing taken is all kept
pub kept_of : (a b : Option (List ℕ)) (n : ℕ) (xs : List ℕ) → n ≡ 0 → Consumes a b (take n xs) → Keeps a b
kept_of None b n xs e q = tt
kept_of (Some x) None n xs e q = absurd q
kept_of (Some x) (Some y) n xs e q = sym (q ∙ ap (λ k. take k xs ++ y) e)

pub at_end : (a b : Option (List ℕ)) → Keeps a b → IsAtEnd b → IsAtEnd a
at_end None b p q = tt
at_end (Some x) None p q = absurd p
at_end (Some x) (Some y) p q = sym p ∙ q
