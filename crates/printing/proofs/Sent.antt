-- The bytes that a writer took, write after write.
--     put_after     a write behind one that took nothing
--     sent_more     a write of what comes after the bytes written
-- Assumes nothing.
use Rattle.std.proofs.Common.{◌≡◌, ℕ, ◌+◌, ◌-◌, List, ◌++◌, None, Some, length, take, drop, sym, ap, ◌∙◌, subst, arith, length-drop, take_all}
use Rattle.std.specs.Io.KnownBytes.{Appends, Keeps}
use Rattle.std.proofs.KnownBytes.{Appends-trans}
use Rattle.std.specs.declared.option.Option.{Option}
use lib.Seq.{take-add}

pub put_after : (a b c : Option (List ℕ)) (bs : List ℕ) → Keeps a b → Appends b c bs → Appends a c bs
put_after None b c bs p q = tt
put_after (Some x) None c bs p q = absurd p
put_after (Some x) (Some y) None bs p q = absurd q
put_after (Some x) (Some y) (Some z) bs p q = q ∙ ap (λ l. l ++ bs) p

pub sent_more : (a b c : Option (List ℕ)) (from n : ℕ) (xs : List ℕ) → Appends a b (take from xs)
    → Appends b c (take n (take (length xs - from) (drop from xs))) → Appends a c (take (from + n) xs)
sent_more a b c from n xs p q =
    let rest : take (length xs - from) (drop from xs) ≡ drop from xs = take_all (length xs - from) (drop from xs) (omega (arith, length-drop from xs)) in
    subst (Appends a c) (ap (λ l. take from xs ++ take n l) rest ∙ sym (take-add from n xs)) (Appends-trans a b c _ _ p q)
