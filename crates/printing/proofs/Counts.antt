-- The parts of a text, counted.
--     never-short      there is room for the next line
--     turn             what a part adds to the lines and bytes before it
--     stopped, ended   what is told where a write is not taken, and behind the last part
--     cut_off, to_end  what is written then
--     whole            lines that are all taken have the text's bytes
--     whole_written    and are the text that was written
-- Assumes nothing.
use mathlib.Core.Path.{◌≡◌, refl, sym, ap, ◌∙◌, subst}
use mathlib.Core.Bool.{Bool, true, false, cond}
use mathlib.Core.List.{List, [], ◌∷◌, ◌++◌, flatten, append_assoc}
use Prim.Native.Nat.{ℕ, suc, ◌+◌, ◌-◌, ◌≤◌, ◌<◌, zero-le}
use native.Mathlib.Omega.{arith}
use lib.ListN.{length, take, drop, length-append, length-drop, take-append-drop}
use lib.Seq.{drop-drop, take_all, take-length, take_at, take-add, take-append-le, take-append-add}
use lib.Dec.{leb}
use borrow.Author.Tests.{leb-true, eq-eqb, ne_eqb, eqb-true}
use Rattle.pieces.proofs.Lists.{flatten-append}
use Rattle.lines.specs.Lines.{Shown}
use Rattle.sweeps.specs.Sweep.{Swept, runs, not_swept, swept_of, sweep_output, judge_output}
use Rattle.text_of_runs.specs.Printout.{lines_by, sweep_lines, judge_lines}
use Rattle.text_parts.specs.Parts.{Part, Lines, NoRoom, lines_for, fitting, PartLeft, part_left, part_of, Parts}
use Rattle.text_parts.proofs.Whole.{all-parts}
use Rattle.std.specs.declared.option.Option.{Option}
use Rattle.std.specs.Io.KnownBytes.{Appends}
use Rattle.std.proofs.KnownBytes.{Appends-nil, Appends-trans}
use Rattle.printing.specs.declared.Printed.{Printed}
use Rattle.printing.specs.Output.{printed_of, FrontOf, Written}

abbrev output_for : (judged : Bool) → (text : List ℕ) → List ℕ
output_for true text = judge_output text
output_for false text = sweep_output text

pub parts-for : (judged : Bool) (text : List ℕ) → Parts (lines_for judged text) (output_for judged text)
parts-for true text = (all-parts text).1
parts-for false text = (all-parts text).0

-- every text has a line
one-by : (f : (place : ℕ) → Shown → List ℕ) (s : Swept) → 0 < length (lines_by f s)
one-by f (runs rs) = omega arith
one-by f (not_swept number line) = omega arith

pub one_line : (judged : Bool) (text : List ℕ) → 0 < length (lines_for judged text)
unfolding sweep_lines judge_lines
one_line true text = one-by _ (swept_of text)
one_line false text = one-by _ (swept_of text)

-- lines that fit are no longer than the room
fit-short : (ls : List (List ℕ)) (room : ℕ) → length (flatten (fitting room ls)) ≤ room
unfolding fitting flatten
fit-short [] room = zero-le
fit-short (x ∷ xs) room = go (leb (length x) room) refl (fit-short xs (room - length x))
  where
    go : (b : Bool) → leb (length x) room ≡ b → length (flatten (fitting (room - length x) xs)) ≤ room - length x
        → length (flatten (cond b (x ∷ fitting (room - length x) xs) [])) ≤ room
    go true e h =
        let l : length (x ++ flatten (fitting (room - length x) xs)) ≡ length x + length (flatten (fitting (room - length x) xs)) =
        length-append x (flatten (fitting (room - length x) xs)) in
        let k = leb-true (length x) room e in
        omega arith
    go false e h = zero-le

fit-few : (ls : List (List ℕ)) (room : ℕ) → length (fitting room ls) ≤ length ls
unfolding fitting
fit-few [] room = zero-le
fit-few (x ∷ xs) room = go (leb (length x) room) (fit-few xs (room - length x))
  where
    go : (b : Bool) → length (fitting (room - length x) xs) ≤ length xs → length (cond b (x ∷ fitting (room - length x) xs) []) ≤ suc (length xs)
    go true h = omega arith
    go false h = zero-le

-- the bytes of the lines up to one, and from it on
parted : (n : ℕ) (ls : List (List ℕ)) → length (flatten (take n ls)) + length (flatten (drop n ls)) ≡ length (flatten ls)
parted n ls =
    sym (length-append (flatten (take n ls)) (flatten (drop n ls)))
    ∙ ap length (sym (flatten-append (take n ls) (drop n ls)))
    ∙ ap (λ (x : List (List ℕ)). length (flatten x)) (take-append-drop n ls)

-- the lines that fit are the first
fit-front : (ls : List (List ℕ)) (room : ℕ) → fitting room ls ≡ take (length (fitting room ls)) ls
unfolding fitting
fit-front [] room = refl
fit-front (x ∷ xs) room = go (leb (length x) room) (fit-front xs (room - length x))
  where
    go : (b : Bool) → fitting (room - length x) xs ≡ take (length (fitting (room - length x) xs)) xs
        → cond b (x ∷ fitting (room - length x) xs) [] ≡ take (length (cond b (x ∷ fitting (room - length x) xs) [])) (x ∷ xs)
    go true h = ap (λ (l : List (List ℕ)). x ∷ l) h
    go false h = refl

-- no line, no byte
pub none_yet : (ls : List (List ℕ)) → 0 ≡ length (flatten (take 0 ls))
unfolding flatten
none_yet ls = refl

pub nothing_yet : (a : Option (List ℕ)) (ls : List (List ℕ)) → Appends a a (flatten (take 0 ls))
unfolding flatten
nothing_yet a ls = Appends-nil a

-- A part of so many lines and bytes at the front of `new`, of the lines `ls` from a line on, before which `printed` bytes were handed over.
pub record Turn (ls : List (List ℕ)) (from printed lines bytes left : ℕ) (new : List ℕ) : Type 0 where
  pub in_buffer : bytes ≤ 262144
  pub few : from + lines ≤ 50337796
  pub short : printed + bytes ≤ 599774839340
  pub more : 0 < lines
  pub last : left ≡ 0 → from + lines ≡ length ls
  pub not_last : (left ≡ 0 → ⊥) → from + lines < length ls
  pub counted : printed + bytes ≡ length (flatten (take (from + lines) ls))
  pub joined : flatten (take from ls) ++ take bytes new ≡ flatten (take (from + lines) ls)

module _ (ls : List (List ℕ)) (text : List ℕ) (p : Parts ls text) (out : List ℕ) (room : length out ≡ 262144) (from : ℕ) (r : Part) (new : List ℕ)
    (e : part_left r new ≡ part_of (drop from ls) out) where
  abbrev here : List (List ℕ)
  here = drop from ls

  abbrev fit : List (List ℕ)
  fit = fitting (length out) here

  long : 11915 ≤ length out
  long = omega (arith, room)

  reply-is : r ≡ Lines (length fit) (length (flatten fit)) (length here - length fit)
  reply-is = ap (λ (x : PartLeft). x.reply) (e ∙ (p.goes_on from out long).0)

  pub never-short : (number : ℕ) → r ≡ NoRoom number → ⊥
  never-short number q =
      let y : NoRoom number ≡ Lines (length fit) (length (flatten fit)) (length here - length fit) = sym q ∙ reply-is in
      let v : ◌≡◌ {A = ℕ} 0 1 = cc in
      omega arith

  module _ (lines bytes left : ℕ) (q : r ≡ Lines lines bytes left) (inside : from < length ls) (printed : ℕ)
      (so_far : printed ≡ length (flatten (take from ls))) where
    both : Lines lines bytes left ≡ Lines (length fit) (length (flatten fit)) (length here - length fit)
    both = sym q ∙ reply-is

    lines_are : lines ≡ length fit
    lines_are = let y = both in cc

    bytes-are : bytes ≡ length (flatten fit)
    bytes-are = let y = both in cc

    left-are : left ≡ length here - length fit
    left-are = let y = both in cc

    here-long : length here ≡ length ls - from
    here-long = length-drop from ls

    in-here : from + lines ≤ length ls
    in-here = omega (arith, lines_are, fit-few here (length out), here-long, inside)

    rest-is : drop (length fit) here ≡ drop (from + lines) ls
    rest-is =
        let s : from + length fit ≡ from + lines = omega (arith, lines_are) in
        drop-drop (length fit) from ls ∙ ap (λ (n : ℕ). drop n ls) s

    here-is : length (flatten here) ≡ bytes + length (flatten (drop (from + lines) ls))
    here-is =
        sym (ap length (p.goes_on from out long).1)
        ∙ length-append (flatten fit) (flatten (drop (length fit) here))
        ∙ (λ i. sym bytes-are i + length (flatten (rest-is i)))

    counted_is : printed + bytes ≡ length (flatten (take (from + lines) ls))
    counted_is = omega (arith, so_far, here-is, parted from ls, parted (from + lines) ls)

    all-is : length (flatten ls) ≡ length text
    all-is = ap length p.together

    new-is : new ≡ flatten fit ++ drop (length (flatten fit)) out
    new-is = ap (λ (x : PartLeft). x.out) (e ∙ (p.goes_on from out long).0)

    told_is : take bytes new ≡ flatten fit
    told_is = ap (take bytes) new-is ∙ take_at (flatten fit) (drop (length (flatten fit)) out) bytes (sym bytes-are)

    fit-is : fit ≡ take lines here
    fit-is = fit-front here (length out) ∙ ap (λ (n : ℕ). take n here) (sym lines_are)

    joined_is : flatten (take from ls) ++ take bytes new ≡ flatten (take (from + lines) ls)
    joined_is =
        ap (λ (l : List ℕ). flatten (take from ls) ++ l) (told_is ∙ ap flatten fit-is)
        ∙ sym (flatten-append (take from ls) (take lines here))
        ∙ ap flatten (sym (take-add from lines ls))

    pub turn : Turn ls from printed lines bytes left new
    turn = record {
      in_buffer = let h = fit-short here (length out) in omega (arith, bytes-are, room);
      few = omega (arith, in-here, p.not-many);
      short = omega (arith, counted_is, parted (from + lines) ls, all-is, p.not-long);
      more = omega (arith, lines_are, p.has_room from out long inside);
      last = λ z. omega (arith, left-are, z, lines_are, here-long, in-here);
      not_last = λ z. omega (arith, left-are, z, lines_are, here-long, in-here);
      counted = counted_is;
      joined = joined_is;
    }

-- where a write is not taken, there are lines left
pub stopped : (ls : List (List ℕ)) (from printed : ℕ) → from < length ls → printed ≡ length (flatten (take from ls))
    → (from ≤ length ls) × (record { lines = from; bytes = printed; taken = false } ≡ printed_of ls from)
stopped ls from printed inside so_far =
    (omega arith, λ i. record { lines = from; bytes = so_far i; taken = sym (ne_eqb from (length ls) (λ z. omega (arith, z, inside))) i })

-- behind the last part, none
pub ended : (ls : List (List ℕ)) (next sum : ℕ) → next ≡ length ls → sum ≡ length (flatten (take next ls))
    → (next ≤ length ls) × (record { lines = next; bytes = sum; taken = true } ≡ printed_of ls next)
ended ls next sum all so_far =
    (omega (arith, all), λ i. record { lines = next; bytes = so_far i; taken = sym (eq-eqb next (length ls) all) i })

-- a part that was all taken goes on behind the lines before it
pub sent_on : (a b c : Option (List ℕ)) (told : Bool) (xs ys zs : List ℕ) → Appends a b xs → FrontOf b c ys told → told ≡ true → xs ++ ys ≡ zs → Appends a c zs
sent_on a b c told xs ys zs p q t e =
    let f : take q.0 ys ≡ ys = take_all q.0 ys (omega (arith, q.3 t)) in
    subst (Appends a c) (ap (λ (l : List ℕ). xs ++ l) f ∙ e) (Appends-trans a b c _ _ p q.2)

-- where a write is not taken, the lines before it and a front of it were written
pub cut_off : (ls : List (List ℕ)) (from next printed : ℕ) (a b c : Option (List ℕ)) (told : Bool) (ys : List ℕ) → Appends a b (flatten (take from ls))
    → FrontOf b c ys told → flatten (take from ls) ++ ys ≡ flatten (take next ls) → printed ≡ length (flatten (take from ls))
    → Written ls (record { lines = from; bytes = printed; taken = false }) a c
cut_off ls from next printed a b c told ys p q e so_far =
    let xs : List ℕ = flatten (take from ls) in
    let zs : List ℕ = flatten (drop next ls) in
    let all : flatten ls ≡ xs ++ (ys ++ zs) =
    ap flatten (sym (take-append-drop next ls))
    ∙ flatten-append (take next ls) (drop next ls)
    ∙ ap (λ (l : List ℕ). l ++ zs) (sym e)
    ∙ append_assoc xs ys zs in
    let front : take (printed + q.0) (flatten ls) ≡ xs ++ take q.0 ys =
    ap (λ (n : ℕ). take (n + q.0) (flatten ls)) so_far
    ∙ ap (take (length xs + q.0)) all
    ∙ take-append-add xs (ys ++ zs) q.0
    ∙ ap (λ (l : List ℕ). xs ++ l) (take-append-le q.0 ys zs q.1) in
    (printed + q.0, omega arith, subst (Appends a c) (sym front) (Appends-trans a b c _ _ p q.2), λ t. cc)

-- behind the last part, the text was written
pub to_end : (ls : List (List ℕ)) (next sum : ℕ) (a c : Option (List ℕ)) → next ≡ length ls → sum ≡ length (flatten (take next ls))
    → Appends a c (flatten (take next ls)) → Written ls (record { lines = next; bytes = sum; taken = true }) a c
to_end ls next sum a c all so_far p =
    let same : flatten (take next ls) ≡ flatten ls = ap flatten (take_all next ls (omega (arith, all))) in
    let bytes_are : length (flatten (take next ls)) ≡ length (flatten ls) = ap length same in
    (length (flatten ls), omega (arith, so_far, bytes_are), subst (Appends a c) (same ∙ sym (take-length (flatten ls))) p, λ t. refl)

-- lines that are all taken have the text's bytes
pub whole : (judged : Bool) (text : List ℕ) (r : Printed) → r ≡ printed_of (lines_for judged text) r.lines → r.taken ≡ true → r.bytes ≡ length (output_for judged text)
whole judged text r e t =
    let ls : List (List ℕ) = lines_for judged text in
    let n : r.lines ≡ length ls = eqb-true r.lines (length ls) (sym (ap (λ (x : Printed). x.taken) e) ∙ t) in
    let m : length ls ≤ r.lines = omega (arith, n) in
    ap (λ (x : Printed). x.bytes) e ∙ ap (λ (x : List (List ℕ)). length (flatten x)) (take_all r.lines ls m) ∙ ap length (parts-for judged text).together

-- and are the text that was written
pub whole_written : (judged : Bool) (text : List ℕ) (r : Printed) (old new : Option (List ℕ)) → Written (lines_for judged text) r old new → r.taken ≡ true
    → Appends old new (output_for judged text)
whole_written judged text r old new w t =
    let ls : List (List ℕ) = lines_for judged text in
    let all : take w.0 (flatten ls) ≡ output_for judged text =
    take_all w.0 (flatten ls) (omega (arith, w.3 t)) ∙ (parts-for judged text).together in
    subst (Appends old new) all w.2
