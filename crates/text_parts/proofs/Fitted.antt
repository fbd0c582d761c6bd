-- The lines that fit.
--     fit-first, fit_none      the first line fits, or it does not
--     fit-before               the lines that fit, and those after them, are all
--     none-fits, reply-is      the part, where the first line does not fit, and by how many lines fit
--     fills                    lines put one after the other are those that fit
-- Assumes nothing.
use mathlib.Core.Path.{◌≡◌, refl, sym, ap, ◌∙◌}
use mathlib.Core.Bool.{Bool, true, false, cond}
use mathlib.Core.List.{List, [], ◌∷◌, ◌++◌, flatten}
use Prim.Native.Nat.{ℕ, zero, suc, ◌+◌, ◌-◌, ◌≤◌, ◌<◌}
use native.Mathlib.Nat.{suc-ne-zero, add-zero, zero-add}
use native.Mathlib.Omega.{arith}
use lib.ListN.{length, drop, length-append}
use lib.Dec.{leb}
use borrow.Author.Tests.{leb-true, leb-false, le-leb, lt-leb, lt-ltb, le-ltb, ne_eqb}
use Rattle.basics.specs.Tests.{unless, first_of}
use Rattle.basics.specs.Parts.{overlaid}
use Rattle.std.specs.Prelude.{Err as NotWritten}
use Rattle.lines.specs.Answers.{put, Put}
use Rattle.pieces.proofs.Cursors.{overlaid-none, length-overlaid, overlaid-more}
use Rattle.text_of_runs.specs.Claim.{run_lines}
use Rattle.text_of_runs.proofs.Short.{put-past}
use Rattle.text_parts.specs.Parts.{Part, Lines, NoRoom, fitting, PartLeft, part_left, part_of}
use Rattle.text_parts.specs.Inner.{FillLeft, filled_at, fill_runs, part_reply}
use Rattle.text_parts.proofs.Fills.{fill_on, fill_stop}

-- ---- the first lines that fit

module _ (x : List ℕ) (xs : List (List ℕ)) (room : ℕ) where
  pub fit-first : length x ≤ room → fitting room (x ∷ xs) ≡ x ∷ fitting (room - length x) xs
  unfolding fitting
  fit-first h = rw (le-leb (length x) room h)

  pub fit_none : room < length x → fitting room (x ∷ xs) ≡ []
  unfolding fitting
  fit_none h = rw (lt-leb (length x) room h)

pub fit-before : (xs : List (List ℕ)) (room : ℕ) → fitting room xs ++ drop (length (fitting room xs)) xs ≡ xs
unfolding fitting
fit-before [] room = refl
fit-before (x ∷ xs) room = go (leb (length x) room) (fit-before xs (room - length x))
  where
    go : (b : Bool) → fitting (room - length x) xs ++ drop (length (fitting (room - length x) xs)) xs ≡ xs
        → cond b (x ∷ fitting (room - length x) xs) [] ++ drop (length (cond b (x ∷ fitting (room - length x) xs) [])) (x ∷ xs) ≡ x ∷ xs
    go true h = ap (λ (r : List (List ℕ)). x ∷ r) h
    go false h = refl

-- ---- the reply

reply-some : (n bytes left : ℕ) → part_reply (suc n) bytes left ≡ Lines (suc n) bytes left
reply-some n bytes left = rw (ne_eqb (suc n) 0 (suc-ne-zero n))

reply-none : (bytes left : ℕ) → (left ≡ 0 → ⊥) → part_reply 0 bytes left ≡ NoRoom 13
reply-none bytes left e = rw (ne_eqb left 0 e)

-- there is no room for the first line
pub none-fits : (x : List ℕ) (xs : List (List ℕ)) (out : List ℕ) → length out < length x → part_left (NoRoom 13) out ≡ part_of (x ∷ xs) out
unfolding part_of
none-fits x xs out h = rw (lt-ltb (length out) (length x) h)

-- as the functions make it: by how many lines fit
abbrev pub part_by : (ls fit : List (List ℕ)) → (out : List ℕ) → PartLeft
part_by ls fit out = part_left (part_reply (length fit) (length (flatten fit)) (length ls - length fit)) (flatten fit ++ drop (length (flatten fit)) out)

pub reply-is : (ls : List (List ℕ)) (out : List ℕ) → part_of ls out ≡ part_by ls (fitting (length out) ls) out
unfolding part_of fitting flatten
reply-is [] out = refl
reply-is (x ∷ xs) out = go (leb (length x) (length out)) refl
  where
    go : (b : Bool) → leb (length x) (length out) ≡ b → part_of (x ∷ xs) out ≡ part_by (x ∷ xs) (fitting (length out) (x ∷ xs)) out
    go true e =
        let fit : List (List ℕ) = fitting (length out - length x) xs in
        let new : List ℕ = x ++ flatten fit in
        rw (e, le-ltb (length out) (length x) (leb-true (length x) (length out) e))
        (ap (λ (r : Part). part_left r (new ++ drop (length new) out)) (sym (reply-some (length fit) (length new) (suc (length xs) - suc (length fit)))))
    go false e =
        rw (e, lt-ltb (length out) (length x) (leb-false (length x) (length out) e))
        (ap (λ (r : Part). part_left r out) (sym (reply-none 0 (suc (length xs) - 0) (λ z. omega arith))))

-- ---- lines put one after the other

pub over-front : (out new : List ℕ) → overlaid out 0 new ≡ new ++ drop (length new) out
unfolding overlaid
over-front out new = rw (zero-add (length new))

pub put-none : (bytes : List ℕ) (at : ℕ) (out : List ℕ) → length out < at + length bytes → put 0 bytes at out ≡ record { reply = NotWritten 13; out = out }
unfolding first_of unless
put-none bytes at out h = rw (lt-leb (at + length bytes) (length out) h)

-- how far lines reach from a place of a buffer
abbrev pub reached : (place at : ℕ) → (out : List ℕ) → (fit : List (List ℕ)) → FillLeft
reached place at out fit = filled_at (place + length fit) (at + length (flatten fit)) (overlaid out at (flatten fit))

reached-none : (place at : ℕ) (out : List ℕ) → filled_at place at out ≡ reached place at out []
unfolding flatten
reached-none place at out = rw (overlaid-none out at, add-zero place, add-zero at)

reached-more : (place at : ℕ) (out x : List ℕ) (fit : List (List ℕ)) → at + length x ≤ length out
    → reached (suc place) (at + length x) (overlaid out at x) fit ≡ reached place at out (x ∷ fit)
unfolding flatten
reached-more place at out x fit h =
    let p : suc place + length fit ≡ place + suc (length fit) = omega arith in
    let l : length (x ++ flatten fit) ≡ length x + length (flatten fit) = length-append x (flatten fit) in
    let q : at + length x + length (flatten fit) ≡ at + length (x ++ flatten fit) = omega arith in
    λ i. filled_at (p i) (q i) (overlaid-more out at x (flatten fit) h i)

module _ (w : (place at : ℕ) → List ℕ → Put) (line : ℕ → List ℕ) (runs : ℕ)
    (agree : (place at : ℕ) (out : List ℕ) → place < runs → w place at out ≡ put 0 (line place) at out) where
  pub fills : (n place at : ℕ) (out : List ℕ) → place + n ≤ runs → at ≤ length out
      → fill_runs w n place at out ≡ reached place at out (fitting (length out - at) (run_lines line n place))
  unfolding fill_runs run_lines fitting
  fills zero place at out b h = reached-none place at out
  fills (suc n) place at out b h =
      go (leb (length (line place)) (length out - at)) refl (fills n (suc place) (at + length (line place)) (overlaid out at (line place)) next)
    where
      fits : length (line place) ≤ length out - at → at + length (line place) ≤ length out
      fits l = omega arith

      past : length out - at < length (line place) → length out < at + length (line place)
      past l = omega arith

      below : place < runs
      below = omega arith

      next : suc place + n ≤ runs
      next = omega arith

      go : (t : Bool) → leb (length (line place)) (length out - at) ≡ t
          → (at + length (line place) ≤ length (overlaid out at (line place)) → fill_runs w n (suc place) (at + length (line place)) (overlaid out at (line place))
          ≡ reached (suc place) (at + length (line place)) (overlaid out at (line place))
          (fitting (length (overlaid out at (line place)) - (at + length (line place))) (run_lines line n (suc place))))
          → fill_runs w (suc n) place at out ≡ reached place at out (fitting (length out - at) (line place ∷ run_lines line n (suc place)))
      go true e ih =
          let l = leb-true (length (line place)) (length out - at) e in
          let f = fits l in
          let k : length (overlaid out at (line place)) ≡ length out = length-overlaid out at (line place) f in
          let r : length (overlaid out at (line place)) - (at + length (line place)) ≡ length out - at - length (line place) = omega arith in
          let m : at + length (line place) ≤ length (overlaid out at (line place)) = omega arith in
          fill_on w n place at (at + length (line place)) out (overlaid out at (line place)) (agree place at out below ∙ put-past (line place) at out f)
          ∙ ih m
          ∙ ap (λ (j : ℕ). reached (suc place) (at + length (line place)) (overlaid out at (line place)) (fitting j (run_lines line n (suc place)))) r
          ∙ reached-more place at out (line place) (fitting (length out - at - length (line place)) (run_lines line n (suc place))) f
          ∙ ap (reached place at out) (sym (fit-first (line place) (run_lines line n (suc place)) (length out - at) l))
      go false e ih =
          let l = leb-false (length (line place)) (length out - at) e in
          fill_stop w n place at 13 out out (agree place at out below ∙ put-none (line place) at out (past l))
          ∙ reached-none place at out
          ∙ ap (reached place at out) (sym (fit_none (line place) (run_lines line n (suc place)) (length out - at) l))
