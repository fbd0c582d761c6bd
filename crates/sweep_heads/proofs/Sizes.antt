-- How long the fields before a line's entries are.
--     letter-few, count-few     a progress
--     none-few, point-few       kind, index and progress
--     head_few                  all that stands before the entries
-- Assumes nothing.
use mathlib.Core.Path.{◌≡◌, refl}
use mathlib.Core.List.{[], ◌∷◌, ◌++◌, flatten}
use Prim.Native.Nat.{ℕ, ◌+◌}
use native.Mathlib.Omega.{arith}
use lib.ListN.{length, length-append}
use Rattle.inject.specs.declared.Injection.{Injection}
use Rattle.landing.specs.declared.Stop.{Stop}
use Rattle.landing.specs.declared.Stop.TheVariants.{Running, PowerLost, CoreReset}
use Rattle.session.specs.Armed.{Armed}
use Rattle.std.specs.Prelude.{None as Nothing, Some as At}
use Rattle.text.specs.Numbers.{decimal_of}
use Rattle.text.specs.Printing.{Places}
use Rattle.pieces.specs.Pieces.{letter, tabbed}
use Rattle.pieces.proofs.Lists.{flatten-append}
use Rattle.lines.specs.Lines.{progress_field, point_fields, stop_field}
use Rattle.sweep_heads.specs.Heads.{head_pieces, Few}

pub letter-few : (x : ℕ) → Few 30 (flatten (tabbed (letter x ∷ []))) 2
unfolding tabbed flatten
letter-few x = record { is = refl; few = omega arith }

pub count-few : (n r : ℕ) → Places n r → Few 30 (flatten (tabbed (decimal_of n ∷ []))) (1 + r)
unfolding tabbed flatten
count-few n r w =
    let l : length (decimal_of n ++ []) ≡ length (decimal_of n) + 0 = length-append (decimal_of n) [] in
    record { is = omega (arith, l, w.is); few = omega (arith, w.few) }

pub none-few : Few 64 (flatten (tabbed (point_fields Nothing))) 6
unfolding tabbed flatten
none-few = record { is = refl; few = omega arith }

pub point-few : (j : Injection) (n m : ℕ) → Places j.op n → Few 30 (flatten (tabbed (progress_field j.progress ∷ []))) m
    → Few 64 (flatten (tabbed (point_fields (At j)))) (3 + n + m)
unfolding tabbed flatten
point-few j n m w v =
    let behind = flatten (tabbed (progress_field j.progress ∷ [])) in
    let l : length (decimal_of j.op ++ behind) ≡ length (decimal_of j.op) + length behind = length-append (decimal_of j.op) behind in
    record { is = omega (arith, l, w.is, v.is); few = omega (arith, w.few, v.few) }

stop-length : (s : Stop) → length (stop_field s) ≡ 1
stop-length Running = refl
stop-length PowerLost = refl
stop-length CoreReset = refl

stop-few : (s : Stop) (n : ℕ) → length (flatten (tabbed (stop_field s ∷ decimal_of n ∷ []))) ≡ 3 + length (decimal_of n)
unfolding tabbed flatten
stop-few s n =
    let l : length (stop_field s ++ (9 ∷ (decimal_of n ++ []))) ≡ length (stop_field s) + length (9 ∷ (decimal_of n ++ [])) = length-append (stop_field s) (9 ∷ (decimal_of n ++ [])) in
    let k : length (decimal_of n ++ []) ≡ length (decimal_of n) + 0 = length-append (decimal_of n) [] in
    omega (arith, l, k, stop-length s)

pub head_few : (place : ℕ) (armed : Armed) (stop : Stop) (operations p q c : ℕ) → Places place p → Few 64 (flatten (tabbed (point_fields armed))) q → Places operations c
    → Few 110 (flatten (head_pieces place armed stop operations)) (p + q + 3 + c)
unfolding head_pieces flatten
head_few place armed stop operations p q c w v u =
    let point = tabbed (point_fields armed) in
    let behind = tabbed (stop_field stop ∷ decimal_of operations ∷ []) in
    let l : length (decimal_of place ++ flatten (point ++ behind)) ≡ length (decimal_of place) + length (flatten (point ++ behind)) = length-append (decimal_of place) (flatten (point ++ behind)) in
    let k : length (flatten (point ++ behind)) ≡ length (flatten point) + length (flatten behind) = rw (flatten-append point behind) (length-append (flatten point) (flatten behind)) in
    record { is = omega (arith, l, k, stop-few stop operations, w.is, v.is, u.is); few = omega (arith, w.few, v.few, u.few) }
