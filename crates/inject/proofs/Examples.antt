-- Document 01's fixed examples on points, by computation: "points of an empty list 2, a lone barrier 5, an erase of 16 with
-- block 8, 9"; and the ten points of its sweep. Assumes nothing.
use mathlib.Core.Path.{◌≡◌, refl}
use mathlib.Core.List.{[], ◌∷◌}
use lib.ListN.{length}
use Rattle.storage.specs.Geometry.{geometry_of}
use Rattle.inject.specs.declared.Op.TheVariants.{Program, Erase, Barrier}
use Rattle.inject.specs.declared.Progress.TheVariants.{None, Whole}
use Rattle.inject.specs.declared.Interruption.TheVariants.{PowerLoss, Watchdog, Failure}
use Rattle.inject.specs.Points.{multiples, inner, progresses, point, under, lone, injections_of}

pub points-empty : length (injections_of (geometry_of 16 8 4 4) []) ≡ 2
unfolding injections_of lone under
points-empty = refl

pub points-barrier : length (injections_of (geometry_of 16 8 4 4) (Barrier ∷ [])) ≡ 5
unfolding injections_of lone under progresses
points-barrier = refl

pub points-erase : length (injections_of (geometry_of 16 8 4 4) (Erase 0 16 ∷ [])) ≡ 9
unfolding injections_of lone under progresses inner multiples
points-erase = refl

-- the runs 1 to 10 of the sweep of `G 4 4 1 1 a s`, `B 7`, `P 0 00`, `S`, `N`
pub sweep-points : injections_of (geometry_of 4 4 1 1) (Program 0 1 ∷ Barrier ∷ [])
    ≡ point 0 PowerLoss None
    ∷ point 0 PowerLoss Whole
    ∷ point 1 PowerLoss Whole
    ∷ point 0 Watchdog None
    ∷ point 0 Watchdog Whole
    ∷ point 1 Watchdog None
    ∷ point 1 Watchdog Whole
    ∷ point 0 Failure None
    ∷ point 0 Failure Whole
    ∷ point 1 Failure None
    ∷ []
unfolding injections_of lone under progresses inner multiples
sweep-points = refl
