-- All points stored: what is asked of the columns, and what they hold at the end. Assumes nothing.
use mathlib.Core.Path.{◌≡◌, sym, ap, ap₂, subst, ◌∙◌}
use mathlib.Core.Bool.{Bool, true, ◌&&◌}
use mathlib.Core.List.{List, ◌++◌}
use Prim.Native.Nat.{ℕ, ◌+◌, ◌≤◌, ◌<◌}
use native.Mathlib.Nat.{zero-add}
use lib.ListN.{length, replicate}
use lib.Dec.{eqb}
use Rattle.std.proofs.lemmas.Bool.{and_parts}
use borrow.Author.Tests.{ne_eqb, eqb-true, le-leb, lt-leb}
use Rattle.std.specs.Prelude.{Ok, Err}
use Rattle.basics.specs.Tests.{unless, first_of}
use Rattle.storage.specs.declared.Geometry.{Geometry}
use Rattle.inject.specs.declared.Injection.{Injection}
use Rattle.inject.specs.Answers.{list_test, points_of, counted_beside}
use Rattle.inject_columns.specs.Answers.{PointColumns, equal_columns, written, listing, listed}
use Rattle.inject.specs.Steps.{Sound, lone_point, lone_for}
use Rattle.inject.specs.Points.{opening}
use Rattle.inject.specs.declared.Sequence.{Sequence}
use Rattle.inject.specs.declared.Interruption.TheVariants.{PowerLoss, Watchdog, Failure}
use Rattle.inject.proofs.Rests.{sound}
use Rattle.inject_columns.specs.Steps.{under_of, all_of, laid_from, Room, Rows, rows}
use Rattle.inject.proofs.Refusals.{passes}
use Rattle.inject.proofs.Whole.{parts, was-refused, was-taken}
use Rattle.inject_columns.proofs.Rows.{then-rows, first-room, next-room, same-room, begun-rows}

-- ---- a list that is written in five parts

module _ (s : Sequence) (c : PointColumns) (room : Room (length (all_of s)) c) where
  abbrev lost : List Injection
  lost = under_of s PowerLoss

  abbrev alone : List Injection
  alone = lone_for (length s.ops.kinds.now)

  abbrev reset : List Injection
  reset = under_of s Watchdog

  abbrev failed : List Injection
  failed = under_of s Failure

  five : all_of s ≡ replicate 1 opening ++ (lost ++ (alone ++ (reset ++ failed)))
  five = parts s.geometry s.ops.kinds.now s.ops.offsets.now s.ops.lens.now (sound s)

  all-room : Room (0 + length (replicate 1 opening ++ (lost ++ (alone ++ (reset ++ failed))))) c
  all-room = rw (zero-add (length (replicate 1 opening ++ (lost ++ (alone ++ (reset ++ failed)))))) (subst (λ (zs : List Injection). Room (length zs) c) five room)

  pub first-fits : Room 1 c
  first-fits = first-room 0 (replicate 1 opening) (lost ++ (alone ++ (reset ++ failed))) c all-room

  module _ (n : ℕ) (c1 : PointColumns) (p : rows n c1 ≡ laid_from 0 (replicate 1 opening) c) where
    past-first : Room (n + length (lost ++ (alone ++ (reset ++ failed)))) c1
    past-first = next-room 0 (replicate 1 opening) (lost ++ (alone ++ (reset ++ failed))) c all-room n c1 p

    pub lost-fit : Room (n + length lost) c1
    lost-fit = first-room n lost (alone ++ (reset ++ failed)) c1 past-first

    module _ (m : ℕ) (c2 : PointColumns) (q : rows m c2 ≡ laid_from n lost c1) (k : ℕ) (times : replicate k lone_point ≡ alone) where
      past-lost : Room (m + length (alone ++ (reset ++ failed))) c2
      past-lost = next-room n lost (alone ++ (reset ++ failed)) c1 past-first m c2 q

      pub alone-fits : Room (m + k) c2
      alone-fits = same-room m k lone_point c2 (rw times (first-room m alone (reset ++ failed) c2 past-lost))

      module _ (i : ℕ) (c3 : PointColumns) (t : rows i c3 ≡ laid_from m (replicate k lone_point) c2) where
        laid-alone : rows i c3 ≡ laid_from m alone c2
        laid-alone = t ∙ ap (λ (xs : List Injection). laid_from m xs c2) times

        past-alone : Room (i + length (reset ++ failed)) c3
        past-alone = next-room m alone (reset ++ failed) c2 past-lost i c3 laid-alone

        pub reset-fit : Room (i + length reset) c3
        reset-fit = first-room i reset failed c3 past-alone

        module _ (l : ℕ) (c4 : PointColumns) (u : rows l c4 ≡ laid_from i reset c3) where
          pub failed-fit : Room (l + length failed) c4
          failed-fit = next-room i reset failed c3 past-alone l c4 u

          pub all-rows : (j : ℕ) (c5 : PointColumns) → rows j c5 ≡ laid_from l failed c4 → rows j c5 ≡ laid_from 0 (all_of s) c
          all-rows j c5 v =
              then-rows 0 n j (replicate 1 opening) (lost ++ (alone ++ (reset ++ failed))) c c1 c5 p
              (then-rows n m j lost (alone ++ (reset ++ failed)) c1 c2 c5 q
              (then-rows m i j alone (reset ++ failed) c2 c3 c5 laid-alone (then-rows i l j reset failed c3 c4 c5 u v)))
              ∙ ap (λ (zs : List Injection). laid_from 0 zs c) (sym five)

-- ---- columns of one length

equal-room : (n : ℕ) (c : PointColumns) → equal_columns c ≡ true → n ≤ length c.ops → Room n c
equal-room n c e h =
    let x = and_parts (eqb (length c.ops) (length c.progresses) && eqb (length c.ops) (length c.counts)) (eqb (length c.ops) (length c.interruptions)) e in
    let y = and_parts (eqb (length c.ops) (length c.progresses)) (eqb (length c.ops) (length c.counts)) x.0 in
    record {
      in-ops = h;
      in-progresses = rw (eqb-true (length c.ops) (length c.progresses) y.0) at h;
      in-counts = rw (eqb-true (length c.ops) (length c.counts) y.1) at h;
      in-interruptions = rw (eqb-true (length c.ops) (length c.interruptions) x.1) at h;
    }

-- ---- what is answered, and what the columns hold

module _ (g : Geometry) (ks os ls : List ℕ) (c : PointColumns) (equal : Bool) (asked : equal ≡ equal_columns c) where
  pub write-refused : (n : ℕ) → Err n ≡ counted_beside g ks os ls equal → listing (Err n) c ≡ listed g ks os ls c
  unfolding first_of
  write-refused n e =
      let q = was-refused (list_test g ks os ls (equal_columns c)) (length (points_of g ks os ls)) n (rw (← asked) (sym e)) in
      simp (q.0, ne_eqb n 0 q.1)

  module _ (count : ℕ) (told : Ok count ≡ counted_beside g ks os ls equal) where
    tested : (list_test g ks os ls (equal_columns c) ≡ 0) × (count ≡ length (points_of g ks os ls))
    tested = was-taken (list_test g ks os ls (equal_columns c)) (length (points_of g ks os ls)) count (rw (← asked) (sym told))

    pub write-sound : Sound g ks os ls
    write-sound = (passes g ks os ls (equal_columns c) tested.0).sound

    pub write-short : length c.ops < count → listing (Err 13) c ≡ listed g ks os ls c
    unfolding first_of unless
    write-short h = simp (tested.0, lt-leb _ _ (rw tested.1 at h))

    pub write-room : count ≤ length c.ops → Room (length (points_of g ks os ls)) c
    write-room h = equal-room (length (points_of g ks os ls)) c (passes g ks os ls (equal_columns c) tested.0).lent (rw tested.1 at h)

    pub write_done : count ≤ length c.ops → (n : ℕ) (d : PointColumns) → rows n d ≡ laid_from 0 (points_of g ks os ls) c
        → listing (Ok n) d ≡ listed g ks os ls c
    unfolding first_of unless
    write_done h n d q =
        let ps = points_of g ks os ls in
        let k : n ≡ length ps = ap (λ (r : Rows). r.next) q ∙ zero-add (length ps) in
        let t : d ≡ written ps c = ap (λ (r : Rows). r.columns) q ∙ begun-rows ps c (write-room h) in
        simp (tested.0, le-leb _ _ (rw tested.1 at h)) (ap₂ (λ (j : ℕ) (f : PointColumns). listing (Ok j) f) k t)
