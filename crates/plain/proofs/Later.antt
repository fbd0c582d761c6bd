-- Theorem 4: later cuts keep what is acknowledged, and so does the uncut run. Assumes nothing.
use mathlib.Core.Path.{◌≡◌, refl, sym, ap₂, ◌∙◌, subst}
use mathlib.Core.Logic.{⊎_elim}
use mathlib.Core.Bool.{Bool, true, false, not, ◌&&◌, ◌||◌, false≢true}
use mathlib.Core.List.{List, [], ◌∷◌, ◌++◌, map}
use Prim.Native.Nat.{ℕ, zero, suc, ◌+◌, ◌-◌, ◌≤◌, ◌<◌}
use native.Mathlib.Omega.{arith}
use lib.ListN.{length, take, drop, get_or, length-append, drop_of_length-le, get_or-append}
use lib.Seq.{take-nil, drop-append-le, split_at, take-take, take-append-le, get_or-take, drop-cons, length-take-le}
use borrow.Author.Tests.{not-true}
use Rattle.basics.proofs.Tests.{le-or-gt}
use Rattle.device.proofs.Pairs.{false_left, false_right}
use Rattle.storage.specs.declared.Geometry.{Geometry}
use Rattle.inject.specs.declared.Injection.{Injection}
use Rattle.session.specs.declared.Told.{Told}
use Rattle.std.specs.Prelude.{None as Nothing, Some as At}
use Rattle.session.specs.Armed.{cut_by}
use Rattle.model.specs.Ledger.{Entry, is_acknowledged}
use Rattle.records.specs.Records.{Label, begin, end, RecordMark, any, next_place, record_at, records_to, judged, entry_by, ledger_by}
use Rattle.plain.specs.Plain.{barrier, Call, Op, Run, wholly, as_cut, plain}
use Rattle.plain.specs.Ledger.{is_write, asked, records, ledger, in_order}
use Rattle.plain.specs.Claims.{CutOnce, AllInOrder, Keeps}
use Rattle.plain.proofs.Flags.{first-true, second-true}
use Rattle.plain.proofs.Truncation.{cut-unmet}
use Rattle.plain.proofs.Tidy.{All, all-last, all_take, all_drop, all-get, Whole, uncut-whole, Bare, bare-cut, all-bare}
use Rattle.plain.proofs.Entries.{entry-id}
use Rattle.plain.proofs.Capped.{cut_ledger}
use Rattle.plain.proofs.Keep.{record_of, keep-record}

-- ---- operations whose kinds begin another list's

abbrev Begins : List Op → List Op → Type 0
Begins [] ys = Unit {0}
Begins (x ∷ xs) [] = ⊥
Begins (x ∷ xs) (y ∷ ys) = (x.kind ≡ y.kind) × Begins xs ys

begins-self : (xs : List Op) → Begins xs xs
begins-self [] = tt
begins-self (x ∷ xs) = (refl, begins-self xs)

begins-take : (n : ℕ) (xs ys : List Op) → Begins xs ys → Begins (take n xs) (take n ys)
begins-take zero xs ys h = tt
begins-take (suc n) [] ys h = tt
begins-take (suc n) (x ∷ xs) [] h = h
begins-take (suc n) (x ∷ xs) (y ∷ ys) h = (h.0, begins-take n xs ys h.1)

begins-drop : (n : ℕ) (xs ys : List Op) → Begins xs ys → Begins (drop n xs) (drop n ys)
begins-drop zero xs ys h = h
begins-drop (suc n) [] ys h = tt
begins-drop (suc n) (x ∷ xs) [] h = absurd h
begins-drop (suc n) (x ∷ xs) (y ∷ ys) h = begins-drop n xs ys h.1

-- the uncut operations as far as one, and that one with its kind
begins-cut : (n : ℕ) (xs : List Op) (d x : Op) → n < length xs → x.kind ≡ (get_or xs n d).kind → Begins (take n xs ++ (x ∷ [])) xs
begins-cut n [] d x h e = absurd (omega arith)
begins-cut zero (y ∷ ys) d x h e = (e, tt)
begins-cut (suc n) (y ∷ ys) d x h e = (refl, begins-cut n ys d x (omega arith) e)

begins-quiet : (xs ys : List Op) → Begins xs ys → any is_write ys ≡ false → any is_write xs ≡ false
unfolding any
begins-quiet [] ys h n = refl
begins-quiet (x ∷ xs) [] h n = absurd h
begins-quiet (x ∷ xs) (y ∷ ys) h n =
    rw (h.0, false_left (is_write y) (any is_write ys) n) (begins-quiet xs ys h.1 (false_right (is_write y) (any is_write ys) n))

begins-in-order : (xs ys : List Op) → Begins xs ys → in_order ys ≡ true → in_order xs ≡ true
unfolding in_order
begins-in-order [] ys h o = refl
begins-in-order (x ∷ xs) [] h o = absurd h
begins-in-order (x ∷ xs) (y ∷ ys) h o = go (is_write y) refl (begins-in-order xs ys h.1 (second-true (is_write y || not (any is_write ys)) (in_order ys) o))
  where
    go : (b : Bool) → is_write y ≡ b → in_order xs ≡ true → ((is_write x || not (any is_write xs)) && in_order xs) ≡ true
    go true e ih = rw (h.0, e) ih
    go false e ih =
        let n : any is_write ys ≡ false = not-true (any is_write ys) (rw e at (first-true (is_write y || not (any is_write ys)) (in_order ys) o)) in
        rw (h.0, e, begins-quiet xs ys h.1 n) ih

-- ---- record by record

-- an empty record is attempted
empty-attempted : (media : List ℕ) (id r : ℕ) → is_acknowledged (entry_by (asked media) (record_of id r [])) ≡ true → ⊥
unfolding entry_by judged any
empty-attempted media id r h = false≢true (rw (take-nil {A = Op} r) at h)

-- `front` and x are the operations of the run that was cut, `front`, b and `rest` those of one that went on, and these have the kinds of
-- the uncut run's, `all`
module _ (mc md : List ℕ) (front : List Op) (x b : Op) (rest all : List Op) (last : ℕ) (wf : All Whole front) (wb : Whole b)
    (kinds : x.kind ≡ b.kind) (bx : Bare x) (bb : All Bare (b ∷ rest)) (begins : Begins (front ++ b ∷ rest) all) where
  keep_at : (id from r : ℕ) → in_order (take r (drop from all)) ≡ true
      → is_acknowledged (entry_by (asked mc) (record_of id r (drop from (front ++ x ∷ [])))) ≡ true
      → is_acknowledged (entry_by (asked md) (record_of id r (drop from (front ++ b ∷ rest)))) ≡ true
  keep_at id from r o h =
      ⊎_elim
      (λ (l : from ≤ length front).
      let ops : List Op = take r (drop from (front ++ b ∷ rest)) in
      let c : Begins ops (take r (drop from all)) = begins-take r (drop from (front ++ b ∷ rest)) (drop from all) (begins-drop from (front ++ b ∷ rest) all begins) in
      let i : in_order ops ≡ true = begins-in-order ops (take r (drop from all)) c o in
      let q : in_order (take r (drop from front ++ b ∷ rest)) ≡ true = rw (drop-append-le from front (b ∷ rest) l) at i in
      rw (drop-append-le from front (b ∷ rest) l)
      (keep-record mc md id r (drop from front) x b rest (all_drop Whole from front wf) wb kinds bx bb q (rw (drop-append-le from front (x ∷ []) l) at h)))
      (λ (l : length front < from).
      let n : length (front ++ x ∷ []) ≡ length front + 1 = length-append front (x ∷ []) in
      absurd (empty-attempted mc id r (rw (drop_of_length-le (front ++ x ∷ []) {i = from} (omega arith)) at h)))
      (le-or-gt from (length front))

  keeps-all : (ms : List RecordMark) → AllInOrder (records_to last all ms)
      → Keeps (map (entry_by (asked mc)) (records_to last (front ++ x ∷ []) ms)) (map (entry_by (asked md)) (records_to last (front ++ b ∷ rest) ms))
  unfolding records_to record_at
  keeps-all [] o = tt
  keeps-all (m ∷ ms) o = go m.label o (λ q. keeps-all ms q)
    where
      go : (l : Label) → AllInOrder (record_at all l m.place (next_place last ms) ++ records_to last all ms)
          → (AllInOrder (records_to last all ms) → Keeps (map (entry_by (asked mc)) (records_to last (front ++ x ∷ []) ms)) (map (entry_by (asked md)) (records_to last (front ++ b ∷ rest) ms)))
          → Keeps (map (entry_by (asked mc)) (record_at (front ++ x ∷ []) l m.place (next_place last ms) ++ records_to last (front ++ x ∷ []) ms))
          (map (entry_by (asked md)) (record_at (front ++ b ∷ rest) l m.place (next_place last ms) ++ records_to last (front ++ b ∷ rest) ms))
      go end q ih = ih q
      go (begin id) q ih = (
        entry-id (asked mc) _ ∙ sym (entry-id (asked md) _),
        keep_at id m.place (next_place last ms - m.place) q.0,
        ih q.1,
      )

keeps_self : (l : List Entry) → Keeps l l
keeps_self [] = tt
keeps_self (e ∷ es) = (refl, (λ h. h), keeps_self es)

cut-kind : (g : Geometry) (j : Injection) (o : Op) → (as_cut g j o).kind ≡ o.kind
unfolding as_cut
cut-kind g j o = refl

-- ---- the runs

module _ (t : Told) (media : List ℕ) (xs : List Call) (o : AllInOrder (records (plain (cut_by t Nothing) media xs))) where
  abbrev uncut : Run
  uncut = plain (cut_by t Nothing) media xs

  abbrev none : Op
  none = wholly [] barrier

  module _ (j : Injection) (once : CutOnce (At j)) where
    -- a list of operations that is the uncut run's as far as the cut one and has the uncut run's kinds
    keeps-into : j.op < length uncut.ops → (md : List ℕ) (ops : List Op) → j.op < length ops → take j.op ops ≡ take j.op uncut.ops
        → get_or ops j.op none ≡ get_or uncut.ops j.op none → Begins ops uncut.ops → All Bare ops
        → Keeps (ledger (plain (cut_by t (At j)) media xs)) (map (entry_by (asked md)) (records_to (length uncut.ops) ops uncut.marks))
    keeps-into h md ops l before here begins bare =
        let mc : List ℕ = (plain (cut_by t (At j)) media xs).media in
        let front : List Op = take j.op uncut.ops in
        let b : Op = get_or uncut.ops j.op none in
        let x : Op = as_cut t.geometry j b in
        let rest : List Op = drop (suc j.op) ops in
        let e : ops ≡ front ++ b ∷ rest = split_at ops j.op none l ∙ ap₂ (λ (p : List Op) (y : Op). p ++ y ∷ rest) before here in
        let bb : All Bare (b ∷ rest) = rw (drop-cons ops j.op none l, here) at (all_drop Bare j.op ops bare) in
        let wb : Whole b = all-get Whole j.op uncut.ops none (uncut-whole t media xs) h in
        let bx : Bare x = bare-cut t.geometry j b (all-get Bare j.op uncut.ops none (all-bare (cut_by t Nothing) media xs) h) in
        rw (cut_ledger t j once none media xs h, e)
        (keeps-all mc md front x b rest uncut.ops (length uncut.ops) (all_take Whole j.op uncut.ops (uncut-whole t media xs)) wb
        (cut-kind t.geometry j b) bx bb (subst (λ (os : List Op). Begins os uncut.ops) e begins) uncut.marks o)

    pub uncut-keeps : Keeps (ledger (plain (cut_by t (At j)) media xs)) (ledger uncut)
    unfolding ledger ledger_by
    uncut-keeps =
        ⊎_elim (λ (l : length uncut.ops ≤ j.op). rw (cut-unmet t j once none media xs l) (keeps_self (ledger uncut)))
        (λ (l : j.op < length uncut.ops). keeps-into l uncut.media uncut.ops l refl refl (begins-self uncut.ops) (all-bare (cut_by t Nothing) media xs))
        (le-or-gt (length uncut.ops) j.op)

  pub later-keeps : (j k : Injection) → CutOnce (At j) → CutOnce (At k) → j.op < k.op
      → Keeps (ledger (plain (cut_by t (At j)) media xs)) (ledger (plain (cut_by t (At k)) media xs))
  later-keeps j k once twice h =
      let ops : List Op = uncut.ops in
      let x : Op = as_cut t.geometry k (get_or ops k.op none) in
      let front : List Op = take k.op ops in
      ⊎_elim (λ (l : length ops ≤ k.op). rw (cut-unmet t k twice none media xs l) (uncut-keeps j once))
      (λ (l : k.op < length ops).
      let n : length front ≡ k.op = length-take-le k.op ops (omega arith) in
      let m : length (front ++ (x ∷ [])) ≡ length front + 1 = length-append front (x ∷ []) in
      let bare : All Bare ops = all-bare (cut_by t Nothing) media xs in
      rw (cut_ledger t k twice none media xs l)
      (keeps-into j once (omega arith) (plain (cut_by t (At k)) media xs).media (front ++ (x ∷ [])) (omega arith)
      (take-append-le j.op front (x ∷ []) (omega arith) ∙ take-take j.op k.op ops (omega arith))
      (get_or-append front (x ∷ []) none j.op (omega arith) ∙ get_or-take k.op ops j.op none h)
      (begins-cut k.op ops none x l (cut-kind t.geometry k (get_or ops k.op none)))
      (all-last Bare front x (all_take Bare k.op ops bare) (bare-cut t.geometry k _ (all-get Bare k.op ops none bare l)))))
      (le-or-gt (length ops) k.op)
