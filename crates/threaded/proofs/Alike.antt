-- The session beside the plain run: the first cells of each column are a map over the plain run's operations or marks.
--     Alike            what holds of the two after the same calls
--     step-alike       a taken operation keeps it
--     mark-alike       and a taken mark
-- Assumes nothing.
use mathlib.Core.Path.{◌≡◌, refl, sym, ap, ap₂, ◌∙◌}
use mathlib.Core.Logic.{inl, inr}
use mathlib.Core.Bool.{Bool, true, false, not, ◌||◌}
use mathlib.Core.List.{List, [], ◌∷◌, ◌++◌, map, map-append}
use Prim.Native.Nat.{ℕ, zero, suc, ◌+◌, ◌≤◌, ◌<◌}
use native.Mathlib.Nat.{zero-add, suc-ne-zero}
use native.Mathlib.Omega.{arith}
use lib.ListN.{length, take, drop, set, length-append, length-set, length-drop, drop_of_length-le}
use lib.Dec.{eqb}
use borrow.Author.Tests.{ne_eqb, eqb-true, ltb-false, not-false}
use Rattle.basics.specs.Tests.{flag, refuse_if}
use Rattle.basics.specs.Parts.{part, overlaid}
use Rattle.basics.proofs.Tests.{refuse-zero, first_of-zero}
use Rattle.basics.proofs.Columns.{column-stored}
use Rattle.device.proofs.Pairs.{false_left, false_right}
use Rattle.landing.specs.declared.Stop.{Stop}
use Rattle.session.specs.declared.Told.{Told}
use Rattle.session.specs.declared.Counters.{Counters}
use Rattle.session.specs.declared.Entry.{Entry}
use Rattle.session.specs.Log.{Log, logged, Marks}
use Rattle.session.specs.Tests.{log_short, log_length_test, log_test, marks_short, marks_length_test, marks_test}
use Rattle.session.specs.Armed.{armed_on, is_armed}
use Rattle.session.proofs.Laws.{next-count}
use Rattle.records.specs.Records.{Label, begin, end, RecordMark}
use Rattle.plain.specs.Plain.{Op, Run, taken}
use Rattle.plain.specs.Plain
use Rattle.plain.specs.Ledger.{changed}
use Rattle.threaded.specs.Threaded.{Session, Answered}
use Rattle.threaded.proofs.Cells.{part-overlaid, length-overlaid, overlaid-none}
use Rattle.threaded.proofs.Steps.{kind_code, rest_of, Steps}
use Rattle.threaded.proofs.Held.{armed-once, HeldBy, HeldFrom, held-snoc, held-before}

abbrev pub code_of : Label → ℕ
code_of (begin id) = 1
code_of end = 0

abbrev pub id_of : Label → ℕ
id_of (begin id) = id
id_of end = 0

-- ---- columns that the tests pass are long enough

pub record LogLong (l : Log) : Type 0 where
  pub kinds-long : 1024 ≤ length l.kinds
  pub offsets-even : length l.offsets ≡ length l.kinds
  pub lens-even : length l.lens ≡ length l.kinds
  pub changed-even : length l.changed ≡ length l.kinds
  pub answered-even : length l.answered ≡ length l.kinds

pub log-long : (l : Log) → log_test l ≡ 0 → LogLong l
unfolding log_length_test
log-long l e =
    let k = length l.kinds in
    let u1 = not (eqb (length l.offsets) k) in
    let u2 = not (eqb (length l.lens) k) in
    let u3 = not (eqb (length l.digests) k) in
    let u4 = not (eqb (length l.changed) k) in
    let u5 = not (eqb (length l.answered) k) in
    let uneven = u1 || u2 || u3 || u4 || u5 in
    let one = first_of-zero (refuse_if uneven 12) (refuse_if (log_short k) 13 ∷ []) e in
    let two = first_of-zero (refuse_if (log_short k) 13) [] one.1 in
    let no : uneven ≡ false = refuse-zero uneven 11 one.0 in
    let short : log_short k ≡ false = refuse-zero (log_short k) 12 two.0 in
    let four : (u1 || u2 || u3 || u4) ≡ false = false_left (u1 || u2 || u3 || u4) u5 no in
    let pair : (u1 || u2) ≡ false = false_left (u1 || u2) u3 (false_left (u1 || u2 || u3) u4 four) in
    record {
      kinds-long = ltb-false k 1024 short;
      offsets-even = eqb-true (length l.offsets) k (not-false (eqb (length l.offsets) k) (false_left u1 u2 pair));
      lens-even = eqb-true (length l.lens) k (not-false (eqb (length l.lens) k) (false_right u1 u2 pair));
      changed-even = eqb-true (length l.changed) k (not-false (eqb (length l.changed) k) (false_right (u1 || u2 || u3) u4 four));
      answered-even = eqb-true (length l.answered) k (not-false (eqb (length l.answered) k) (false_right (u1 || u2 || u3 || u4) u5 no));
    }

pub record MarksLong (m : Marks) : Type 0 where
  pub codes-long : 512 ≤ length m.codes
  pub ids-even : length m.ids ≡ length m.codes
  pub places-even : length m.places ≡ length m.codes

pub marks-long : (m : Marks) → marks_test m ≡ 0 → MarksLong m
unfolding marks_length_test
marks-long m e =
    let k = length m.codes in
    let u1 = not (eqb (length m.ids) k) in
    let u2 = not (eqb (length m.places) k) in
    let one = first_of-zero (refuse_if (u1 || u2) 12) (refuse_if (marks_short k) 13 ∷ []) e in
    let two = first_of-zero (refuse_if (marks_short k) 13) [] one.1 in
    let no : (u1 || u2) ≡ false = refuse-zero (u1 || u2) 11 one.0 in
    let short : marks_short k ≡ false = refuse-zero (marks_short k) 12 two.0 in
    record {
      codes-long = ltb-false k 512 short;
      ids-even = eqb-true (length m.ids) k (not-false (eqb (length m.ids) k) (false_left u1 u2 no));
      places-even = eqb-true (length m.places) k (not-false (eqb (length m.places) k) (false_right u1 u2 no));
    }

-- a store keeps every length
pub logged-test : (l : Log) (i : ℕ) (e : Entry) → log_test (logged l i e) ≡ log_test l
logged-test l i e = rw (
  length-set l.kinds i e.kind,
  length-set l.offsets i e.offset,
  length-set l.lens i e.len,
  length-set l.digests i e.digest,
  length-set l.changed i e.changed,
  length-set l.answered i e.answered,
)

-- ---- the session beside the plain run

pub record Alike (t : Told) (s : Session) (r : Run) : Type 0 where
  pub count-is : s.counters.operations ≡ length r.ops
  pub count-le : s.counters.operations ≤ 1024
  pub marked-is : s.counters.marks ≡ length r.marks
  pub marked-le : s.counters.marks ≤ 512
  pub stop_is : s.counters.stop ≡ r.stop
  pub media-is : s.media ≡ r.media
  pub media-long : length s.media ≡ t.geometry.capacity
  pub copy-long : length s.copy ≡ t.geometry.capacity
  pub log-fits : log_test s.log ≡ 0
  pub marks-fit : marks_test s.marks ≡ 0
  pub kinds-are : take s.counters.operations s.log.kinds ≡ map (λ (o : Op). kind_code o.kind) r.ops
  pub offsets_are : take s.counters.operations s.log.offsets ≡ map (λ (o : Op). o.offset) r.ops
  pub lens-are : take s.counters.operations s.log.lens ≡ map (λ (o : Op). length o.want) r.ops
  pub changed-are : take s.counters.operations s.log.changed ≡ map (λ (o : Op). flag (changed o)) r.ops
  pub answered-are : take s.counters.operations s.log.answered ≡ map (λ (o : Op). flag (eqb o.answer 0)) r.ops
  pub codes-are : take s.counters.marks s.marks.codes ≡ map (λ (m : RecordMark). code_of m.label) r.marks
  pub ids-are : take s.counters.marks s.marks.ids ≡ map (λ (m : RecordMark). id_of m.label) r.marks
  pub places-are : take s.counters.marks s.marks.places ≡ map (λ (m : RecordMark). m.place) r.marks
  pub held : HeldFrom t.armed s.counters.place s.counters.withheld s.copy 0 r.ops
  pub early : (k : ℕ) → s.counters.operations ≤ k → is_armed (armed_on t.armed k) ≡ true → s.counters.withheld ≡ 0

-- a column with one more
pub column-more : {A : Type 0} (column column' : List ℕ) (n n' value : ℕ) (f : A → ℕ) (xs : List A) (x : A) → n < length column → n' ≡ n + 1
    → column' ≡ set column n value → value ≡ f x → take n column ≡ map f xs → take n' column' ≡ map f (xs ++ (x ∷ []))
column-more column column' n n' value f xs x h e c v p =
    ap₂ (λ (k : ℕ) (l : List ℕ). take k l) e c ∙ column-stored column n value h ∙ ap₂ (λ (l : List ℕ) (k : ℕ). l ++ (k ∷ [])) p v ∙ sym (map-append f xs (x ∷ []))

module _ (t : Told) (s : Session) (r : Run) (m : Op) (stop : Stop) (x : Answered) (z : Alike t s r) (y : Steps s m stop x)
    (room : s.counters.operations < 1024)
    (whole : is_armed (armed_on t.armed s.counters.operations) ≡ false → m.landed ≡ length m.want) where
  abbrev n : ℕ
  n = s.counters.operations

  abbrev c : Counters
  c = s.counters

  abbrev c' : Counters
  c' = x.session.counters

  abbrev copy' : List ℕ
  copy' = x.session.copy

  one_more : c'.operations ≡ n + 1
  one_more = y.operations-is ∙ next-count n room

  -- nothing armed: the copy and what the counters say of it stay
  module _ (u : is_armed (armed_on t.armed n) ≡ false) where
    no-rest : rest_of m ≡ 0
    no-rest = let w = whole u in omega arith

    place_kept : c'.place ≡ c.place
    place_kept = y.place_is ∙ rw no-rest

    withheld-kept : c'.withheld ≡ c.withheld
    withheld-kept = y.withheld-is ∙ rw no-rest

    copy-kept : copy' ≡ s.copy
    copy-kept =
        let none : drop m.landed m.want ≡ [] = drop_of_length-le m.want {i = m.landed} (omega (arith, whole u)) in
        y.copy_is ∙ ap (overlaid s.copy (m.offset + m.landed)) none ∙ overlaid-none s.copy (m.offset + m.landed)

    unarmed-held : HeldFrom t.armed c'.place c'.withheld copy' 0 (r.ops ++ (m ∷ []))
    unarmed-held =
        rw (place_kept, withheld-kept, copy-kept)
        (held-snoc t.armed c.place c.withheld s.copy 0 r.ops m z.held (inl (rw (← z.count-is, zero-add n) u, whole u)))

  -- armed: what did not land goes into the copy
  module _ (u : is_armed (armed_on t.armed n) ≡ true) where
    rest-held : HeldBy c'.place c'.withheld copy' m
    unfolding part
    rest-held = go (rest_of m) refl
      where
        go : (k : ℕ) → rest_of m ≡ k → HeldBy c'.place c'.withheld copy' m
        go zero e =
            let w : c'.withheld ≡ 0 = y.withheld-is ∙ rw e (z.early n (omega arith) u) in
            let none : drop m.landed m.want ≡ [] = drop_of_length-le m.want {i = m.landed} (omega (arith, e)) in
            record { held-is = w ∙ sym e; kept = rw (w, none); place_is = inl w }
        go (suc k) e =
            let w : c'.withheld ≡ rest_of m = y.withheld-is ∙ rw (e, ne_eqb (suc k) 0 (suc-ne-zero k)) in
            let p : c'.place ≡ m.offset + m.landed = y.place_is ∙ rw (e, ne_eqb (suc k) 0 (suc-ne-zero k)) in
            let fits = y.copy-fits in
            let le = y.landed-le in
            record {
              held-is = w;
              kept = rw (w, p, y.copy_is) (part-overlaid s.copy (m.offset + m.landed) (drop m.landed m.want) (rest_of m) (omega arith) (length-drop m.landed m.want));
              place_is = inr p;
            }

    armed-held : HeldFrom t.armed c'.place c'.withheld copy' 0 (r.ops ++ (m ∷ []))
    armed-held =
        held-snoc t.armed c'.place c'.withheld copy' 0 r.ops m
        (held-before t.armed c.place c.withheld c'.place c'.withheld s.copy copy' 0 n r.ops u (omega (arith, z.count-is)) z.held)
        (inr (rw (← z.count-is, zero-add n) u, rest-held))

  held_after : (b : Bool) → is_armed (armed_on t.armed n) ≡ b → HeldFrom t.armed c'.place c'.withheld copy' 0 (r.ops ++ (m ∷ []))
  held_after true u = armed-held u
  held_after false u = unarmed-held u

  early-after : (b : Bool) → is_armed (armed_on t.armed n) ≡ b → (k : ℕ) → c'.operations ≤ k → is_armed (armed_on t.armed k) ≡ true → c'.withheld ≡ 0
  early-after true u k h e = absurd (let q : k ≡ n = armed-once t.armed k n e u in omega (arith, one_more))
  early-after false u k h e = withheld-kept u ∙ z.early k (omega (arith, one_more)) e

  pub step-alike : Alike t x.session (taken r m stop)
  step-alike =
      let l : Log = s.log in
      let long : LogLong l = log-long l z.log-fits in
      let e : Entry = y.entry in
      let g1 = long.kinds-long in
      let g2 = long.changed-even in
      let g3 = long.answered-even in
      let g4 = long.offsets-even in
      let g5 = long.lens-even in
      let w : x.session.log ≡ logged l n e = y.log_is in
      let ml : x.session.marks ≡ s.marks = y.marks-same in
      let mk : x.session.counters.marks ≡ s.counters.marks = y.marks-kept in
      record {
        count-is = one_more ∙ ap (λ (k : ℕ). k + 1) z.count-is ∙ sym (length-append r.ops (m ∷ []));
        count-le = rw one_more (omega arith);
        marked-is = mk ∙ z.marked-is;
        marked-le = rw mk z.marked-le;
        stop_is = y.stop_is;
        media-is = y.media-is ∙ ap (Plain.after m) z.media-is;
        media-long = y.media-long ∙ z.media-long;
        copy-long = ap length y.copy_is ∙ length-overlaid s.copy (m.offset + m.landed) (drop m.landed m.want) (fits-copy y.copy-fits y.landed-le) ∙ z.copy-long;
        log-fits = ap log_test w ∙ logged-test l n e ∙ z.log-fits;
        marks-fit = ap marks_test ml ∙ z.marks-fit;
        kinds-are = column-more l.kinds x.session.log.kinds n c'.operations e.kind (λ (o : Op). kind_code o.kind) r.ops m (omega arith) one_more (ap (λ (v : Log). v.kinds) w) y.kind-is z.kinds-are;
        offsets_are = column-more l.offsets x.session.log.offsets n c'.operations e.offset (λ (o : Op). o.offset) r.ops m (omega arith) one_more (ap (λ (v : Log). v.offsets) w) y.offset-is z.offsets_are;
        lens-are = column-more l.lens x.session.log.lens n c'.operations e.len (λ (o : Op). length o.want) r.ops m (omega arith) one_more (ap (λ (v : Log). v.lens) w) y.len_is z.lens-are;
        changed-are = column-more l.changed x.session.log.changed n c'.operations e.changed (λ (o : Op). flag (changed o)) r.ops m (omega arith) one_more (ap (λ (v : Log). v.changed) w) y.change-is z.changed-are;
        answered-are = column-more l.answered x.session.log.answered n c'.operations e.answered (λ (o : Op). flag (eqb o.answer 0)) r.ops m (omega arith) one_more (ap (λ (v : Log). v.answered) w) y.answered-is z.answered-are;
        codes-are = rw (mk, ml) z.codes-are;
        ids-are = rw (mk, ml) z.ids-are;
        places-are = rw (mk, ml) z.places-are;
        held = held_after (is_armed (armed_on t.armed n)) refl;
        early = early-after (is_armed (armed_on t.armed n)) refl;
      }
    where
      fits-copy : m.offset + length m.want ≤ length s.copy → m.landed ≤ length m.want → m.offset + m.landed + length (drop m.landed m.want) ≤ length s.copy
      fits-copy h k = rw (length-drop m.landed m.want) (omega arith)
