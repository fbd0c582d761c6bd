-- The marks' entries are the ledger, and a loop that stores them leaves it at the columns' beginning.
--     entry-is        a record's entry, by the columns' parts
--     entries-are     all of them, by the marks' columns
--     entries-length  as many as there are begins
--     filled-all      the columns after the loop
-- Assumes nothing.
use mathlib.Core.Path.{◌≡◌, refl, sym, ap, ap₂, ◌∙◌}
use mathlib.Core.Bool.{Bool, true, false, ◌&&◌, cond, not}
use mathlib.Core.List.{List, [], ◌∷◌, ◌++◌, map}
use Prim.Native.Nat.{ℕ, suc, ◌+◌, ◌-◌, ◌≤◌, min}
use native.Mathlib.Nat.{suc-ne-zero, suc_inj}
use native.Mathlib.Numerals.{add-one}
use native.Mathlib.Omega.{arith}
use lib.Dec.{eqb}
use lib.ListN.{length, take, drop, length-take, length-drop, length-map}
use lib.Seq.{sets, sets-eq, length-take-le}
use Rattle.std.proofs.lemmas.List.Sums.{sum_by-cons}
use Rattle.basics.specs.Tests.{flag}
use Rattle.model.specs.Ledger.{Entry, code_of}
use Rattle.session.specs.Armed.{Armed, armed_on, is_armed}
use Rattle.records.specs.declared.Facts.{Facts}
use Rattle.records.specs.Records.{any, begin, end, RecordMark, Asked, next_place, record_at, records_to, judged, entry_by, ledger_by}
use Rattle.ledger.specs.Ledger.{Row, rows_from, marks_from, Entered, entered_of, entered}
use Rattle.records.specs.Columns.{last_place, last_barrier, higher, armed_in, followed_at, entry_in, entry_among, entry_at}
use Rattle.ledger.specs.Scans.{begins, next_of, Filled, filled, enter, fill_from, entries_from}
use Rattle.records.proofs.Places.{follows}
use Rattle.ledger.proofs.Rows.{rows-part, rows-length, rows-changed, rows_written, rows-ordered, rows-armed}
use Rattle.records.proofs.Clips.{Clipped, clipped}

-- what the rule asks, with what is found once
abbrev pub asking : Armed → (outstanding : Bool) → Asked Row
asking a o = record {
  writes = λ (r : Row). not (eqb r.kind 2);
  changed = λ (r : Row). eqb r.change 1;
  withheld = λ (r : Row). is_armed (armed_on a r.index) && o;
  orders = λ (r : Row). eqb r.kind 2 && eqb r.answer 1;
}

abbrev pub facts_of : Armed → (outstanding : Bool) → (kinds answered : List ℕ) → Facts
facts_of a o ks xs = record { armed = a; outstanding = o; barrier = last_barrier ks xs }

same-judged : (id : ℕ) {a a' b b' c c' : Bool} → a ≡ a' → b ≡ b' → c ≡ c' → judged id a b c ≡ judged id a' b' c'
same-judged id p q r = λ i. judged id (p i) (q i) (r i)

module _ (a : Armed) (o : Bool) (ks cs xs : List ℕ) (e : length cs ≡ length ks) (g : length xs ≡ length ks) where
  -- k operations from start on
  entry-part : (id start k : ℕ) → start + k ≤ length ks
      → entry_by (asking a o) (record { id = id; own = take k (drop start (rows_from 0 ks cs xs)); later = drop k (drop start (rows_from 0 ks cs xs)) })
      ≡ entry_in (facts_of a o ks xs) ks cs id start (start + k)
  unfolding entry_by entry_in
  entry-part id start k h =
      let rows = rows_from 0 ks cs xs in
      let q = asking a o in
      let pk = take k (drop start ks) in
      let pc = take k (drop start cs) in
      let px = take k (drop start xs) in
      let p : take k (drop start rows) ≡ rows_from start pk pc px = rows-part start k ks cs xs e g in
      let lk : length pk ≡ k = length-take-le k (drop start ks) (rw length-drop (omega arith)) in
      let lc : length pc ≡ length pk = simp (length-take, length-drop, e) in
      let lx : length px ≡ length pk = simp (length-take, length-drop, g) in
      let z : start + k - start ≡ k = omega arith in
      rw z
      (same-judged id (ap (any q.changed) p ∙ rows-changed start pk pc px lc lx)
      (ap (any q.withheld) p ∙ rows-armed a o start pk pc px lc lx ∙ ap (λ (n : ℕ). o && armed_in a start (start + n)) lk)
      (follows q.writes q.orders rows start k
      ∙ ap₂ (λ (n m : ℕ). followed_at start n m) (ap (last_place q.writes) p ∙ rows_written start pk pc px lc lx) (rows-ordered 0 ks cs xs e g)))

  pub entry-is : (id from to : ℕ)
      → entry_by (asking a o) (record { id = id; own = take (to - from) (drop from (rows_from 0 ks cs xs)); later = drop (to - from) (drop from (rows_from 0 ks cs xs)) })
      ≡ entry_at (facts_of a o ks xs) ks cs id from to
  entry-is id from to =
      let rows = rows_from 0 ks cs xs in
      let n = length ks in
      let l : length rows ≡ n = rows-length 0 ks cs xs e g in
      let start = min from n in
      let stop = higher start (min to n) in
      let w : Clipped rows from to start stop = clipped rows from to n l in
      let below : start ≤ stop = w.order in
      let fits : stop ≤ n = omega (arith, w.fits, l) in
      let z : start + (stop - start) ≡ stop = omega arith in
      let both : n ≡ min (length ks) (length cs) = omega (arith, e) in
      let room : start + (stop - start) ≤ n = rw z fits in
      ap₂ (λ (x y : List Row). entry_by (asking a o) (record { id = id; own = x; later = y })) w.own w.later
      ∙ entry-part id start (stop - start) room
      ∙ ap (entry_in (facts_of a o ks xs) ks cs id start) z
      ∙ ap (λ (k : ℕ). entry_among k (facts_of a o ks xs) ks cs id from to) both

  next-is : (last : ℕ) (ms is ps : List ℕ) → length is ≡ length ms → length ps ≡ length ms → next_place last (marks_from ms is ps) ≡ next_of last ps
  unfolding marks_from
  next-is last [] is [] d f = refl
  next-is last [] is (p ∷ ps) d f = absurd (suc-ne-zero (length ps) f)
  next-is last (m ∷ ms) [] ps d f = absurd (suc-ne-zero (length ms) (sym d))
  next-is last (m ∷ ms) (i ∷ is) [] d f = absurd (suc-ne-zero (length ms) (sym f))
  next-is last (m ∷ ms) (i ∷ is) (p ∷ ps) d f = refl

  mark-step : (b : Bool) (i p to next : ℕ) (rest : List RecordMark) (entries : List Entry) → to ≡ next
      → map (entry_by (asking a o)) (records_to (length ks) (rows_from 0 ks cs xs) rest) ≡ entries
      → map (entry_by (asking a o)) (record_at (rows_from 0 ks cs xs) (cond b (begin i) end) p to ++ records_to (length ks) (rows_from 0 ks cs xs) rest)
      ≡ cond b (entry_at (facts_of a o ks xs) ks cs i p next ∷ entries) entries
  unfolding record_at
  mark-step true i p to next rest entries t h =
      ap₂ (λ (x : Entry) (l : List Entry). x ∷ l) (entry-is i p to ∙ ap (entry_at (facts_of a o ks xs) ks cs i p) t) h
  mark-step false i p to next rest entries t h = h

  marks-are : (ms is ps : List ℕ) → length is ≡ length ms → length ps ≡ length ms
      → map (entry_by (asking a o)) (records_to (length ks) (rows_from 0 ks cs xs) (marks_from ms is ps)) ≡ entries_from (facts_of a o ks xs) ks cs ms is ps
  unfolding records_to marks_from entries_from
  marks-are [] is ps d f = refl
  marks-are (m ∷ ms) [] ps d f = refl
  marks-are (m ∷ ms) (i ∷ is) [] d f = refl
  marks-are (m ∷ ms) (i ∷ is) (p ∷ ps) d f =
      mark-step (eqb m 1) i p (next_place (length ks) (marks_from ms is ps)) (next_of (length ks) ps) (marks_from ms is ps) (entries_from (facts_of a o ks xs) ks cs ms is ps)
      (next-is (length ks) ms is ps (suc_inj d) (suc_inj f))
      (marks-are ms is ps (suc_inj d) (suc_inj f))

  pub entries-are : (ms is ps : List ℕ) → length is ≡ length ms → length ps ≡ length ms
      → ledger_by (asking a o) (rows_from 0 ks cs xs) (marks_from ms is ps) ≡ entries_from (facts_of a o ks xs) ks cs ms is ps
  unfolding ledger_by
  entries-are ms is ps d f =
      ap (λ (n : ℕ). map (entry_by (asking a o)) (records_to n (rows_from 0 ks cs xs) (marks_from ms is ps))) (rows-length 0 ks cs xs e g)
      ∙ marks-are ms is ps d f

-- ---- how many they are

count-step : (b : Bool) (x : Entry) (l : List Entry) (n : ℕ) → length l ≡ n → length (cond b (x ∷ l) l) ≡ cond b 1 0 + n
count-step true x l n h = omega (arith, h)
count-step false x l n h = omega (arith, h)

pub entries-length : (f : Facts) (ks cs ms is ps : List ℕ) → length is ≡ length ms → length ps ≡ length ms
    → length (entries_from f ks cs ms is ps) ≡ begins ms
unfolding entries_from
entries-length f ks cs [] is ps d g = refl
entries-length f ks cs (m ∷ ms) [] ps d g = absurd (suc-ne-zero (length ms) (sym d))
entries-length f ks cs (m ∷ ms) (i ∷ is) [] d g = absurd (suc-ne-zero (length ms) (sym g))
entries-length f ks cs (m ∷ ms) (i ∷ is) (p ∷ ps) d g =
    count-step (eqb m 1) (entry_at f ks cs i p (next_of (length ks) ps)) (entries_from f ks cs ms is ps) (begins ms)
    (entries-length f ks cs ms is ps (suc_inj d) (suc_inj g))
    ∙ sym (sum_by-cons (λ (k : ℕ). cond (eqb k 1) 1 0) m ms)

-- ---- stored one after the other

-- the columns with entries stored from n on
abbrev stored_from : (n : ℕ) → List Entry → Entered → Filled
stored_from n l e =
    filled (n + length l)
    (entered_of (sets e.ids n (map (λ (x : Entry). x.id) l)) (sets e.states n (map (λ (x : Entry). code_of x.state) l))
    (sets e.torn n (map (λ (x : Entry). flag x.mark) l)))

module _ (f : Facts) (ks cs : List ℕ) where
  store_step : (b : Bool) (x : Entry) (l : List Entry) (run : Filled → Filled) (n : ℕ) (e : Entered)
      → ((m : ℕ) (y : Entered) → run (filled m y) ≡ stored_from m l y)
      → run (cond b (enter x (filled n e)) (filled n e)) ≡ stored_from n (cond b (x ∷ l) l) e
  store_step true x l run n e h =
      let next = (enter x (filled n e)).columns in
      let z : n + 1 ≡ suc n = add-one n in
      let s : suc n + length l ≡ n + suc (length l) = omega arith in
      h (n + 1) next ∙ ap (λ (k : ℕ). stored_from k l next) z
      ∙ ap (λ (k : ℕ). filled k (stored_from (suc n) l next).columns) s
  store_step false x l run n e h = h n e

  pub filled-from : (ms is ps : List ℕ) → length is ≡ length ms → length ps ≡ length ms → (n : ℕ) (e : Entered)
      → fill_from f ks cs ms is ps (filled n e) ≡ stored_from n (entries_from f ks cs ms is ps) e
  unfolding fill_from entries_from
  filled-from [] is ps d g n e = let z : n ≡ n + 0 = omega arith in ap (λ (k : ℕ). filled k e) z
  filled-from (m ∷ ms) [] ps d g n e = absurd (suc-ne-zero (length ms) (sym d))
  filled-from (m ∷ ms) (i ∷ is) [] d g n e = absurd (suc-ne-zero (length ms) (sym g))
  filled-from (m ∷ ms) (i ∷ is) (p ∷ ps) d g n e =
      store_step (eqb m 1) (entry_at f ks cs i p (next_of (length ks) ps)) (entries_from f ks cs ms is ps) (fill_from f ks cs ms is ps) n e
      (filled-from ms is ps (suc_inj d) (suc_inj g))

  stored-all : {B : Type 0} (v : Entry → B) (l : List Entry) (column : List B) → length l ≤ length column → sets column 0 (map v l) ≡ map v l ++ drop (length l) column
  stored-all v l column h =
      let z : length (map v l) ≡ length l = length-map l v in
      let k : 0 + length (map v l) ≤ length column = omega (arith, z) in
      let w : 0 + length (map v l) ≡ length l = omega (arith, z) in
      sets-eq (map v l) column 0 k ∙ ap (λ (n : ℕ). map v l ++ drop n column) w

  pub filled-all : (ms is ps : List ℕ) → length is ≡ length ms → length ps ≡ length ms → (e : Entered)
      → length (entries_from f ks cs ms is ps) ≤ length e.ids → length e.states ≡ length e.ids → length e.torn ≡ length e.ids
      → fill_from f ks cs ms is ps (filled 0 e) ≡ filled (length (entries_from f ks cs ms is ps)) (entered (entries_from f ks cs ms is ps) e)
  filled-all ms is ps d g e h s t =
      let l = entries_from f ks cs ms is ps in
      let z : 0 + length l ≡ length l = omega arith in
      let i : sets e.ids 0 (map (λ (x : Entry). x.id) l) ≡ map (λ (x : Entry). x.id) l ++ drop (length l) e.ids =
      stored-all (λ (x : Entry). x.id) l e.ids h in
      let j : sets e.states 0 (map (λ (x : Entry). code_of x.state) l) ≡ map (λ (x : Entry). code_of x.state) l ++ drop (length l) e.states =
      stored-all (λ (x : Entry). code_of x.state) l e.states (omega arith) in
      let k : sets e.torn 0 (map (λ (x : Entry). flag x.mark) l) ≡ map (λ (x : Entry). flag x.mark) l ++ drop (length l) e.torn =
      stored-all (λ (x : Entry). flag x.mark) l e.torn (omega arith) in
      filled-from ms is ps d g 0 e ∙ (λ q. filled (z q) (entered_of (i q) (j q) (k q)))
