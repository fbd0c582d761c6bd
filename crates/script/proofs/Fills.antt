-- The filling pass: the columns hold the calls of the lines that were read, and then what they held before.
-- Assumes nothing.
use mathlib.Core.Path.{◌≡◌, refl, ap, ap₂, sym, ◌∙◌}
use mathlib.Core.List.{List, [], ◌∷◌, ◌++◌, append-nil, append_assoc, map}
use Prim.Native.Nat.{ℕ, suc, ◌+◌, ◌-◌, ◌≤◌, ◌<◌}
use native.Mathlib.Nat.{not-suc-le-zero, le_of_suc-le-suc, zero-add}
use native.Mathlib.Omega.{arith}
use lib.ListN.{length, set, take, drop, length-append, length-map, length-set, length-take, length-drop, take-append-drop}
use lib.Seq.{take_at, drop-append-add, drop-drop, length-take-le, drop-length}
use borrow.Rule.Slice.PartMut.{put_mid}
use Rattle.std.proofs.lemmas.List.{map-append}
use Rattle.basics.specs.Parts.{part, overlaid}
use Rattle.basics.proofs.Parts.{part-back}
use Rattle.text.specs.Lines.{lines_of}
use Rattle.text.specs.Pairs.{pair_values, over}
use Rattle.hex_pairs.specs.Answers.{decoded}
use Rattle.script.specs.declared.Row.{Row}
use Rattle.script.specs.Calls.{Call, malformed, Reading, calls, faulty, call_then, read_lines}
use Rattle.script.specs.Columns.{Columns, columns, kind_of, first_in, second_in, third_in, bytes_in, starts_of, bytes_of, written}
use Rattle.script.specs.Inner.{cells_of, meaning_in, Taken, Ready, stored}
use Rattle.script.proofs.Passes.{line-faulty, line_taken, no_lines}

-- ---- a list with its front replaced, one element or some more

over-set : (xs old : List ℕ) (v : ℕ) → length xs < length old → set (over xs old) (length xs) v ≡ over (xs ++ (v ∷ [])) old
over-set [] [] v h = absurd (not-suc-le-zero h)
over-set [] (o ∷ os) v h = refl
over-set (x ∷ xs) [] v h = absurd (not-suc-le-zero h)
over-set (x ∷ xs) (o ∷ os) v h = ap (λ (l : List ℕ). x ∷ l) (over-set xs os v (le_of_suc-le-suc h))

over-set-at : (xs old : List ℕ) (i v : ℕ) → i ≡ length xs → length xs < length old → set (over xs old) i v ≡ over (xs ++ (v ∷ [])) old
over-set-at xs old i v e h = rw e (over-set xs old v h)

over-long : (xs old : List ℕ) → length xs ≤ length old → length (over xs old) ≡ length old
over-long xs old h = length-append xs (drop (length xs) old) ∙ simp length-drop (omega arith)

over-pool : (bs b old : List ℕ) (u : ℕ) → u ≡ length bs → overlaid (over bs old) u b ≡ over (bs ++ b) old
unfolding overlaid
over-pool bs b old u e =
    let t : take (length bs) (bs ++ drop (length bs) old) ≡ bs = take_at bs (drop (length bs) old) (length bs) refl in
    let d : drop (length bs + length b) (bs ++ drop (length bs) old) ≡ drop (length bs + length b) old = drop-append-add bs (drop (length bs) old) (length b) ∙ drop-drop (length b) (length bs) old in
    rw (e, t, d) (sym (append_assoc bs b (drop (length bs + length b) old)) ∙ ap (λ (n : ℕ). (bs ++ b) ++ drop n old) (sym (length-append bs b)))

-- ---- a line's bytes over a part of the pool

pub store-none : (s : List ℕ) (start : ℕ) (pool : List ℕ) (used free : ℕ) → free ≡ used → pool ≡ stored s start pool used free
unfolding overlaid part
store-none s start pool used free e =
    let z : free - used ≡ 0 = omega arith in
    let o : used + 0 ≡ used = omega arith in
    sym (rw (z, o) (take-append-drop used pool))

pub store-some : (s : List ℕ) (start : ℕ) (pool : List ℕ) (used free : ℕ) → used ≤ free → free ≤ length pool
    → (new : List ℕ) → new ≡ decoded s start (take (free - used) (drop used pool)) → put_mid used (free - used) pool new ≡ stored s start pool used free
unfolding part
store-some s start pool used free h k new e =
    let n : used + (free - used) ≡ free = omega arith in
    let m : used + (free - used) - used ≡ free - used = omega arith in
    let g : length (take (free - used) (drop used pool)) ≡ free - used = length-take-le (free - used) (drop used pool) (rw length-drop (omega arith)) in
    let l : length new ≡ free - used = ap length e ∙ over-long (take (length (take (free - used) (drop used pool))) (pair_values (drop start s))) (take (free - used) (drop used pool)) (rw length-take (omega arith)) ∙ g in
    let b : put_mid used (used + (free - used) - used) pool new ≡ overlaid pool used new = part-back pool used (free - used) (omega arith) new l in
    rw m at b ∙ ap (overlaid pool used) e

-- ---- one call more

bytes-snoc : (ds : List Call) (x : Call) → bytes_of (ds ++ (x ∷ [])) ≡ bytes_of ds ++ bytes_in x
unfolding bytes_of
bytes-snoc [] x = append-nil (bytes_in x)
bytes-snoc (d ∷ ds) x = ap (λ (l : List ℕ). bytes_in d ++ l) (bytes-snoc ds x) ∙ sym (append_assoc (bytes_in d) (bytes_of ds) (bytes_in x))

starts-snoc : (u : ℕ) (ds : List Call) (x : Call) → starts_of u (ds ++ (x ∷ [])) ≡ starts_of u ds ++ ((u + length (bytes_of ds)) ∷ [])
unfolding starts_of bytes_of
starts-snoc u [] x = let e : u ≡ u + 0 = omega arith in ap (λ (n : ℕ). n ∷ []) e
starts-snoc u (d ∷ ds) x =
    let e : u + length (bytes_in d) + length (bytes_of ds) ≡ u + length (bytes_in d ++ bytes_of ds) = omega (arith, length-append (bytes_in d) (bytes_of ds)) in
    ap (λ (l : List ℕ). u ∷ l) (starts-snoc (u + length (bytes_in d)) ds x ∙ ap (λ (n : ℕ). starts_of (u + length (bytes_in d)) ds ++ (n ∷ [])) e)

starts-long : (u : ℕ) (ds : List Call) → length (starts_of u ds) ≡ length ds
unfolding starts_of
starts-long u [] = refl
starts-long u (d ∷ ds) = ap suc (starts-long (u + length (bytes_in d)) ds)

bytes-append : (ds es : List Call) → bytes_of (ds ++ es) ≡ bytes_of ds ++ bytes_of es
unfolding bytes_of
bytes-append [] es = refl
bytes-append (d ∷ ds) es = ap (λ (l : List ℕ). bytes_in d ++ l) (bytes-append ds es) ∙ sym (append_assoc (bytes_in d) (bytes_of ds) (bytes_of es))

bytes-cons : (x : Call) (xs : List Call) → length (bytes_of (x ∷ xs)) ≡ length (bytes_in x) + length (bytes_of xs)
unfolding bytes_of
bytes-cons x xs = length-append (bytes_in x) (bytes_of xs)

-- ---- what a turn has done

pub record Filling (s : List ℕ) (cs : List Call) (k₀ k : Columns) (at i used : ℕ) : Type 0 where
  pub done : List Call
  pub rest : List Call
  pub all : done ++ rest ≡ cs
  pub count : i ≡ length done
  pub filled : used ≡ length (bytes_of done)
  pub lines : read_lines (i + 2) (lines_of (drop at s)) ≡ calls rest
  pub is : k ≡ written done k₀

-- the columns keep their lengths
pub record SameLong (k₀ k : Columns) : Type 0 where
  pub kinds : length k.kinds ≡ length k₀.kinds
  pub firsts : length k.firsts ≡ length k₀.firsts
  pub seconds : length k.seconds ≡ length k₀.seconds
  pub thirds : length k.thirds ≡ length k₀.thirds
  pub starts : length k.starts ≡ length k₀.starts
  pub pool : length k.pool ≡ length k₀.pool

pub same-long : (k : Columns) → SameLong k k
same-long k = record { kinds = refl; firsts = refl; seconds = refl; thirds = refl; starts = refl; pool = refl }

pub fill_start : (s : List ℕ) (from : ℕ) (kinds firsts seconds thirds starts pool : List ℕ) (cs : List Call) → Ready s from (columns kinds firsts seconds thirds starts pool) cs
    → Filling s cs (columns kinds firsts seconds thirds starts pool) (columns kinds firsts seconds thirds starts pool) from 0 0
unfolding written bytes_of starts_of
fill_start s from kinds firsts seconds thirds starts pool cs r = record { done = []; rest = cs; all = refl; count = refl; filled = refl; lines = r.lines; is = refl }

-- the call that was read is the next of them
then-calls : (x : Call) (R : Reading) (rest : List Call) → call_then x R ≡ calls rest → (es : List Call) → R ≡ calls es → rest ≡ x ∷ es
then-calls x R rest e es q = let z : calls (x ∷ es) ≡ calls rest = rw q at e in cc

record Next (s : List ℕ) (x : Call) (rest : List Call) (n next : ℕ) : Type 0 where
  others : List Call
  is : rest ≡ x ∷ others
  lines : read_lines n (lines_of (drop next s)) ≡ calls others

next-by : (R : Reading) (s : List ℕ) (x : Call) (rest : List Call) (n next : ℕ) → read_lines n (lines_of (drop next s)) ≡ R → call_then x R ≡ calls rest → Next s x rest n next
next-by (calls es) s x rest n next q e = record { others = es; is = cc; lines = q }
next-by (faulty l) s x rest n next q e = absurd (let z : ◌≡◌ {A = ℕ} 0 1 = cc in omega arith)

-- where there is room for a row
pub record Roomy (k : Columns) (i used size : ℕ) : Type 0 where
  pub kinds : i < length k.kinds
  pub firsts : i < length k.firsts
  pub seconds : i < length k.seconds
  pub thirds : i < length k.thirds
  pub starts : i < length k.starts
  pub pool : used + size ≤ length k.pool
  pub rows : i < 32768
  pub few : used ≤ 32768

module _ (s : List ℕ) (from : ℕ) (cs : List Call) (k₀ k : Columns) (at i used : ℕ) (ready : Ready s from k₀ cs) (w : Filling s cs k₀ k at i used) (l : SameLong k₀ k) where
  pub fill_end : length s ≤ at → k ≡ written cs k₀
  fill_end h =
      let e : calls [] ≡ calls w.rest = sym (no_lines s at (i + 2) h) ∙ w.lines in
      let q : [] ≡ w.rest = cc in
      w.is ∙ ap (λ (c : List Call). written c k₀) (sym (append-nil w.done) ∙ ap (λ (r : List Call). w.done ++ r) q ∙ w.all)

  module _ (h : at < length s) where
    -- no line of a sound script is faulty
    pub fill-faulty : meaning_in (cells_of (drop at s)) ≡ malformed → k ≡ written cs k₀
    fill-faulty m =
        let e : faulty (i + 2) ≡ calls w.rest = sym (line-faulty s at (i + 2) h m) ∙ w.lines in
        absurd (let z : ◌≡◌ {A = ℕ} 0 1 = cc in omega arith)

    module _ (row : Row) (next : ℕ) (t : Taken s at row next) where
      abbrev size : ℕ
      size = row.size

      n : Next s t.it w.rest (i + 2 + 1) next
      n = next-by (read_lines (i + 2 + 1) (lines_of (drop next s))) s t.it w.rest (i + 2 + 1) next refl (sym (line_taken s at row next (i + 2) t) ∙ w.lines)

      whole : cs ≡ w.done ++ (t.it ∷ n.others)
      whole = sym w.all ∙ ap (λ (x : List Call). w.done ++ x) n.is

      below : i < length cs
      below =
          let e : length cs ≡ length w.done + suc (length n.others) = ap length whole ∙ length-append w.done (t.it ∷ n.others) in
          let d = w.count in
          omega arith

      inside : used + size ≤ length (bytes_of cs)
      inside =
          let e : length (bytes_of cs) ≡ length (bytes_of w.done) + length (bytes_of (t.it ∷ n.others)) = ap (λ (x : List Call). length (bytes_of x)) whole ∙ ap length (bytes-append w.done (t.it ∷ n.others)) ∙ length-append (bytes_of w.done) (bytes_of (t.it ∷ n.others)) in
          let f = bytes-cons t.it n.others in
          let d = w.filled in
          let z = t.size_is in
          omega arith

      pub fill-room : Roomy k i used size
      fill-room =
          let x = below in
          let y = inside in
          record {
            kinds = omega (arith, l.kinds, ready.kinds);
            firsts = omega (arith, l.firsts, ready.firsts);
            seconds = omega (arith, l.seconds, ready.seconds);
            thirds = omega (arith, l.thirds, ready.thirds);
            starts = omega (arith, l.starts, ready.starts);
            pool = omega (arith, l.pool, ready.pool);
            rows = omega (arith, ready.rows);
            few = omega (arith, ready.few);
          }

      -- the bytes as `store_bytes` leaves them
      module _ (pool : List ℕ) (d : pool ≡ stored s row.start k.pool used (used + size)) where
        there : List ℕ
        there = part k.pool used (used + size - used)

        there-long : length there ≡ size
        unfolding there part
        there-long =
            let y = inside in
            let z = l.pool in
            let o = ready.pool in
            let f : used + size - used ≡ size = omega arith in
            let g : size ≤ length (drop used k.pool) = rw length-drop (omega arith) in
            ap (λ (m : ℕ). length (take m (drop used k.pool))) f ∙ length-take-le size (drop used k.pool) g

        bytes-are : decoded s row.start there ≡ bytes_in t.it
        bytes-are =
            let e : take (length there) (pair_values (drop row.start s)) ≡ bytes_in t.it = ap (λ (m : ℕ). take m (pair_values (drop row.start s))) there-long ∙ sym t.bytes in
            let f : length (bytes_in t.it) ≡ length there = sym t.size_is ∙ sym there-long in
            let g : drop (length (bytes_in t.it)) there ≡ [] = ap (λ (m : ℕ). drop m there) f ∙ drop-length there in
            ap (λ (x : List ℕ). over x there) e ∙ ap (λ (x : List ℕ). bytes_in t.it ++ x) g ∙ append-nil (bytes_in t.it)

        -- the columns after the row
        abbrev later : Columns
        later = columns (set k.kinds i row.kind) (set k.firsts i row.first) (set k.seconds i row.second) (set k.thirds i row.third) (set k.starts i used) pool

        column : (f : Call → ℕ) (old now' : List ℕ) (x : ℕ) → now' ≡ over (map f w.done) old → x ≡ f t.it → length cs ≤ length old → set now' i x ≡ over (map f (w.done ++ (t.it ∷ []))) old
        column f old now' x e g o =
            let m : length (map f w.done) ≡ length w.done = length-map w.done f in
            let u : i ≡ length (map f w.done) = w.count ∙ sym m in
            let y = below in
            let lt : length (map f w.done) < length old = omega arith in
            rw (e, g) (over-set-at (map f w.done) old i (f t.it) u lt) ∙ ap (λ (x' : List ℕ). over x' old) (sym (map-append f w.done (t.it ∷ [])))

        starts-are : set k.starts i used ≡ over (starts_of 0 (w.done ++ (t.it ∷ []))) k₀.starts
        unfolding written
        starts-are =
            let e : k.starts ≡ over (starts_of 0 w.done) k₀.starts = ap (λ (x : Columns). x.starts) w.is in
            let m : length (starts_of 0 w.done) ≡ length w.done = starts-long 0 w.done in
            let u : i ≡ length (starts_of 0 w.done) = w.count ∙ sym m in
            let y = below in
            let o = ready.starts in
            let lt : length (starts_of 0 w.done) < length k₀.starts = omega arith in
            let z : used ≡ 0 + length (bytes_of w.done) = w.filled ∙ sym (zero-add (length (bytes_of w.done))) in
            rw (e, z) (over-set-at (starts_of 0 w.done) k₀.starts i (0 + length (bytes_of w.done)) u lt) ∙ ap (λ (x : List ℕ). over x k₀.starts) (sym (starts-snoc 0 w.done t.it))

        pool-is : pool ≡ over (bytes_of (w.done ++ (t.it ∷ []))) k₀.pool
        unfolding written there
        pool-is =
            let e : k.pool ≡ over (bytes_of w.done) k₀.pool = ap (λ (x : Columns). x.pool) w.is in
            d
            ∙ ap₂ (λ (x y' : List ℕ). overlaid x used y') e bytes-are
            ∙ over-pool (bytes_of w.done) (bytes_in t.it) k₀.pool used w.filled
            ∙ ap (λ (x : List ℕ). over x k₀.pool) (sym (bytes-snoc w.done t.it))

        pub fill-same : SameLong k₀ later
        fill-same =
            let e : length (bytes_of (w.done ++ (t.it ∷ []))) ≡ length (bytes_of w.done) + length (bytes_in t.it) = ap length (bytes-snoc w.done t.it) ∙ length-append (bytes_of w.done) (bytes_in t.it) in
            let d = w.filled in
            let z = t.size_is in
            let y = inside in
            let o = ready.pool in
            let g : length (bytes_of (w.done ++ (t.it ∷ []))) ≤ length k₀.pool = omega arith in
            record {
              kinds = length-set k.kinds i row.kind ∙ l.kinds;
              firsts = length-set k.firsts i row.first ∙ l.firsts;
              seconds = length-set k.seconds i row.second ∙ l.seconds;
              thirds = length-set k.thirds i row.third ∙ l.thirds;
              starts = length-set k.starts i used ∙ l.starts;
              pool = ap length pool-is ∙ over-long (bytes_of (w.done ++ (t.it ∷ []))) k₀.pool g;
            }

        pub fill-next : Filling s cs k₀ later next (i + 1) (used + size)
        unfolding written
        fill-next =
            let e = w.is in
            let c₁ = column kind_of k₀.kinds k.kinds row.kind (ap (λ (x : Columns). x.kinds) e) t.kind-is ready.kinds in
            let c₂ = column first_in k₀.firsts k.firsts row.first (ap (λ (x : Columns). x.firsts) e) t.first-is ready.firsts in
            let c₃ = column second_in k₀.seconds k.seconds row.second (ap (λ (x : Columns). x.seconds) e) t.second_is ready.seconds in
            let c₄ = column third_in k₀.thirds k.thirds row.third (ap (λ (x : Columns). x.thirds) e) t.third-is ready.thirds in
            let m : i + 2 + 1 ≡ i + 1 + 2 = omega arith in
            record {
              done = w.done ++ (t.it ∷ []);
              rest = n.others;
              all = append_assoc w.done (t.it ∷ []) n.others ∙ sym whole;
              count = let d = w.count in let g = length-append w.done (t.it ∷ []) in omega arith;
              filled = let d = w.filled in let g = ap length (bytes-snoc w.done t.it) ∙ length-append (bytes_of w.done) (bytes_in t.it) in let z = t.size_is in omega arith;
              lines = ap (λ (x : ℕ). read_lines x (lines_of (drop next s))) (sym m) ∙ n.lines;
              is = same c₁ c₂ c₃ c₄ starts-are pool-is;
            }
          where
            same : {k₁ k₂ a₁ a₂ b₁ b₂ d₁ d₂ s₁ s₂ p₁ p₂ : List ℕ} → k₁ ≡ k₂ → a₁ ≡ a₂ → b₁ ≡ b₂ → d₁ ≡ d₂ → s₁ ≡ s₂ → p₁ ≡ p₂ → columns k₁ a₁ b₁ d₁ s₁ p₁ ≡ columns k₂ a₂ b₂ d₂ s₂ p₂
            same e₁ e₂ e₃ e₄ e₅ e₆ = cc

-- for `search (rules, stores)`
pub ruleset stores = (store-none, store-some)
