-- The structural law: a run cut once is the uncut run, truncated.
--     cut-truncates    an operation meets the cut: those before it, it as cut, and nothing more; each mark at min p (index + 1)
--     cut-unmet        none does: the uncut run
-- Assumes nothing.
use mathlib.Core.Path.{◌≡◌, refl, sym, ap, ap₂, ◌∙◌}
use mathlib.Core.Bool.{Bool, true, false, cond}
use mathlib.Core.List.{List, [], ◌∷◌, ◌++◌, map, map-append}
use Prim.Native.Nat.{ℕ, suc, ◌+◌, ◌≤◌, ◌<◌, min}
use native.Mathlib.Nat.{le_refl, min-eq_right}
use native.Mathlib.Decide.{ℕ_discrete}
use native.Mathlib.Omega.{arith}
use lib.ListN.{length, take, length-append, length-map, get_or-append}
use lib.Seq.{take_at, get_or_at, take-append-le, length-take-le}
use lib.Dec.{eqb}
use borrow.Author.Tests.{eq-eqb, ne_eqb}
use Rattle.basics.proofs.Tests.{first_of-stop}
use Rattle.inject.specs.declared.Interruption.{Interruption}
use Rattle.inject.specs.declared.Interruption.TheVariants.{PowerLoss, Watchdog, Failure}
use Rattle.inject.specs.declared.Injection.{Injection}
use Rattle.landing.specs.declared.Stop.TheVariants.{Running}
use Rattle.landing.specs.Ending.{ending_of, stop_number}
use Rattle.session.specs.declared.Told.{Told}
use Rattle.std.specs.Prelude.{None as Nothing, Some as At}
use Rattle.session.specs.Tests.{mark_test}
use Rattle.session.specs.Armed.{cut_by}
use Rattle.session_program.specs.Program.{span_number}
use Rattle.records.specs.Records.{Label, RecordMark}
use Rattle.plain.specs.Plain.{Act, program, erase, barrier, Call, act, mark, Op, Run, act_test, refusal, mark_refusal, wholly, ending_by, refused, taken, taken_by, marked, step, run, unrun, plain}
use Rattle.plain.specs.Claims.{CutOnce, capped_at, Truncated}

-- ---- marks within the operations

abbrev pub Within : ℕ → List RecordMark → Type 0
Within n [] = Unit {0}
Within n (m ∷ ms) = (m.place ≤ n) × Within n ms

pub within_more : (n k : ℕ) (ms : List RecordMark) → n ≤ k → Within n ms → Within k ms
within_more n k [] h w = tt
within_more n k (m ∷ ms) h w = (omega (arith, w.0), within_more n k ms h w.1)

pub within-last : (n : ℕ) (ms : List RecordMark) (m : RecordMark) → Within n ms → m.place ≤ n → Within n (ms ++ (m ∷ []))
within-last n [] m w h = (h, tt)
within-last n (x ∷ ms) m w h = (w.0, within-last n ms m w.1 h)

-- marks that stand low enough are not moved
capped_same : (n k : ℕ) (ms : List RecordMark) → n ≤ k → Within n ms → ms ≡ map (capped_at k) ms
unfolding capped_at
capped_same n k [] h w = refl
capped_same n k (m ∷ ms) h w =
    let e : min m.place k ≡ m.place = omega (arith, w.0) in
    ap₂ {C = List RecordMark} (λ (p : ℕ) (rest : List RecordMark). record { label = m.label; place = p } ∷ rest) (sym e) (capped_same n k ms h w.1)

-- ---- a stop

-- the run is stopped: power loss and watchdog leave it so
abbrev Stopped : Run → Type 0
Stopped r = stop_number r.stop ≡ 0 → ⊥

ending-stops : (i : Interruption) (b : Bool) → (i ≡ Failure → ⊥) → stop_number (ending_of i b).stop ≡ 0 → ⊥
ending-stops PowerLoss false h e = omega arith
ending-stops PowerLoss true h e = omega arith
ending-stops Watchdog false h e = omega arith
ending-stops Watchdog true h e = omega arith
ending-stops Failure b h e = h refl

module _ (t : Told) (j : Injection) (once : CutOnce (At j)) (d : Op) where
  -- the same calls, uncut and cut
  abbrev uncut : Told
  uncut = cut_by t Nothing

  abbrev cut : Told
  cut = cut_by t (At j)

  -- how the two runs stand after the same calls
  data Stand (u s : Run) : Type 0 where
    before : length u.ops ≤ j.op → Within (length u.ops) u.marks → s ≡ u → Stand u s
    beyond : j.op < length u.ops → Truncated t.geometry j d u s → Stopped s → Stand u s

  -- the tests do not see the cut
  same_tests : (media : List ℕ) (count : ℕ) (a : Act) → act_test cut media count a ≡ act_test uncut media count a
  unfolding act_test span_number
  same_tests media count (program offset bytes) = refl
  same_tests media count (erase offset len) = refl
  same_tests media count barrier = refl

  same-refusal : (r : Run) (a : Act) → refusal cut r a ≡ refusal uncut r a
  unfolding refusal
  same-refusal r a = rw (same_tests r.media (length r.ops) a)

  -- ---- not yet cut

  before-taken : (u : Run) (o : Op) → length u.ops ≤ j.op → Within (length u.ops) u.marks
      → Stand (taken_by t.geometry Nothing u o) (taken_by t.geometry (At j) u o)
  unfolding taken_by ending_by
  before-taken u o h w =
      let l : length (u.ops ++ (o ∷ [])) ≡ length u.ops + 1 = length-append u.ops (o ∷ []) in
      elim (ℕ_discrete j.op (length u.ops)) [
        | yes e ↦ rw (eq-eqb j.op (length u.ops) e)
            (beyond (omega arith)
            (record {
              ops-are = rw (take_at u.ops (o ∷ []) j.op (sym e), get_or_at u.ops o [] d j.op (sym e));
              marks-are = capped_same (length u.ops) (suc j.op) u.marks (omega arith) w;
            })
            (ending-stops j.interruption _ once))
        | no e ↦ rw (ne_eqb j.op (length u.ops) e)
            (before (omega arith) (within_more (length u.ops) _ u.marks (omega arith) w) refl)
      ]

  before-act : (u : Run) (a : Act) → length u.ops ≤ j.op → Within (length u.ops) u.marks → Stand (step uncut u (act a)) (step cut u (act a))
  unfolding step
  before-act u a h w = rw (same-refusal u a) (go (eqb (refusal uncut u a) 0))
    where
      go : (b : Bool) → Stand (cond b (taken_by t.geometry Nothing u (wholly u.media a)) (refused u (refusal uncut u a)))
          (cond b (taken_by t.geometry (At j) u (wholly u.media a)) (refused u (refusal uncut u a)))
      go true = before-taken u (wholly u.media a) h w
      go false = before h w refl

  before-mark : (u : Run) (l : Label) → length u.ops ≤ j.op → Within (length u.ops) u.marks → Stand (step uncut u (mark l)) (step cut u (mark l))
  unfolding step
  before-mark u l h w = go (eqb (mark_refusal u) 0)
    where
      go : (b : Bool) → Stand (cond b (marked u l) (refused u (mark_refusal u))) (cond b (marked u l) (refused u (mark_refusal u)))
      go true = before h (within-last (length u.ops) u.marks _ w (le_refl _)) refl
      go false = before h w refl

  -- ---- cut

  -- a stopped run refuses every operation
  stopped-act : (s : Run) (a : Act) → Stopped s → step cut s (act a) ≡ refused s (stop_number s.stop)
  unfolding step refusal
  stopped-act s a h =
      let e : refusal cut s a ≡ stop_number s.stop = first_of-stop (stop_number s.stop) (act_test cut s.media (length s.ops) a ∷ []) h in
      rw (e, ne_eqb (stop_number s.stop) 0 h)

  beyond-act : (u s : Run) (a : Act) → j.op < length u.ops → Truncated t.geometry j d u s → Stopped s → (n : ℕ)
      → Stand (step uncut u (act a)) (refused s n)
  unfolding step taken_by
  beyond-act u s a h w e n = go (eqb (refusal uncut u a) 0)
    where
      o : Op
      o = wholly u.media a

      l : length (u.ops ++ (o ∷ [])) ≡ length u.ops + 1
      l = length-append u.ops (o ∷ [])

      go : (b : Bool) → Stand (cond b (taken u o Running) (refused u (refusal uncut u a))) (refused s n)
      go true =
          beyond (omega (arith, l))
          (record {
            ops-are = rw (take-append-le j.op u.ops (o ∷ []) (omega arith), get_or-append u.ops (o ∷ []) d j.op h) w.ops-are;
            marks-are = w.marks-are;
          })
          e
      go false = beyond h (record { ops-are = w.ops-are; marks-are = w.marks-are }) e

  -- the cut run has taken index + 1 operations
  pub cut-length : (u s : Run) → j.op < length u.ops → Truncated t.geometry j d u s → length s.ops ≡ suc j.op
  cut-length u s h w =
      let k : length (take j.op u.ops) ≡ j.op = length-take-le j.op u.ops (omega arith) in
      ap length w.ops-are ∙ length-append (take j.op u.ops) _ ∙ omega arith

  -- marks are as many, so a mark is refused in both or in neither
  same-marks : (u s : Run) → Truncated t.geometry j d u s → mark_refusal s ≡ mark_refusal u
  unfolding mark_refusal
  same-marks u s w = ap (λ (n : ℕ). mark_test n 1) (ap length w.marks-are ∙ length-map u.marks (capped_at (suc j.op)))

  beyond-mark : (u s : Run) (l : Label) → j.op < length u.ops → Truncated t.geometry j d u s → Stopped s
      → Stand (step uncut u (mark l)) (step cut s (mark l))
  unfolding step capped_at
  beyond-mark u s l h w e = rw (same-marks u s w) (go (eqb (mark_refusal u) 0))
    where
      more : (marked s l).marks ≡ map (capped_at (suc j.op)) (marked u l).marks
      more = rw (map-append, cut-length u s h w ∙ sym (min-eq_right h), w.marks-are)

      go : (b : Bool) → Stand (cond b (marked u l) (refused u (mark_refusal u))) (cond b (marked s l) (refused s (mark_refusal u)))
      go true = beyond h (record { ops-are = w.ops-are; marks-are = more }) e
      go false = beyond h (record { ops-are = w.ops-are; marks-are = w.marks-are }) e

  -- ---- all calls

  one-call : (u s : Run) (x : Call) → Stand u s → Stand (step uncut u x) (step cut s x)
  one-call u s (act a) (before h w e) = rw e (before-act u a h w)
  one-call u s (act a) (beyond h w e) = rw (stopped-act s a e) (beyond-act u s a h w e (stop_number s.stop))
  one-call u s (mark l) (before h w e) = rw e (before-mark u l h w)
  one-call u s (mark l) (beyond h w e) = beyond-mark u s l h w e

  all-calls : (u s : Run) (xs : List Call) → Stand u s → Stand (run uncut u xs) (run cut s xs)
  unfolding run
  all-calls u s [] r = r
  all-calls u s (x ∷ xs) r = all-calls (step uncut u x) (step cut s x) xs (one-call u s x r)

  module _ (media : List ℕ) (xs : List Call) where
    stands : Stand (plain uncut media xs) (plain cut media xs)
    unfolding plain
    stands = all-calls (unrun media) (unrun media) xs (before (omega arith) tt refl)

    pub cut-truncates : j.op < length (plain uncut media xs).ops → Truncated t.geometry j d (plain uncut media xs) (plain cut media xs)
    cut-truncates h = elim stands [ before l w e ↦ absurd (omega arith) | beyond l w e ↦ w ]

    pub cut-unmet : length (plain uncut media xs).ops ≤ j.op → plain cut media xs ≡ plain uncut media xs
    cut-unmet h = elim stands [ before l w e ↦ e | beyond l w e ↦ absurd (omega arith) ]
