-- What holds of every run.
--     tidy           marks rise and stand within the operations
--     uncut-whole    where nothing cuts, every operation landed whole and answered 0
--     all-bare       a barrier has no cells
-- Assumes nothing.
use mathlib.Core.Path.{◌≡◌, refl}
use mathlib.Core.Bool.{false, true≢false}
use mathlib.Core.List.{List, [], ◌∷◌, ◌++◌}
use Prim.Native.Nat.{ℕ, zero, suc, ◌+◌, ◌≤◌, ◌<◌}
use native.Mathlib.Nat.{le_refl}
use native.Mathlib.Omega.{arith}
use lib.ListN.{length, take, drop, get_or, length-append}
use Rattle.storage.specs.declared.Geometry.{Geometry}
use Rattle.inject.specs.declared.Injection.{Injection}
use Rattle.landing.specs.declared.Stop.{Stop}
use Rattle.landing.specs.declared.Stop.TheVariants.{Running}
use Rattle.session.specs.declared.Told.{Told}
use Rattle.std.specs.Prelude.{None as Nothing}
use Rattle.session.specs.Armed.{cut_by}
use Rattle.records.specs.Records.{Label, RecordMark}
use Rattle.plain.specs.Plain.{Act, program, erase, barrier, Call, Op, Run, wholly, as_cut, ending_by, taken, taken_by, marked, plain}
use Rattle.plain.specs.Ledger.{is_write}
use Rattle.plain.proofs.Runs.{taken-either, plain-keeps}
use Rattle.plain.proofs.Truncation.{Within, within_more, within-last}

-- ---- of every element of a list

module _ {A : Type 0} (P : A → Type 0) where
  abbrev pub All : List A → Type 0
  All [] = Unit {0}
  All (x ∷ xs) = P x × All xs

  pub all-last : (xs : List A) (x : A) → All xs → P x → All (xs ++ (x ∷ []))
  all-last [] x h p = (p, tt)
  all-last (y ∷ xs) x h p = (h.0, all-last xs x h.1 p)

  pub all_take : (n : ℕ) (xs : List A) → All xs → All (take n xs)
  all_take zero xs h = tt
  all_take (suc n) [] h = tt
  all_take (suc n) (x ∷ xs) h = (h.0, all_take n xs h.1)

  pub all_drop : (n : ℕ) (xs : List A) → All xs → All (drop n xs)
  all_drop zero xs h = h
  all_drop (suc n) [] h = tt
  all_drop (suc n) (x ∷ xs) h = all_drop n xs h.1

  pub all-get : (n : ℕ) (xs : List A) (d : A) → All xs → n < length xs → P (get_or xs n d)
  all-get n [] d h l = absurd (omega arith)
  all-get zero (x ∷ xs) d h l = h.0
  all-get (suc n) (x ∷ xs) d h l = all-get n xs d h.1 (omega arith)

-- ---- marks rise

-- every place is n or more
abbrev pub From : ℕ → List RecordMark → Type 0
From n [] = Unit {0}
From n (m ∷ ms) = (n ≤ m.place) × From n ms

abbrev pub Rising : List RecordMark → Type 0
Rising [] = Unit {0}
Rising (m ∷ ms) = From m.place ms × Rising ms

from_last : (n : ℕ) (ms : List RecordMark) (m : RecordMark) → From n ms → n ≤ m.place → From n (ms ++ (m ∷ []))
from_last n [] m w h = (h, tt)
from_last n (x ∷ ms) m w h = (w.0, from_last n ms m w.1 h)

rising-last : (ms : List RecordMark) (m : RecordMark) → Rising ms → Within m.place ms → Rising (ms ++ (m ∷ []))
rising-last [] m r w = (tt, tt)
rising-last (x ∷ ms) m r w = (from_last x.place ms m r.0 w.0, rising-last ms m r.1 w.1)

pub record Tidy (r : Run) : Type 0 where
  pub within : Within (length r.ops) r.marks
  pub rising : Rising r.marks

tidy-taken : (r : Run) (o : Op) (s : Stop) → Tidy r → Tidy (taken r o s)
tidy-taken r o s h =
    let l : length (r.ops ++ (o ∷ [])) ≡ length r.ops + 1 = length-append r.ops (o ∷ []) in
    record { within = within_more (length r.ops) _ r.marks (omega (arith, l)) h.within; rising = h.rising }

tidy-marked : (r : Run) (l : Label) → Tidy r → Tidy (marked r l)
tidy-marked r l h = record {
  within = within-last (length r.ops) r.marks _ h.within (le_refl _);
  rising = rising-last r.marks _ h.rising h.within;
}

pub tidy : (t : Told) (media : List ℕ) (xs : List Call) → Tidy (plain t media xs)
tidy t media xs =
    plain-keeps t Tidy (λ r n h. record { within = h.within; rising = h.rising })
    (λ r a h. taken-either Tidy t.geometry t.armed r (wholly r.media a) (tidy-taken r (wholly r.media a) Running h)
    (λ j. tidy-taken r (as_cut t.geometry j (wholly r.media a)) (ending_by t.geometry j (wholly r.media a)).stop h))
    tidy-marked media xs (record { within = tt; rising = tt })

-- ---- landed whole, answered 0

pub record Whole (o : Op) : Type 0 where
  pub all-landed : o.landed ≡ length o.want
  pub answers-0 : o.answer ≡ 0

wholly-whole : (media : List ℕ) (a : Act) → Whole (wholly media a)
unfolding wholly
wholly-whole media (program offset bytes) = record { all-landed = refl; answers-0 = refl }
wholly-whole media (erase offset len) = record { all-landed = refl; answers-0 = refl }
wholly-whole media barrier = record { all-landed = refl; answers-0 = refl }

pub uncut-whole : (t : Told) (media : List ℕ) (xs : List Call) → All Whole (plain (cut_by t Nothing) media xs).ops
unfolding taken_by
uncut-whole t media xs =
    plain-keeps (cut_by t Nothing) (λ (r : Run). All Whole r.ops) (λ r n h. h)
    (λ r a h. all-last Whole r.ops (wholly r.media a) h (wholly-whole r.media a)) (λ r l h. h) media xs tt

-- ---- a barrier has no cells

pub record Bare (o : Op) : Type 0 where
  pub no-want : is_write o ≡ false → o.want ≡ []
  pub no_old : is_write o ≡ false → o.old ≡ []

bare-wholly : (media : List ℕ) (a : Act) → Bare (wholly media a)
unfolding wholly
bare-wholly media (program offset bytes) = record { no-want = λ e. absurd (true≢false e); no_old = λ e. absurd (true≢false e) }
bare-wholly media (erase offset len) = record { no-want = λ e. absurd (true≢false e); no_old = λ e. absurd (true≢false e) }
bare-wholly media barrier = record { no-want = λ e. refl; no_old = λ e. refl }

pub bare-cut : (g : Geometry) (j : Injection) (o : Op) → Bare o → Bare (as_cut g j o)
unfolding as_cut
bare-cut g j o h = record { no-want = h.no-want; no_old = h.no_old }

pub all-bare : (t : Told) (media : List ℕ) (xs : List Call) → All Bare (plain t media xs).ops
all-bare t media xs =
    plain-keeps t (λ (r : Run). All Bare r.ops) (λ r n h. h)
    (λ r a h. let o : Op = wholly r.media a in
    let b : Bare o = bare-wholly r.media a in
    taken-either (λ (s : Run). All Bare s.ops) t.geometry t.armed r o (all-last Bare r.ops o h b)
    (λ j. all-last Bare r.ops (as_cut t.geometry j o) h (bare-cut t.geometry j o b)))
    (λ r l h. h) media xs tt
