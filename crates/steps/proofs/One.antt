-- A row by its kind. Each is what the session's function of that kind leaves. Assumes nothing.
use mathlib.Core.Path.{◌≡◌, refl, ap}
use mathlib.Core.List.{List}
use Prim.Native.Nat.{ℕ, zero, suc, ◌+◌, ◌-◌, min}
use native.Mathlib.Omega.{arith}
use lib.ListN.{length, take, drop}
use borrow.Author.Tests.{lt-leb}
use Rattle.session.specs.declared.Told.{Told}
use Rattle.session.specs.declared.Counters.{Counters}
use Rattle.session.specs.Replies.{Called}
use Rattle.session.specs.Log.{Log, Marks}
use Rattle.session.specs.Barrier.{ordered, barriered}
use Rattle.session.specs.Marks.{noted, begun, ended, range_marked}
use Rattle.session.specs.Written.{written}
use Rattle.session_erase.specs.Erase.{erase_call}
use Rattle.session_program.specs.Program.{program_call}
use Rattle.threaded.specs.Threaded.{Session, after_write, after_barrier, after_mark}
use Rattle.steps.specs.Writer.{line_answered}
use Rattle.steps.specs.Step.{session_of, answered_of, task_from, step_answered}
use Rattle.steps.proofs.Bytes.{part-there}

module _ (t : Told) (c : Counters) (kind first second third : ℕ) (media copy : List ℕ) (l : Log) (m : Marks) (r : Called) where
  abbrev s : Session
  s = session_of c media copy l m

  -- the bytes are those of the pool that are there
  pub one-program : kind ≡ 0 → (start : ℕ) (pool : List ℕ) (from to : ℕ) → from ≡ min start (length pool) → to ≡ min (start + second) (length pool)
      → (media' copy' : List ℕ) (l' : Log) → written r media' copy' l' ≡ program_call t c first (take (to - from) (drop from pool)) media copy l
      → answered_of r media' copy' l' m ≡ step_answered t s (task_from kind first second third start pool)
  unfolding step_answered line_answered task_from
  one-program k start pool from to f e media' copy' l' w = rw (k, ← part-there pool start second from to f e) (ap (after_write s) w)

  module _ (start : ℕ) (pool : List ℕ) where
    pub one-erase : kind ≡ 1 → (media' copy' : List ℕ) (l' : Log) → written r media' copy' l' ≡ erase_call t c first second media copy l
        → answered_of r media' copy' l' m ≡ step_answered t s (task_from kind first second third start pool)
    unfolding step_answered line_answered task_from
    one-erase k media' copy' l' w = rw k (ap (after_write s) w)

    pub one-barrier : kind ≡ 2 → (l' : Log) → ordered r l' ≡ barriered t c l → answered_of r media copy l' m ≡ step_answered t s (task_from kind first second third start pool)
    unfolding step_answered line_answered task_from
    one-barrier k l' w = rw k (ap (after_barrier s) w)

    module _ (m' : Marks) where
      pub one-begin : kind ≡ 3 → noted r m' ≡ begun c first m → answered_of r media copy l m' ≡ step_answered t s (task_from kind first second third start pool)
      unfolding step_answered line_answered task_from
      one-begin k w = rw k (ap (after_mark s) w)

      pub one_end : kind ≡ 4 → noted r m' ≡ ended c m → answered_of r media copy l m' ≡ step_answered t s (task_from kind first second third start pool)
      unfolding step_answered line_answered task_from
      one_end k w = rw k (ap (after_mark s) w)

      pub one-range : kind ≡ 5 → noted r m' ≡ range_marked c first second third m → answered_of r media copy l m' ≡ step_answered t s (task_from kind first second third start pool)
      unfolding step_answered line_answered task_from
      one-range k w = rw k (ap (after_mark s) w)

pub one-refused : (t : Told) (c : Counters) (kind first second third start : ℕ) (pool media copy : List ℕ) (l : Log) (m : Marks)
    → (kind ≡ 0 → ⊥) → (kind ≡ 1 → ⊥) → (kind ≡ 2 → ⊥) → (kind ≡ 3 → ⊥) → (kind ≡ 4 → ⊥) → (kind ≡ 5 → ⊥)
    → answered_of (record { answer = 12; counters = c }) media copy l m ≡ step_answered t (session_of c media copy l m) (task_from kind first second third start pool)
unfolding step_answered task_from
one-refused t c zero first second third start pool media copy l m n0 n1 n2 n3 n4 n5 = absurd (n0 refl)
one-refused t c (suc zero) first second third start pool media copy l m n0 n1 n2 n3 n4 n5 = absurd (n1 refl)
one-refused t c (suc (suc zero)) first second third start pool media copy l m n0 n1 n2 n3 n4 n5 = absurd (n2 refl)
one-refused t c (suc (suc (suc zero))) first second third start pool media copy l m n0 n1 n2 n3 n4 n5 = absurd (n3 refl)
one-refused t c (suc (suc (suc (suc zero)))) first second third start pool media copy l m n0 n1 n2 n3 n4 n5 = absurd (n4 refl)
one-refused t c (suc (suc (suc (suc (suc zero))))) first second third start pool media copy l m n0 n1 n2 n3 n4 n5 = absurd (n5 refl)
one-refused t c (suc (suc (suc (suc (suc (suc k)))))) first second third start pool media copy l m n0 n1 n2 n3 n4 n5 = rw (lt-leb (suc (suc (suc (suc (suc (suc k)))))) 5 (omega arith))
