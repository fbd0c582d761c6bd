-- What the layer `session` answers, as numbers: each law takes what a call told, that its values came from the numbers lent, and
-- that its counters were put back, and gives what is left.
--     start-fresh, start-refused               a start
--     program-told, erase-told, barrier-told   the operations
-- Assumes nothing.
use mathlib.Core.Path.{◌≡◌, sym, ap, ap₂, ◌∙◌}
use mathlib.Core.List.{List}
use Prim.Native.Nat.{ℕ}
use Rattle.session.specs.declared.Told.{Told}
use Rattle.session.specs.declared.Counters.{Counters}
use Rattle.session.specs.Replies.{Called}
use Rattle.std.specs.Prelude.{Ok as Fresh, Err as NotStarted}
use Rattle.session.specs.Log.{Log, Marks}
use Rattle.session.specs.Start.{Started, Opened, opened, started}
use Rattle.session.specs.Barrier.{Ordered, ordered, barriered}
use Rattle.session.specs.Written.{Written, written}
use Rattle.session_erase.specs.Erase.{erase_call}
use Rattle.session_program.specs.Program.{program_call}
use Rattle.session_numbers.specs.Numbers.{counters_in}
use Rattle.session_exported.specs.Session.{start_left, start_left_by, opened_over, write_left, written_over, barrier_left, ordered_over}

module _ (given t : Told) (same : given ≡ t) where
  -- ---- a start

  module _ (media : List ℕ) (copy : ℕ) (l : Log) (k : Marks) (reply : Started) (m : List ℕ)
      (told : opened reply m ≡ started given media copy l k) (state : List ℕ) where
    opened-told : start_left_by state m reply ≡ opened_over state (started t media copy l k)
    opened-told = ap (λ (o : Opened). opened_over state o) (told ∙ ap (λ (u : Told). started u media copy l k) same)

    pub start-fresh : (c : Counters) (left : List ℕ) → reply ≡ Fresh c → left ≡ counters_in c state
        → start_left 0 left m ≡ opened_over state (started t media copy l k)
    start-fresh c left is kept =
        ap (λ (s : List ℕ). start_left 0 s m) kept ∙ ap (λ (s : Started). start_left_by state m s) (sym is) ∙ opened-told

    pub start-refused : (number : ℕ) → reply ≡ NotStarted number
        → start_left number state m ≡ opened_over state (started t media copy l k)
    start-refused number is = ap (λ (s : Started). start_left_by state m s) (sym is) ∙ opened-told

  -- ---- the operations

  module _ (before c : Counters) (as_before : before ≡ c) (reply : Called) (state left : List ℕ) (n : ℕ) (put : (n ≡ reply.answer) × (left ≡ counters_in reply.counters state)) where
    written-told : (m k : List ℕ) (out : Log) (w : Written) → written reply m k out ≡ w
        → write_left n left m k out ≡ written_over state w
    written-told m k out w told =
        ap₂ (λ (a : ℕ) (s : List ℕ). write_left a s m k out) put.0 put.1 ∙ ap (λ (v : Written). written_over state v) told

    pub program-told : (offset : ℕ) (bytes media copy : List ℕ) (l : Log) (m k : List ℕ) (out : Log)
        → written reply m k out ≡ program_call given before offset bytes media copy l
        → write_left n left m k out ≡ written_over state (program_call t c offset bytes media copy l)
    program-told offset bytes media copy l m k out told =
        written-told m k out _
        (told
        ∙ ap (λ (u : Told). program_call u before offset bytes media copy l) same
        ∙ ap (λ (v : Counters). program_call t v offset bytes media copy l) as_before)

    pub erase-told : (offset len : ℕ) (media copy : List ℕ) (l : Log) (m k : List ℕ) (out : Log)
        → written reply m k out ≡ erase_call given before offset len media copy l
        → write_left n left m k out ≡ written_over state (erase_call t c offset len media copy l)
    erase-told offset len media copy l m k out told =
        written-told m k out _
        (told
        ∙ ap (λ (u : Told). erase_call u before offset len media copy l) same
        ∙ ap (λ (v : Counters). erase_call t v offset len media copy l) as_before)

    pub barrier-told : (l out : Log) → ordered reply out ≡ barriered given before l
        → barrier_left n left out ≡ ordered_over state (barriered t c l)
    barrier-told l out told =
        ap₂ (λ (a : ℕ) (s : List ℕ). barrier_left a s out) put.0 put.1
        ∙ ap (λ (o : Ordered). ordered_over state o)
        (told ∙ ap (λ (u : Told). barriered u before l) same ∙ ap (λ (v : Counters). barriered t v l) as_before)
