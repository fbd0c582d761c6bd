-- A taken operation: what the session's definitions leave is what the plain run's operation says.
--     taken-by         the plain run takes an operation as it meets what is armed on its number
--     Steps            what a taken operation leaves of the session
--     program-steps, erase-steps, barrier-steps
-- Assumes nothing.
use mathlib.Core.Path.{◌≡◌, refl, sym, ap, ◌∙◌}
use mathlib.Core.Bool.{Bool, true, false, cond}
use mathlib.Core.List.{List, []}
use Prim.Native.Nat.{ℕ, ◌+◌, ◌-◌, ◌≤◌}
use native.Mathlib.Nat.{le_refl}
use native.Mathlib.Omega.{arith}
use lib.ListN.{length, take, drop, replicate, length-drop, length-replicate}
use lib.Seq.{length-take-le}
use lib.Dec.{eqb}
use borrow.Author.Tests.{le-leb}
use Rattle.basics.specs.Tests.{flag}
use Rattle.basics.specs.Parts.{part, overlaid}
use Rattle.basics.proofs.Parts.{length_part}
use Rattle.storage.specs.declared.Geometry.{Geometry}
use Rattle.device.specs.Media.{ff, anded, programmed, erased, postimage, any_pair, any_changed}
use Rattle.device.proofs.Cells.{length-anded}
use Rattle.device.proofs.Applied.{any-overlaid}
use Rattle.device.proofs.Programming.{length-programmed, programmed-in}
use Rattle.device.proofs.Erasing.{length-erased, erased-in}
use Rattle.landing.specs.declared.Stop.{Stop}
use Rattle.landing.specs.declared.Stop.TheVariants.{Running}
use Rattle.landing.specs.Ending.{Ending, ending_of}
use Rattle.landing.proofs.Bounds.{program-landed-le, erase-landed-le}
use Rattle.session.specs.declared.Told.{Told}
use Rattle.std.specs.Prelude.{None as Nothing, Some as At}
use Rattle.session.specs.declared.Entry.{Entry}
use Rattle.session.specs.Log.{logged}
use Rattle.session.specs.Armed.{Armed, armed_on, program_lands, erase_lands, barrier_ran, ended_by, next_count, write_reply}
use Rattle.session.specs.Barrier.{barrier_reply, barrier_entry, ordered}
use Rattle.session_erase.specs.Erase.{erase_plan, erase_landing, erase_entry, erase_taken}
use Rattle.session_program.specs.Program.{program_plan, program_landing, program_entry, program_taken}
use Rattle.plain.specs.Plain.{program, erase, barrier, Kind, is_program, is_erase, is_barrier, Op, Run, wholly, landed_by, completed_by, ending_by, as_cut, after, taken, taken_by}
use Rattle.plain.specs.Ledger.{changed}
use Rattle.threaded.specs.Threaded.{Session, Answered, after_write, after_barrier}
use Rattle.threaded.proofs.Cells.{take_part, drop-part, anded-take, anded-drop, ff-take, ff-drop, overlaid-none}

-- ---- an operation as it meets what is armed on it

abbrev pub met : Geometry → Armed → Op → Op
met g Nothing o = o
met g (At j) o = as_cut g j o

abbrev pub stop_by : Geometry → Armed → Op → Stop
stop_by g Nothing o = Running
stop_by g (At j) o = (ending_by g j o).stop

pub taken-by : (g : Geometry) (a : Armed) (r : Run) (o : Op)
    → taken_by g a r o ≡ taken r (met g (armed_on a (length r.ops)) o) (stop_by g (armed_on a (length r.ops)) o)
unfolding taken_by
taken-by g Nothing r o = refl
taken-by g (At j) r o = go (eqb j.op (length r.ops))
  where
    go : (b : Bool) → cond b (taken r (as_cut g j o) (ending_by g j o).stop) (taken r o Running)
        ≡ taken r (met g (cond b (At j) Nothing) o) (stop_by g (cond b (At j) Nothing) o)
    go true = refl
    go false = refl

-- how much lands and how it ends, by kind and length
lands_of : Geometry → Armed → Kind → ℕ → ℕ
lands_of g Nothing k len = len
lands_of g (At j) k len = landed_by g j k len

ends_of : Geometry → Armed → Kind → ℕ → Ending
ends_of g Nothing k len = record { answer = 0; stop = Running }
ends_of g (At j) k len = ending_of j.interruption (completed_by j k (landed_by g j k len) len)

-- an operation that landed whole and answered 0
pub record Whole (o : Op) : Type 0 where
  pub all-landed : o.landed ≡ length o.want
  pub answers-0 : o.answer ≡ 0

record MetIs (g : Geometry) (a : Armed) (o : Op) : Type 0 where
  kind-is : (met g a o).kind ≡ o.kind
  offset-is : (met g a o).offset ≡ o.offset
  old-is : (met g a o).old ≡ o.old
  want_is : (met g a o).want ≡ o.want
  landed-is : (met g a o).landed ≡ lands_of g a o.kind (length o.want)
  answer-is : (met g a o).answer ≡ (ends_of g a o.kind (length o.want)).answer
  stop_is : stop_by g a o ≡ (ends_of g a o.kind (length o.want)).stop

met-is : (g : Geometry) (a : Armed) (o : Op) → Whole o → MetIs g a o
unfolding as_cut ending_by lands_of ends_of
met-is g Nothing o w =
    record { kind-is = refl; offset-is = refl; old-is = refl; want_is = refl; landed-is = w.all-landed; answer-is = w.answers-0; stop_is = refl }
met-is g (At j) o w =
    record { kind-is = refl; offset-is = refl; old-is = refl; want_is = refl; landed-is = refl; answer-is = refl; stop_is = refl }

program-lands : (g : Geometry) (a : Armed) (len : ℕ) → lands_of g a is_program len ≡ program_lands a len g.program_size
unfolding lands_of landed_by
program-lands g Nothing len = refl
program-lands g (At j) len = refl

erase-lands : (g : Geometry) (a : Armed) (len : ℕ) → lands_of g a is_erase len ≡ erase_lands a len g.erase_size
unfolding lands_of landed_by
erase-lands g Nothing len = refl
erase-lands g (At j) len = refl

program-ends : (g : Geometry) (a : Armed) (len : ℕ) → ends_of g a is_program len ≡ ended_by a (eqb (program_lands a len g.program_size) len)
unfolding ends_of completed_by landed_by
program-ends g Nothing len = refl
program-ends g (At j) len = refl

erase-ends : (g : Geometry) (a : Armed) (len : ℕ) → ends_of g a is_erase len ≡ ended_by a (eqb (erase_lands a len g.erase_size) len)
unfolding ends_of completed_by landed_by
erase-ends g Nothing len = refl
erase-ends g (At j) len = refl

barrier-ends : (g : Geometry) (a : Armed) (len : ℕ) → ends_of g a is_barrier len ≡ ended_by a (barrier_ran a)
unfolding ends_of completed_by
barrier-ends g Nothing len = refl
barrier-ends g (At j) len = refl

barrier-lands : (g : Geometry) (a : Armed) → lands_of g a is_barrier 0 ≡ 0
unfolding lands_of landed_by
barrier-lands g Nothing = refl
barrier-lands g (At j) = refl

pub program-le : (a : Armed) (len unit : ℕ) → program_lands a len unit ≤ len
program-le Nothing len unit = le_refl len
program-le (At j) len unit = program-landed-le j len unit

pub erase-le : (a : Armed) (len block : ℕ) → erase_lands a len block ≤ len
erase-le Nothing len block = le_refl len
erase-le (At j) len block = erase-landed-le j len block

-- ---- what a taken operation leaves of the session

abbrev pub kind_code : Kind → ℕ
kind_code is_program = 0
kind_code is_erase = 1
kind_code is_barrier = 2

abbrev pub rest_of : Op → ℕ
rest_of m = length m.want - m.landed

pub record Steps (s : Session) (m : Op) (stop : Stop) (x : Answered) : Type 0 where
  pub answer-is : x.answer ≡ m.answer
  pub operations-is : x.session.counters.operations ≡ next_count s.counters.operations
  pub marks-kept : x.session.counters.marks ≡ s.counters.marks
  pub stop_is : x.session.counters.stop ≡ stop
  pub place_is : x.session.counters.place ≡ cond (eqb (rest_of m) 0) s.counters.place (m.offset + m.landed)
  pub withheld-is : x.session.counters.withheld ≡ cond (eqb (rest_of m) 0) s.counters.withheld (rest_of m)
  pub media-is : x.session.media ≡ after m s.media
  pub media-long : length x.session.media ≡ length s.media
  pub copy_is : x.session.copy ≡ overlaid s.copy (m.offset + m.landed) (drop m.landed m.want)
  pub copy-fits : m.offset + length m.want ≤ length s.copy
  pub landed-le : m.landed ≤ length m.want
  pub entry : Entry
  pub log_is : x.session.log ≡ logged s.log s.counters.operations entry
  pub kind-is : entry.kind ≡ kind_code m.kind
  pub offset-is : entry.offset ≡ m.offset
  pub len_is : entry.len ≡ length m.want
  pub change-is : entry.changed ≡ flag (changed m)
  pub answered-is : entry.answered ≡ flag (eqb m.answer 0)
  pub marks-same : x.session.marks ≡ s.marks

-- a write of `want` over the cells from offset on, of which the first n land
module _ (media : List ℕ) (offset len n : ℕ) (m : Op) (off : m.offset ≡ offset) (old : m.old ≡ part media offset len) (ln : m.landed ≡ n)
    (wl : length m.want ≡ len) (short : n ≤ len) (fits : offset + len ≤ length media) where
  first-long : length (take n m.want) ≡ n
  first-long = length-take-le n m.want (omega arith)

  write-after : overlaid media offset (take n m.want) ≡ after m media
  unfolding overlaid after
  write-after = rw (first-long, off, ln)

  write-changed : any_changed media (overlaid media offset (take n m.want)) ≡ changed m
  unfolding changed
  write-changed =
      any-overlaid media offset n (omega arith) (take n m.want) first-long
      ∙ rw (ln, old, take_part media offset len n short)

-- ---- program

module _ (t : Told) (s : Session) (offset : ℕ) (bytes : List ℕ) (fits : offset + length bytes ≤ length s.media) (even : length s.copy ≡ length s.media) where
  pub program-steps : Steps s (met t.geometry (armed_on t.armed s.counters.operations) (wholly s.media (program offset bytes)))
      (stop_by t.geometry (armed_on t.armed s.counters.operations) (wholly s.media (program offset bytes)))
      (after_write s (program_taken s.counters offset bytes (program_plan t s.counters offset (length bytes)) s.media s.copy s.log))
  unfolding program_plan program_landing write_reply wholly postimage
  program-steps =
      let media : List ℕ = s.media in
      let g : Geometry = t.geometry in
      let len : ℕ = length bytes in
      let a : Armed = armed_on t.armed s.counters.operations in
      let n : ℕ = program_lands a len g.program_size in
      let cells : List ℕ = part media offset len in
      let want : List ℕ = anded cells bytes in
      let o : Op = wholly media (program offset bytes) in
      let m : Op = met g a o in
      let z : MetIs g a o = met-is g a o (record { all-landed = refl; answers-0 = refl }) in
      let cl : length cells ≡ len = length_part media offset len fits in
      let wl : length want ≡ len = length-anded cells bytes cl ∙ cl in
      let wm : length m.want ≡ len = ap length z.want_is ∙ wl in
      let short : n ≤ len = program-le a len g.program_size in
      let ln : m.landed ≡ n = z.landed-is ∙ ap (lands_of g a is_program) wl ∙ program-lands g a len in
      let en : ends_of g a is_program (length want) ≡ ended_by a (eqb n len) = ap (ends_of g a is_program) wl ∙ program-ends g a len in
      let tl : length (take n bytes) ≡ n = length-take-le n bytes short in
      let dl : length (drop n bytes) ≡ len - n = length-drop n bytes in
      let first : anded (part media offset n) (take n bytes) ≡ take n m.want =
      sym (ap (take n) z.want_is ∙ anded-take n cells bytes ∙ ap (λ (c : List ℕ). anded c (take n bytes)) (take_part media offset len n short)) in
      let rest : anded (part media (offset + n) (len - n)) (drop n bytes) ≡ drop n m.want =
      sym (ap (drop n) z.want_is ∙ anded-drop n cells bytes ∙ ap (λ (c : List ℕ). anded c (drop n bytes)) (drop-part media offset len n)) in
      let laid : programmed media offset (take n bytes) ≡ overlaid media offset (take n m.want) =
      programmed-in media offset (take n bytes) (omega arith) ∙ rw tl (ap (overlaid media offset) first) in
      let held : postimage media (offset + n) (drop n bytes) ≡ drop n m.want =
      rw (dl, le-leb (offset + n + (len - n)) (length media) (omega arith)) rest in
      record {
        answer-is = sym (z.answer-is ∙ ap (λ (e : Ending). e.answer) en);
        operations-is = refl;
        marks-kept = refl;
        stop_is = sym (z.stop_is ∙ ap (λ (e : Ending). e.stop) en);
        place_is = rw (wm, ln, z.offset-is);
        withheld-is = rw (wm, ln);
        media-is = laid ∙ write-after media offset len n m z.offset-is z.old-is ln wm short fits;
        media-long = length-programmed media offset (take n bytes);
        copy_is = rw (ln, z.offset-is) (ap (overlaid s.copy (offset + n)) held);
        copy-fits = rw (z.offset-is, wm, even) fits;
        landed-le = rw (ln, wm) short;
        entry = program_entry offset bytes (any_changed media (programmed media offset (take n bytes))) (ended_by a (eqb n len)).answer;
        log_is = refl;
        kind-is = ap kind_code (sym z.kind-is);
        offset-is = sym z.offset-is;
        len_is = sym wm;
        change-is = ap flag (ap (any_changed media) laid ∙ write-changed media offset len n m z.offset-is z.old-is ln wm short fits);
        answered-is = ap (λ (k : ℕ). flag (eqb k 0)) (sym (z.answer-is ∙ ap (λ (e : Ending). e.answer) en));
        marks-same = refl;
      }

-- ---- erase

module _ (t : Told) (s : Session) (offset len : ℕ) (fits : offset + len ≤ length s.media) (even : length s.copy ≡ length s.media) where
  pub erase-steps : Steps s (met t.geometry (armed_on t.armed s.counters.operations) (wholly s.media (erase offset len)))
      (stop_by t.geometry (armed_on t.armed s.counters.operations) (wholly s.media (erase offset len)))
      (after_write s (erase_taken s.counters offset len (erase_plan t s.counters offset len) s.media s.copy s.log))
  unfolding erase_plan erase_landing write_reply wholly
  erase-steps =
      let media : List ℕ = s.media in
      let copy : List ℕ = s.copy in
      let g : Geometry = t.geometry in
      let a : Armed = armed_on t.armed s.counters.operations in
      let n : ℕ = erase_lands a len g.erase_size in
      let want : List ℕ = replicate len ff in
      let o : Op = wholly media (erase offset len) in
      let m : Op = met g a o in
      let z : MetIs g a o = met-is g a o (record { all-landed = refl; answers-0 = refl }) in
      let wl : length want ≡ len = length-replicate len ff in
      let wm : length m.want ≡ len = ap length z.want_is ∙ wl in
      let short : n ≤ len = erase-le a len g.erase_size in
      let ln : m.landed ≡ n = z.landed-is ∙ ap (lands_of g a is_erase) wl ∙ erase-lands g a len in
      let en : ends_of g a is_erase (length want) ≡ ended_by a (eqb n len) = ap (ends_of g a is_erase) wl ∙ erase-ends g a len in
      let first : replicate n ff ≡ take n m.want = sym (ap (take n) z.want_is ∙ ff-take n len short) in
      let rest : replicate (len - n) ff ≡ drop n m.want = sym (ap (drop n) z.want_is ∙ ff-drop n len) in
      let laid : erased media offset n ≡ overlaid media offset (take n m.want) = erased-in media offset n (omega arith) ∙ ap (overlaid media offset) first in
      let held : erased copy (offset + n) (len - n) ≡ overlaid copy (offset + n) (drop n m.want) =
      erased-in copy (offset + n) (len - n) (omega arith) ∙ ap (overlaid copy (offset + n)) rest in
      record {
        answer-is = sym (z.answer-is ∙ ap (λ (e : Ending). e.answer) en);
        operations-is = refl;
        marks-kept = refl;
        stop_is = sym (z.stop_is ∙ ap (λ (e : Ending). e.stop) en);
        place_is = rw (wm, ln, z.offset-is);
        withheld-is = rw (wm, ln);
        media-is = laid ∙ write-after media offset len n m z.offset-is z.old-is ln wm short fits;
        media-long = length-erased media offset n;
        copy_is = rw (ln, z.offset-is) held;
        copy-fits = rw (z.offset-is, wm, even) fits;
        landed-le = rw (ln, wm) short;
        entry = erase_entry offset len (any_changed media (erased media offset n)) (ended_by a (eqb n len)).answer;
        log_is = refl;
        kind-is = ap kind_code (sym z.kind-is);
        offset-is = sym z.offset-is;
        len_is = sym wm;
        change-is = ap flag (ap (any_changed media) laid ∙ write-changed media offset len n m z.offset-is z.old-is ln wm short fits);
        answered-is = ap (λ (k : ℕ). flag (eqb k 0)) (sym (z.answer-is ∙ ap (λ (e : Ending). e.answer) en));
        marks-same = refl;
      }

-- ---- barrier

module _ (t : Told) (s : Session) where
  pub barrier-steps : Steps s (met t.geometry (armed_on t.armed s.counters.operations) (wholly s.media barrier))
      (stop_by t.geometry (armed_on t.armed s.counters.operations) (wholly s.media barrier))
      (after_barrier s (ordered (barrier_reply t s.counters) (logged s.log s.counters.operations (barrier_entry (barrier_reply t s.counters).answer))))
  unfolding barrier_reply wholly after changed any_pair
  barrier-steps =
      let g : Geometry = t.geometry in
      let a : Armed = armed_on t.armed s.counters.operations in
      let o : Op = wholly s.media barrier in
      let m : Op = met g a o in
      let z : MetIs g a o = met-is g a o (record { all-landed = refl; answers-0 = refl }) in
      let ln : m.landed ≡ 0 = z.landed-is ∙ barrier-lands g a in
      let wm : m.want ≡ [] = z.want_is in
      let en : ends_of g a is_barrier 0 ≡ ended_by a (barrier_ran a) = barrier-ends g a 0 in
      record {
        answer-is = sym (z.answer-is ∙ ap (λ (e : Ending). e.answer) en);
        operations-is = refl;
        marks-kept = refl;
        stop_is = sym (z.stop_is ∙ ap (λ (e : Ending). e.stop) en);
        place_is = rw (wm, ln);
        withheld-is = rw (wm, ln);
        media-is = rw (z.offset-is, ln);
        media-long = refl;
        copy_is = rw (wm, ln, z.offset-is) (sym (overlaid-none s.copy 0));
        copy-fits = rw (wm, z.offset-is) (omega arith);
        landed-le = rw (ln, wm) (omega arith);
        entry = barrier_entry (ended_by a (barrier_ran a)).answer;
        log_is = refl;
        kind-is = ap kind_code (sym z.kind-is);
        offset-is = sym z.offset-is;
        len_is = sym (ap length wm);
        change-is = rw ln;
        answered-is = ap (λ (k : ℕ). flag (eqb k 0)) (sym (z.answer-is ∙ ap (λ (e : Ending). e.answer) en));
        marks-same = refl;
      }
