-- The two ways that a program goes, refused or taken, as its definition has them. Assumes nothing.
use mathlib.Core.Path.{◌≡◌}
use mathlib.Core.Bool.{Bool}
use mathlib.Core.List.{List}
use Prim.Native.Nat.{ℕ}
use lib.ListN.{length}
use lib.Dec.{eqb}
use Rattle.basics.specs.Tests.{flag}
use Rattle.digest.specs.Fnv.{digest_of}
use Rattle.session.specs.declared.Told.{Told}
use Rattle.session.specs.declared.Counters.{Counters}
use Rattle.session.specs.Replies.{Plan}
use Rattle.session.specs.Log.{Log, logged}
use Rattle.session.specs.Tests.{log_test}
use Rattle.session.specs.Written.{Landing, written}
use Rattle.session.proofs.Writing.{call-refused, call-taken, landed-so}
use Rattle.session_program.specs.Program.{program_number, program_plan, program_landing, program_entry, program_call}

module _ (t : Told) (c : Counters) (offset : ℕ) (bytes media copy : List ℕ) (l : Log) (n : ℕ)
    (e : n ≡ program_number t c offset bytes media (length copy) (log_test l)) where
  pub program-refused : (n ≡ 0 → ⊥) → written (record { answer = n; counters = c }) media copy l ≡ program_call t c offset bytes media copy l
  unfolding program_call
  program-refused h = call-refused c media copy l _ _ n e h

  pub program-taken : n ≡ 0 → (plan : Plan) (media' copy' : List ℕ) (changed : Bool) (f g d : ℕ) (l' : Log)
      → plan ≡ program_plan t c offset (length bytes)
      → ◌≡◌ {A = Landing} (record { media = media'; copy = copy'; changed = changed }) (program_landing offset plan.landed bytes media copy)
      → f ≡ flag changed → g ≡ flag (eqb plan.reply.answer 0) → d ≡ digest_of bytes
      → l' ≡ logged l c.operations (record { kind = 0; offset = offset; len = length bytes; digest = d; changed = f; answered = g })
      → written plan.reply media' copy' l' ≡ program_call t c offset bytes media copy l
  unfolding program_call
  program-taken z plan media' copy' changed f g d l' a w b h v q =
      call-taken c media copy l _ _ n e z _
      (landed-so c l l' (program_entry offset bytes) (λ (k : ℕ). program_landing offset k bytes media copy) plan (program_plan t c offset (length bytes))
      (record { media = media'; copy = copy'; changed = changed }) _ a w (simp (b, h, v)) q)
