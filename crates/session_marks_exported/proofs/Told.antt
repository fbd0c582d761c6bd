-- What a call that marks answers, as numbers: one law, over what the call was to leave. Assumes nothing.
use mathlib.Core.Path.{◌≡◌, ap, ap₂, ◌∙◌}
use mathlib.Core.List.{List}
use Prim.Native.Nat.{ℕ}
use Rattle.session.specs.declared.Counters.{Counters}
use Rattle.session.specs.Replies.{Called}
use Rattle.session.specs.Log.{Marks}
use Rattle.session.specs.Marks.{Noted, noted}
use Rattle.session_numbers.specs.Numbers.{counters_in}
use Rattle.session_marks_exported.specs.Left.{mark_left, noted_over}

pub marks-told : (call : Counters → Noted) (before c : Counters) → before ≡ c → (reply : Called) (out : Marks) (state left : List ℕ) (n : ℕ)
    → noted reply out ≡ call before
    → (n ≡ reply.answer) × (left ≡ counters_in reply.counters state)
    → mark_left n left out ≡ noted_over state (call c)
marks-told call before c as_before reply out state left n told put =
    ap₂ (λ (a : ℕ) (s : List ℕ). mark_left a s out) put.0 put.1 ∙ ap (λ (x : Noted). noted_over state x) (told ∙ ap call as_before)
