-- An error that `map_err` tells at a line: what the call answered, by what is answered then. Assumes nothing.
use mathlib.Core.Path.{◌≡◌, refl, ap, sym, ◌∙◌}
use Prim.Native.Nat.{ℕ}
use native.Mathlib.Omega.{arith}
use Rattle.std.specs.Prelude.{Result, Ok, Err, MatchResult, IsErrAnd}
use Rattle.basics.specs.Replies.{number_in}
use Rattle.refusals.specs.Numbers.{number_of}
use Rattle.refusals.specs.declared.Refusal.{Refusal}
use Rattle.script.specs.declared.ScriptError.{ScriptError}
use Rattle.script.specs.Inner.{fault_at}

pub unplaced : (r : Result (Unit {0}) Refusal) (a : Result (Unit {0}) ScriptError) (Q : Refusal → ScriptError → Type 0) → MatchResult r (λ x. a ≡ Ok x) (λ n. IsErrAnd a (Q n))
    → (x : Unit {0}) → a ≡ Ok x → number_in number_of r ≡ 0
unplaced (Ok y) a Q m x e = refl
unplaced (Err n) (Ok z) Q m x e = absurd m
unplaced (Err n) (Err z) Q m x e = absurd (let t : ◌≡◌ {A = ℕ} 0 1 = cc in omega arith)

number_or : Result (Unit {0}) ScriptError → ℕ
number_or (Ok x) = 0
number_or (Err e) = number_of e.refusal

line_or : Result (Unit {0}) ScriptError → ℕ
line_or (Ok x) = 0
line_or (Err e) = e.line

pub placed : (line : ℕ) (r : Result (Unit {0}) Refusal) (a : Result (Unit {0}) ScriptError) (Q : Refusal → ScriptError → Type 0) → MatchResult r (λ x. a ≡ Ok x) (λ n. IsErrAnd a (Q n))
    → ((n : Refusal) (e : ScriptError) → Q n e → e ≡ fault_at n line) → (e : ScriptError) → a ≡ Err e → (number_of e.refusal ≡ number_in number_of r) × (e.line ≡ line)
unfolding number_or line_or
placed line (Ok y) a Q m f e q = absurd (let t : ◌≡◌ {A = ℕ} 0 1 = cc in omega arith)
placed line (Err n) (Ok z) Q m f e q = absurd m
placed line (Err n) (Err z) Q m f e q =
    let w = f n z m in
    (sym (ap number_or q) ∙ ap (λ (x : ScriptError). number_of x.refusal) w, sym (ap line_or q) ∙ ap (λ (x : ScriptError). x.line) w)
