-- The ways that a read goes, as its definition has them. Assumes nothing.
use mathlib.Core.Path.{◌≡◌, refl, sym, ap, ◌∙◌}
use mathlib.Core.Bool.{cond}
use mathlib.Core.List.{List, [], ◌∷◌, ◌++◌}
use Prim.Native.Nat.{ℕ, zero, suc}
use native.Mathlib.Nat.{suc-ne-zero}
use lib.ListN.{length}
use lib.Dec.{eqb}
use borrow.Author.Tests.{eq-eqb, ne_eqb}
use Rattle.basics.specs.Tests.{first_of}
use Rattle.basics.specs.Parts.{part}
use Rattle.basics.proofs.Tests.{unless_holds, unless-fails, first_of-pass, first_of-stop}
use Rattle.storage.specs.Geometry.{geometry_test}
use Rattle.storage.specs.Span.{read_test}
use Rattle.device_calls.specs.Calls.{media_test, buffer_test, read_refusal, Called, read_call}
use Rattle.landing.specs.Ending.{stop_number}
use Rattle.session.specs.declared.Told.{Told}
use Rattle.session.specs.declared.Counters.{Counters}
use Rattle.session.specs.Read.{read_number, fetched, fetched_by, read_by}

-- a number that is not 0 refuses, and the buffer stays
refused-by : (number : ℕ) (media : List ℕ) (offset : ℕ) (buffer : List ℕ) → (number ≡ 0 → ⊥) → fetched number buffer ≡ fetched_by number media offset buffer
refused-by number media offset buffer h = simp (ne_eqb number 0 h)

by-number : (number : ℕ) (media : List ℕ) (offset : ℕ) (buffer : List ℕ)
    → fetched number (cond (eqb number 0) (part media offset (length buffer)) buffer) ≡ fetched_by number media offset buffer
by-number zero media offset buffer = refl
by-number (suc n) media offset buffer = simp (ne_eqb (suc n) 0 (suc-ne-zero n))

-- a last test that passes
first_of-last : (ns : List ℕ) (n : ℕ) → n ≡ 0 → first_of (ns ++ (n ∷ [])) ≡ first_of ns
unfolding first_of
first_of-last [] n e = first_of-pass n [] e
first_of-last (m ∷ ms) n e = ap (λ (x : ℕ). cond (eqb m 0) x m) (first_of-last ms n e)

module _ (t : Told) (c : Counters) (media : List ℕ) (offset : ℕ) (buffer : List ℕ) where
  pub read-size : (length media ≡ t.geometry.capacity → ⊥) → fetched 7 buffer ≡ read_by t c media offset buffer
  unfolding read_by read_number
  read-size h =
      let e : media_test t.geometry (length media) ≡ 7 = unless-fails _ 7 (ne_eqb _ _ h) in
      let n = first_of-stop (media_test t.geometry (length media)) _ (λ z. suc-ne-zero 6 (sym e ∙ z)) in
      refused-by 7 media offset buffer (suc-ne-zero 6) ∙ ap (λ (x : ℕ). fetched_by x media offset buffer) (sym (n ∙ e))

  module _ (whole : length media ≡ t.geometry.capacity) (stopped : ℕ) (s : stopped ≡ stop_number c.stop) where
    pub read-stopped : (stopped ≡ 0 → ⊥) → fetched stopped buffer ≡ read_by t c media offset buffer
    unfolding read_by read_number
    read-stopped h =
        let n = first_of-pass _ _ (unless_holds _ 7 (eq-eqb _ _ whole)) ∙ first_of-stop _ _ (λ z. h (s ∙ z)) in
        refused-by stopped media offset buffer h ∙ ap (λ (x : ℕ). fetched_by x media offset buffer) (s ∙ sym n)

    module _ (running : stopped ≡ 0) (n : ℕ) (after : List ℕ) (e : ◌≡◌ {A = Called} (record { reply = n; content = after }) (read_call t.geometry media offset buffer)) where
      number : ℕ
      number = read_refusal t.geometry (length media) offset (length buffer)

      -- the session's tests are then the device's, which have the media's length last
      same_tests : read_number t c (length media) offset (length buffer) ≡ number
      unfolding read_number number read_refusal
      same_tests =
          first_of-pass _ _ (unless_holds _ 7 (eq-eqb _ _ whole)) ∙ first_of-pass _ _ (sym s ∙ running)
          ∙ sym
          (first_of-last
          (geometry_test t.geometry ∷ buffer_test (length buffer) ∷ read_test t.geometry offset (length buffer) ∷ [])
          (media_test t.geometry (length media))
          (unless_holds _ 7 (eq-eqb _ _ whole)))

      pub read_device : fetched n after ≡ read_by t c media offset buffer
      unfolding read_by read_call number
      read_device =
          let p : n ≡ number = ap (λ (x : Called). x.reply) e in
          let q : after ≡ cond (eqb number 0) (part media offset (length buffer)) buffer = ap (λ (x : Called). x.content) e in
          simp (same_tests, p, q) (by-number number media offset buffer)
