-- The device's own calls: from the checks of the code to the number of the definitions, and from the number to what is left.
--     counted-long, counted-short, counted-err, counted-ok     a buffer longer than a u32 can count, and any other
--     first-refuses, second-answers                two tests
--     too_long, span-passed                        the number of a call with the one, and with the other
--     long-refused, span-refused, media-refused    the number of a call, from what refuses it
--     refused-call, accepted-call                  what a call leaves
--     program-refused, program-rejected, program-accepted          the same of a program, behind which stands the bit rule
--     read-number, program-number, erase-number    a reply is the number that its call's tests give
-- Assumes nothing.
use mathlib.Core.Path.{◌≡◌, refl, sym, ap, ◌∙◌}
use mathlib.Core.Logic.{⊎_elim}
use mathlib.Core.Bool.{true, false, ◌&&◌}
use mathlib.Core.List.{List, [], ◌∷◌}
use Rattle.std.specs.Prelude.{Result, Ok, Err}
use Prim.Native.Nat.{ℕ, zero, suc, ◌^◌, ◌≤◌, ◌<◌}
use native.Mathlib.Nat.{suc-ne-zero}
use lib.ListN.{length}
use lib.Dec.{eqb}
use borrow.Author.Tests.{ne_eqb, lt-ltb, le-ltb}
use Rattle.basics.specs.Tests.{unless, refuse_if, first_of}
use Rattle.basics.proofs.Tests.{first_of-stop, first_of-pass, first_of-one, le-or-gt}
use Rattle.storage.specs.declared.Geometry.{Geometry}
use Rattle.storage.specs.Geometry.{geometry_test}
use Rattle.storage.specs.Span.{span_test}
use Rattle.device.specs.declared.OneWayBits.{OneWayBits}
use Rattle.device.specs.Media.{would_set_a_bit, programmed}
use Rattle.device.specs.Answers.{rejects}
use Rattle.device_calls.specs.Calls.{media_test, buffer_test, counted, read_refusal, write_refusal, erase_refusal, program_refusal, Called, called, read_call, program_call, erase_call}

-- ---- a buffer longer than a u32 can count, or any other

module _ (g : Geometry) (buffer n : ℕ) where
  pub counted-long : 2 ^ 32 ≤ buffer → n ≡ first_of (geometry_test g ∷ 6 ∷ []) → ◌≡◌ {A = Result ℕ ℕ} (Err n) (counted g buffer)
  counted-long h e = rw (le-ltb buffer (2 ^ 32) h, e)

  pub counted-short : buffer < 2 ^ 32 → n ≡ buffer → ◌≡◌ {A = Result ℕ ℕ} (Ok n) (counted g buffer)
  counted-short h e = rw (lt-ltb buffer (2 ^ 32) h, e)

  pub counted-ok : ◌≡◌ {A = Result ℕ ℕ} (Ok n) (counted g buffer) → (n ≡ buffer) × (buffer < 2 ^ 32)
  counted-ok e = ⊎_elim
      (λ h. absurd (let z : ◌≡◌ {A = Result ℕ ℕ} (Ok n) (Err (first_of (geometry_test g ∷ 6 ∷ []))) = rw (le-ltb buffer (2 ^ 32) h) at e in cc))
      (λ h. let z : ◌≡◌ {A = Result ℕ ℕ} (Ok n) (Ok buffer) = rw (lt-ltb buffer (2 ^ 32) h) at e in (cc, h))
      (le-or-gt (2 ^ 32) buffer)

  pub counted-err : ◌≡◌ {A = Result ℕ ℕ} (Err n) (counted g buffer) → (n ≡ first_of (geometry_test g ∷ 6 ∷ [])) × (2 ^ 32 ≤ buffer)
  counted-err e = ⊎_elim
      (λ h. let z : ◌≡◌ {A = Result ℕ ℕ} (Err n) (Err (first_of (geometry_test g ∷ 6 ∷ []))) = rw (le-ltb buffer (2 ^ 32) h) at e in (cc, h))
      (λ h. absurd (let z : ◌≡◌ {A = Result ℕ ℕ} (Err n) (Ok buffer) = rw (lt-ltb buffer (2 ^ 32) h) at e in cc))
      (le-or-gt (2 ^ 32) buffer)

-- the number of two tests, from the first that refuses
pub first-refuses : (n t m : ℕ) → n ≡ t → (n ≡ 0 → ⊥) → n ≡ first_of (t ∷ m ∷ [])
first-refuses n t m e h = e ∙ sym (first_of-stop t (m ∷ []) (λ z. h (e ∙ z)))

pub second-answers : (n t m : ℕ) → 0 ≡ t → n ≡ m → n ≡ first_of (t ∷ m ∷ [])
second-answers n t m z e = e ∙ sym (first_of-pass t (m ∷ []) (sym z) ∙ first_of-one m)

long_order : (t s m : ℕ) → first_of (t ∷ 6 ∷ []) ≡ first_of (t ∷ 6 ∷ s ∷ m ∷ [])
unfolding first_of
long_order zero s m = refl
long_order (suc t) s m = simp (ne_eqb (suc t) 0 (suc-ne-zero t))

short-order : (t m : ℕ) (rest : List ℕ) → first_of (first_of (t ∷ rest) ∷ m ∷ []) ≡ first_of (t ∷ 0 ∷ first_of (t ∷ rest) ∷ m ∷ [])
unfolding first_of
short-order zero m rest = refl
short-order (suc t) m rest = simp (ne_eqb (suc t) 0 (suc-ne-zero t))

-- a read or a program, against the unit of its call
abbrev pub span_refusal : Geometry → (unit media offset buffer : ℕ) → ℕ
span_refusal g unit media offset buffer = first_of (geometry_test g ∷ buffer_test buffer ∷ span_test g unit offset buffer ∷ media_test g media ∷ [])

module _ (g : Geometry) (unit media offset buffer : ℕ) where
  pub too_long : 2 ^ 32 ≤ buffer → first_of (geometry_test g ∷ 6 ∷ []) ≡ span_refusal g unit media offset buffer
  unfolding unless
  too_long h = rw (le-ltb buffer (2 ^ 32) h) (long_order (geometry_test g) (span_test g unit offset buffer) (media_test g media))

  pub span-passed : buffer < 2 ^ 32 → first_of (span_test g unit offset buffer ∷ media_test g media ∷ []) ≡ span_refusal g unit media offset buffer
  unfolding unless span_test
  span-passed h = rw (lt-ltb buffer (2 ^ 32) h) (short-order (geometry_test g) (media_test g media) _)

  -- the buffer, the span and the media, in the code's order; where none refuses, `media-refused` with 0
  pub long-refused : (n : ℕ) → ◌≡◌ {A = Result ℕ ℕ} (Err n) (counted g buffer) → n ≡ span_refusal g unit media offset buffer
  long-refused n e = let t = counted-err g buffer n e in t.0 ∙ too_long t.1

  module _ (len : ℕ) (told : ◌≡◌ {A = Result ℕ ℕ} (Ok len) (counted g buffer)) where
    pub span-refused : (n : ℕ) → n ≡ span_test g unit offset len → (n ≡ 0 → ⊥) → n ≡ span_refusal g unit media offset buffer
    span-refused n e h =
        let t = counted-ok g buffer len told in
        let s : n ≡ span_test g unit offset buffer = e ∙ ap (span_test g unit offset) t.0 in
        first-refuses n _ (media_test g media) s h ∙ span-passed t.1

    pub media-refused : (n : ℕ) → 0 ≡ span_test g unit offset len → n ≡ media_test g media → n ≡ span_refusal g unit media offset buffer
    media-refused n e m =
        let t = counted-ok g buffer len told in
        let s : 0 ≡ span_test g unit offset buffer = e ∙ ap (span_test g unit offset) t.0 in
        second-answers n _ (media_test g media) s m ∙ span-passed t.1

-- ---- what a call leaves

module _ (n number : ℕ) (told : n ≡ number) (before after : List ℕ) where
  pub refused-call : (n ≡ 0 → ⊥) → ◌≡◌ {A = Called} (record { reply = n; content = before }) (called number before after)
  refused-call h = let d : eqb number 0 ≡ false = ne_eqb number 0 (λ z. h (told ∙ z)) in rw (d, told)

pub accepted-call : (number : ℕ) → 0 ≡ number → (before after left : List ℕ) → left ≡ after
    → ◌≡◌ {A = Called} (record { reply = 0; content = left }) (called number before after)
accepted-call number told before after left is = rw (← told, is)

-- a program whose lengths and span were checked: then the bit rule
module _ (g : Geometry) (rule : OneWayBits) (media : List ℕ) (offset : ℕ) (src : List ℕ) where
  pub program-refused : (n : ℕ) → n ≡ write_refusal g (length media) offset (length src) → (n ≡ 0 → ⊥)
      → ◌≡◌ {A = Called} (record { reply = n; content = media }) (program_call g rule media offset src)
  unfolding program_call program_refusal
  program-refused n e h =
      let w = write_refusal g (length media) offset (length src) in
      let first : first_of (w ∷ refuse_if (rejects rule && would_set_a_bit media offset src) 20 ∷ []) ≡ w = first_of-stop w _ (λ z. h (e ∙ z)) in
      refused-call n _ (e ∙ sym first) media (programmed media offset src) h

  module _ (passed : 0 ≡ write_refusal g (length media) offset (length src)) where
    pub program-rejected : (rejects rule && would_set_a_bit media offset src) ≡ true
        → ◌≡◌ {A = Called} (record { reply = 20; content = media }) (program_call g rule media offset src)
    unfolding program_call program_refusal first_of refuse_if
    program-rejected b = rw (← passed, b)

    pub program-accepted : (rejects rule && would_set_a_bit media offset src) ≡ false → (after : List ℕ) → after ≡ programmed media offset src
        → ◌≡◌ {A = Called} (record { reply = 0; content = after }) (program_call g rule media offset src)
    unfolding program_call program_refusal first_of refuse_if
    program-accepted b after is = rw (← passed, b, is)

-- ---- a reply is the number that its call's tests give

pub read-number : (g : Geometry) (media : List ℕ) (offset : ℕ) (buffer : List ℕ)
    → (read_call g media offset buffer).reply ≡ read_refusal g (length media) offset (length buffer)
unfolding read_call
read-number g media offset buffer = refl

pub erase-number : (g : Geometry) (media : List ℕ) (offset n : ℕ) → (erase_call g media offset n).reply ≡ erase_refusal g (length media) offset n
unfolding erase_call
erase-number g media offset n = refl

pub program-number : (g : Geometry) (rule : OneWayBits) (media : List ℕ) (offset : ℕ) (src : List ℕ)
    → (program_call g rule media offset src).reply ≡ program_refusal g rule media offset src
unfolding program_call
program-number g rule media offset src = refl
