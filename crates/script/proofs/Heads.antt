-- Line 1: what each way out of its readers says of it.
-- Assumes nothing.
use mathlib.Core.Path.{◌≡◌, refl, ap, sym, ◌∙◌}
use mathlib.Core.Bool.{Bool, true, false, not, ◌&&◌, ◌||◌}
use mathlib.Core.List.{List, [], ◌∷◌}
use Prim.Native.Nat.{ℕ, zero, suc, ◌≤◌, ◌<◌}
use native.Mathlib.Nat.{suc-ne-zero}
use native.Mathlib.Omega.{arith}
use lib.ListN.{drop}
use lib.Dec.{eqb, leb}
use borrow.Author.Tests.{ne_eqb, eqb-true, le-leb, lt-leb}
use Rattle.std.proofs.Math.Bool.{and-false}
use Rattle.basics.specs.Tests.{unless, first_of}
use Rattle.basics.proofs.Tests.{first_of-pass, first_of-stop}
use Rattle.storage.specs.declared.Geometry.{Geometry}
use Rattle.storage.specs.Geometry.{geometry_of, geometry_test}
use Rattle.std.specs.Prelude.{Some, None}
use Rattle.text.specs.Fields.{field_to}
use Rattle.text.specs.Numbers.{Decimal, number, none, number_of}
use Rattle.read_fields.specs.Answers.{letter_at, number_at}
use Rattle.script.specs.Calls.{is_kind}
use Rattle.script.specs.First.{no_head, head_is, head_with, headed, head_of, head_test}
use Rattle.script.specs.Inner.{Cells, cells, broken, cells_of, in_front, head_in, FourTaken, Unread, HeadTaken}
use Rattle.script.proofs.Letters.{neither}
use Rattle.script.proofs.Told.{Inner, inner-value, inner-none, inner-letter, inner-same, inner-no-letter, last_letter, last-inside, last-same, last-no-letter}

-- ---- cells with a field in front

front-cells : (f : List ℕ) (C : Cells) (g h : List ℕ) (hs : List (List ℕ)) (rest : List ℕ) → in_front f C ≡ cells g (h ∷ hs) rest → C ≡ cells h hs rest
front-cells f broken g h hs rest e = absurd (let z : ◌≡◌ {A = ℕ} 0 1 = cc in omega arith)
front-cells f (cells x xs r) g h hs rest e = cc

front-field : (f : List ℕ) (C : Cells) (g : List ℕ) (hs : List (List ℕ)) (rest : List ℕ) → in_front f C ≡ cells g hs rest → f ≡ g
front-field f broken g hs rest e = absurd (let z : ◌≡◌ {A = ℕ} 0 1 = cc in omega arith)
front-field f (cells x xs r) g hs rest e = cc

-- only seven fields can be a line 1
head-cells : (C : Cells) → ((k c e p r j w rest : List ℕ) → C ≡ cells k (c ∷ e ∷ p ∷ r ∷ j ∷ w ∷ []) rest → headed k c e p r j w ≡ no_head) → head_in C ≡ no_head
unfolding head_of
head-cells broken n = refl
head-cells (cells k [] rest) n = refl
head-cells (cells k (c ∷ []) rest) n = refl
head-cells (cells k (c ∷ e ∷ []) rest) n = refl
head-cells (cells k (c ∷ e ∷ p ∷ []) rest) n = refl
head-cells (cells k (c ∷ e ∷ p ∷ r ∷ []) rest) n = refl
head-cells (cells k (c ∷ e ∷ p ∷ r ∷ j ∷ []) rest) n = refl
head-cells (cells k (c ∷ e ∷ p ∷ r ∷ j ∷ w ∷ []) rest) n = n k c e p r j w rest refl
head-cells (cells k (c ∷ e ∷ p ∷ r ∷ j ∷ w ∷ f ∷ fs) rest) n = refl

-- ---- a number or a letter that is none

none-capacity : (t : Bool) (e p r : Decimal) (j w : Bool) → head_with t none e p r j w ≡ no_head
none-capacity true e p r j w = refl
none-capacity false e p r j w = refl

none-erase : (t : Bool) (c p r : Decimal) (j w : Bool) → head_with t c none p r j w ≡ no_head
none-erase true (number n) p r j w = refl
none-erase true none p r j w = refl
none-erase false c p r j w = refl

none-program : (t : Bool) (c e r : Decimal) (j w : Bool) → head_with t c e none r j w ≡ no_head
none-program true (number n) (number m) r j w = refl
none-program true (number n) none r j w = refl
none-program true none e r j w = refl
none-program false c e r j w = refl

none_read : (t : Bool) (c e p : Decimal) (j w : Bool) → head_with t c e p none j w ≡ no_head
none_read true (number n) (number m) (number o) j w = refl
none_read true (number n) (number m) none j w = refl
none_read true (number n) none p j w = refl
none_read true none e p j w = refl
none_read false c e p j w = refl

not-kind : (n : ℕ) (f : List ℕ) → ((x : ℕ) → f ≡ x ∷ [] → ⊥) → is_kind n f ≡ false
not-kind n [] h = refl
not-kind n (x ∷ []) h = absurd (h x refl)
not-kind n (x ∷ y ∷ f) h = refl

module _ (k c e p r j w : List ℕ) where
  bad-capacity : number_of c ≡ none → headed k c e p r j w ≡ no_head
  unfolding headed
  bad-capacity n = rw n (none-capacity (is_kind 71 k && ((is_kind 97 j || is_kind 114 j) && (is_kind 115 w || is_kind 99 w))) (number_of e) (number_of p) (number_of r) (is_kind 114 j) (is_kind 99 w))

  bad-erase : number_of e ≡ none → headed k c e p r j w ≡ no_head
  unfolding headed
  bad-erase n = rw n (none-erase (is_kind 71 k && ((is_kind 97 j || is_kind 114 j) && (is_kind 115 w || is_kind 99 w))) (number_of c) (number_of p) (number_of r) (is_kind 114 j) (is_kind 99 w))

  bad-program : number_of p ≡ none → headed k c e p r j w ≡ no_head
  unfolding headed
  bad-program n = rw n (none-program (is_kind 71 k && ((is_kind 97 j || is_kind 114 j) && (is_kind 115 w || is_kind 99 w))) (number_of c) (number_of e) (number_of r) (is_kind 114 j) (is_kind 99 w))

  bad-read : number_of r ≡ none → headed k c e p r j w ≡ no_head
  unfolding headed
  bad-read n = rw n (none_read (is_kind 71 k && ((is_kind 97 j || is_kind 114 j) && (is_kind 115 w || is_kind 99 w))) (number_of c) (number_of e) (number_of p) (is_kind 114 j) (is_kind 99 w))

  bad_kind : is_kind 71 k ≡ false → headed k c e p r j w ≡ no_head
  unfolding headed
  bad_kind n = rw n

  bad-rule : is_kind 97 j ≡ false → is_kind 114 j ≡ false → headed k c e p r j w ≡ no_head
  unfolding headed
  bad-rule n m = rw (n, m, and-false (is_kind 71 k))

  bad-mode : is_kind 115 w ≡ false → is_kind 99 w ≡ false → headed k c e p r j w ≡ no_head
  unfolding headed
  bad-mode n m = rw (n, m, and-false (is_kind 97 j || is_kind 114 j), and-false (is_kind 71 k))

-- ---- the four numbers

module _ (s : List ℕ) (at : ℕ) where
  pub units-no-capacity : None ≡ number_at at (field_to 9 (drop at s)) → Unread s at
  units-no-capacity q = record { is_none = λ k c e p r j w rest x. bad-capacity k c e p r j w (inner-none s at q c e (p ∷ r ∷ j ∷ w ∷ []) rest x) }

  module _ (v₁ a₁ : ℕ) (q₁ : Some (v₁, a₁) ≡ number_at at (field_to 9 (drop at s))) where
    i₁ : Inner s at v₁ a₁
    i₁ = inner-value s at v₁ a₁ q₁

    past₁ : (c e : List ℕ) (es : List (List ℕ)) (rest : List ℕ) → cells_of (drop at s) ≡ cells c (e ∷ es) rest → cells_of (drop a₁ s) ≡ cells e es rest
    past₁ c e es rest x = front-cells i₁.f (cells_of (drop a₁ s)) c e es rest (sym i₁.is ∙ x)

    pub units-no-erase : None ≡ number_at a₁ (field_to 9 (drop a₁ s)) → Unread s at
    units-no-erase q = record { is_none = λ k c e p r j w rest x. bad-erase k c e p r j w (inner-none s a₁ q e p (r ∷ j ∷ w ∷ []) rest (past₁ c e (p ∷ r ∷ j ∷ w ∷ []) rest x)) }

    module _ (v₂ a₂ : ℕ) (q₂ : Some (v₂, a₂) ≡ number_at a₁ (field_to 9 (drop a₁ s))) where
      i₂ : Inner s a₁ v₂ a₂
      i₂ = inner-value s a₁ v₂ a₂ q₂

      past₂ : (c e p : List ℕ) (ps : List (List ℕ)) (rest : List ℕ) → cells_of (drop at s) ≡ cells c (e ∷ p ∷ ps) rest → cells_of (drop a₂ s) ≡ cells p ps rest
      past₂ c e p ps rest x = front-cells i₂.f (cells_of (drop a₂ s)) e p ps rest (sym i₂.is ∙ past₁ c e (p ∷ ps) rest x)

      pub units-no-program : None ≡ number_at a₂ (field_to 9 (drop a₂ s)) → Unread s at
      units-no-program q = record { is_none = λ k c e p r j w rest x. bad-program k c e p r j w (inner-none s a₂ q p r (j ∷ w ∷ []) rest (past₂ c e p (r ∷ j ∷ w ∷ []) rest x)) }

      module _ (v₃ a₃ : ℕ) (q₃ : Some (v₃, a₃) ≡ number_at a₂ (field_to 9 (drop a₂ s))) where
        i₃ : Inner s a₂ v₃ a₃
        i₃ = inner-value s a₂ v₃ a₃ q₃

        past₃ : (c e p r : List ℕ) (rs : List (List ℕ)) (rest : List ℕ) → cells_of (drop at s) ≡ cells c (e ∷ p ∷ r ∷ rs) rest → cells_of (drop a₃ s) ≡ cells r rs rest
        past₃ c e p r rs rest x = front-cells i₃.f (cells_of (drop a₃ s)) p r rs rest (sym i₃.is ∙ past₂ c e p (r ∷ rs) rest x)

        pub units-no-read : None ≡ number_at a₃ (field_to 9 (drop a₃ s)) → Unread s at
        units-no-read q = record { is_none = λ k c e p r j w rest x. bad-read k c e p r j w (inner-none s a₃ q r j (w ∷ []) rest (past₃ c e p r (j ∷ w ∷ []) rest x)) }

        pub units-four : (v₄ a₄ : ℕ) → Some (v₄, a₄) ≡ number_at a₃ (field_to 9 (drop a₃ s)) → FourTaken s at (geometry_of v₁ v₂ v₃ v₄) a₄
        units-four v₄ a₄ q₄ =
            let i₄ = inner-value s a₃ v₄ a₄ q₄ in
            let f₁ = i₁.forward in
            let f₂ = i₂.forward in
            let f₃ = i₃.forward in
            let f₄ = i₄.forward in
            record {
              capacity = i₁.f;
              erase = i₂.f;
              program = i₃.f;
              read = i₄.f;
              is = i₁.is ∙ ap (in_front i₁.f) (i₂.is ∙ ap (in_front i₂.f) (i₃.is ∙ ap (in_front i₃.f) i₄.is));
              capacity-is = i₁.number_is;
              erase-is = i₂.number_is;
              program-is = i₃.number_is;
              read_is = i₄.number_is;
              forward = omega arith;
              inside = i₄.inside;
            }

-- ---- two letters of which one must be there

either : (t u : Bool) → (not t && not u) ≡ false → (t || u) ≡ true
either true u e = refl
either false true e = refl
either false false e = absurd (let z : ◌≡◌ {A = ℕ} 0 1 = cc in omega arith)

above-by : (t u : Bool) (x a b : ℕ) → 10 < a → 10 < b → eqb x a ≡ t → eqb x b ≡ u → (t || u) ≡ true → 10 < x
above-by true u x a b h k p q e = let z : x ≡ a = eqb-true x a p in omega arith
above-by false true x a b h k p q e = let z : x ≡ b = eqb-true x b q in omega arith
above-by false false x a b h k p q e = absurd (let z : ◌≡◌ {A = ℕ} 0 1 = cc in omega arith)

-- ---- the whole line

module _ (s : List ℕ) where
  pub head-no-kind : None ≡ letter_at 0 (field_to 9 (drop 0 s)) → head_in (cells_of s) ≡ no_head
  head-no-kind q = head-cells (cells_of s) (λ k c e p r j w rest x. bad_kind k c e p r j w (not-kind 71 k (inner-no-letter s 0 q k c (e ∷ p ∷ r ∷ j ∷ w ∷ []) rest x)))

  module _ (kind at : ℕ) (q₁ : Some (kind, at) ≡ letter_at 0 (field_to 9 (drop 0 s))) where
    pub head-other : (kind ≡ 71 → ⊥) → head_in (cells_of s) ≡ no_head
    head-other n = head-cells (cells_of s) (λ k c e p r j w rest x. bad_kind k c e p r j w (ap (is_kind 71) (inner-same s 0 kind at q₁ k c (e ∷ p ∷ r ∷ j ∷ w ∷ []) rest x) ∙ ne_eqb kind 71 n))

    module _ (g : kind ≡ 71) where
      after-kind : cells_of s ≡ in_front (71 ∷ []) (cells_of (drop at s))
      after-kind = inner-letter s 0 kind at q₁ (omega arith) ∙ rw g

      pub head-no-units : Unread s at → head_in (cells_of s) ≡ no_head
      head-no-units u = head-cells (cells_of s) (λ k c e p r j w rest x. u.is_none k c e p r j w rest (front-cells (71 ∷ []) (cells_of (drop at s)) k c (e ∷ p ∷ r ∷ j ∷ w ∷ []) rest (sym after-kind ∙ x)))

      module _ (geometry : Geometry) (a₂ : ℕ) (u : FourTaken s at geometry a₂) where
        after-units : cells_of s ≡ in_front (71 ∷ []) (in_front u.capacity (in_front u.erase (in_front u.program (in_front u.read (cells_of (drop a₂ s))))))
        after-units = after-kind ∙ ap (in_front (71 ∷ [])) u.is

        -- what is left after the four numbers
        left : (k c e p r j : List ℕ) (ws : List (List ℕ)) (rest : List ℕ) → cells_of s ≡ cells k (c ∷ e ∷ p ∷ r ∷ j ∷ ws) rest → cells_of (drop a₂ s) ≡ cells j ws rest
        left k c e p r j ws rest x =
            let x₁ = front-cells (71 ∷ []) _ k c (e ∷ p ∷ r ∷ j ∷ ws) rest (sym after-units ∙ x) in
            let x₂ = front-cells u.capacity _ c e (p ∷ r ∷ j ∷ ws) rest x₁ in
            let x₃ = front-cells u.erase _ e p (r ∷ j ∷ ws) rest x₂ in
            let x₄ = front-cells u.program _ p r (j ∷ ws) rest x₃ in
            front-cells u.read _ r j ws rest x₄

        pub head-no-rule : None ≡ letter_at a₂ (field_to 9 (drop a₂ s)) → head_in (cells_of s) ≡ no_head
        head-no-rule q =
            head-cells (cells_of s) (λ k c e p r j w rest x.
            let n = inner-no-letter s a₂ q j w [] rest (left k c e p r j (w ∷ []) rest x) in
            bad-rule k c e p r j w (not-kind 97 j n) (not-kind 114 j n))

        module _ (rule a₃ : ℕ) (q₂ : Some (rule, a₃) ≡ letter_at a₂ (field_to 9 (drop a₂ s))) where
          pub head-other-rule : (not (eqb rule 97) && not (eqb rule 114)) ≡ true → head_in (cells_of s) ≡ no_head
          head-other-rule n =
              let t = neither (eqb rule 97) (eqb rule 114) n in
              head-cells (cells_of s) (λ k c e p r j w rest x.
              let y : j ≡ rule ∷ [] = inner-same s a₂ rule a₃ q₂ j w [] rest (left k c e p r j (w ∷ []) rest x) in
              bad-rule k c e p r j w (ap (is_kind 97) y ∙ t.0) (ap (is_kind 114) y ∙ t.1))

          module _ (n : (not (eqb rule 97) && not (eqb rule 114)) ≡ false) where
            rule-above : 10 < rule
            rule-above = above-by (eqb rule 97) (eqb rule 114) rule 97 114 (omega arith) (omega arith) refl refl (either (eqb rule 97) (eqb rule 114) n)

            after-rule : cells_of (drop a₂ s) ≡ in_front (rule ∷ []) (cells_of (drop a₃ s))
            after-rule = inner-letter s a₂ rule a₃ q₂ rule-above

            last-left : (k c e p r j w : List ℕ) (rest : List ℕ) → cells_of s ≡ cells k (c ∷ e ∷ p ∷ r ∷ j ∷ w ∷ []) rest → cells_of (drop a₃ s) ≡ cells w [] rest
            last-left k c e p r j w rest x = front-cells (rule ∷ []) (cells_of (drop a₃ s)) j w [] rest (sym after-rule ∙ left k c e p r j (w ∷ []) rest x)

            pub head-no-mode : None ≡ letter_at a₃ (field_to 10 (drop a₃ s)) → head_in (cells_of s) ≡ no_head
            head-no-mode q =
                head-cells (cells_of s) (λ k c e p r j w rest x.
                let m = last-no-letter s a₃ q w rest (last-left k c e p r j w rest x) in
                bad-mode k c e p r j w (not-kind 115 w m) (not-kind 99 w m))

            module _ (mode next : ℕ) (q₃ : Some (mode, next) ≡ letter_at a₃ (field_to 10 (drop a₃ s))) where
              pub head-other-mode : (not (eqb mode 115) && not (eqb mode 99)) ≡ true → head_in (cells_of s) ≡ no_head
              head-other-mode m =
                  let t = neither (eqb mode 115) (eqb mode 99) m in
                  head-cells (cells_of s) (λ k c e p r j w rest x.
                  let y : w ≡ mode ∷ [] = last-same s a₃ mode next q₃ w rest (last-left k c e p r j w rest x) in
                  bad-mode k c e p r j w (ap (is_kind 115) y ∙ t.0) (ap (is_kind 99) y ∙ t.1))

              pub head-given : (not (eqb mode 115) && not (eqb mode 99)) ≡ false → HeadTaken s (head_is geometry (eqb rule 114) (eqb mode 99)) next
              unfolding head_of headed
              head-given m =
                  let above : 10 < mode = above-by (eqb mode 115) (eqb mode 99) mode 115 99 (omega arith) (omega arith) refl refl (either (eqb mode 115) (eqb mode 99) m) in
                  record {
                    field = 71 ∷ [];
                    others = u.capacity ∷ u.erase ∷ u.program ∷ u.read ∷ (rule ∷ []) ∷ (mode ∷ []) ∷ [];
                    is =
                        after-units
                        ∙ ap (λ (C : Cells). in_front (71 ∷ []) (in_front u.capacity (in_front u.erase (in_front u.program (in_front u.read C)))))
                        (after-rule ∙ ap (in_front (rule ∷ [])) (last_letter s a₃ mode next q₃ above));
                    means = simp (u.capacity-is, u.erase-is, u.program-is, u.read_is, either (eqb rule 97) (eqb rule 114) n, either (eqb mode 115) (eqb mode 99) m);
                    inside = last-inside s a₃ mode next q₃;
                  }

-- ---- the tests of line 1

one-alone : (b : ℕ) → first_of (b ∷ []) ≡ b
unfolding first_of
one-alone zero = refl
one-alone (suc b) = rw (ne_eqb (suc b) 0 (suc-ne-zero b))

module _ (g : Geometry) where
  pub head-units : (n : ℕ) → (n ≡ 0 → ⊥) → n ≡ geometry_test g → n ≡ head_test g
  unfolding head_test
  head-units n z e = e ∙ sym (first_of-stop (geometry_test g) (unless (leb g.capacity 16384) 10 ∷ []) (λ t. z (e ∙ t)))

  size-alone : 0 ≡ geometry_test g → head_test g ≡ unless (leb g.capacity 16384) 10
  unfolding head_test
  size-alone e = first_of-pass (geometry_test g) (unless (leb g.capacity 16384) 10 ∷ []) (sym e) ∙ one-alone (unless (leb g.capacity 16384) 10)

  pub head-large : 0 ≡ geometry_test g → 16384 < g.capacity → 10 ≡ head_test g
  unfolding unless
  head-large e h = sym (size-alone e ∙ rw (lt-leb _ _ h))

  pub head_sound : 0 ≡ geometry_test g → g.capacity ≤ 16384 → 0 ≡ head_test g
  unfolding unless
  head_sound e h = sym (size-alone e ∙ rw (le-leb _ _ h))

-- all of them, for `search (rules, heads)`
pub ruleset heads = (units-no-capacity, units-no-erase, units-no-program, units-no-read, units-four, head-no-kind, head-other, head-no-units, head-no-rule, head-other-rule, head-no-mode, head-other-mode, head-given, head-large, head_sound)
