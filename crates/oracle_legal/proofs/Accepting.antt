-- Each test of the verdict against what it says of every id: it accepts exactly if that holds.
--     none_seen, seen_none              31: no id stands twice
--     none-faulty, faulty-none          33 and 34: no recovered id is attempted or torn
--     nowhere-beginning, beginning-nowhere       32: the history begins the committed ids
--     none-lost, lost-none              35 and 36: every wanted id is recovered
--     banks-pass, pass-banks            37 and 38: the bank count is absent or one
-- Assumes nothing.
use mathlib.Core.Path.{◌≡◌, refl, sym, ap, ap₂, ◌∙◌}
use mathlib.Core.Logic.{⊎_elim}
use mathlib.Core.Bool.{Bool, true, false, cond}
use mathlib.Core.List.Memᴰ
use mathlib.Core.List.{List, [], ◌∷◌, ◌++◌, map, Memᴰ}
use Prim.Native.Nat.{ℕ, ◌+◌}
use lib.Dec.{eqb}
use borrow.Author.Tests.{eq-eqb, eqb-true}
use Rattle.model.specs.Ledger.{Entry, is_attempted, is_torn, lookup, passes}
use Rattle.id_columns.specs.Ids.{has, Distinct}
use Rattle.id_columns.proofs.Members.{in-has, has_in, out-has, not-both}
use Rattle.std.specs.Prelude.{Option, None, Some, None as Absent, Some as Count, Err}
use Rattle.oracle.specs.Verdict.{Verdict, Accepted, Banks, first_breach, seen_before, rising, fault_of, first_fault, differs, unrecovered, first_lost, banks_breach}
use Rattle.oracle_legal.specs.Legal.{Beginning, Holds, AbsentOrOne}
use Rattle.oracle.specs.declared.Breach.{Breach}
use Rattle.oracle.specs.declared.Breach.TheVariants.{DuplicateRecordId, NotAPrefix, RecoveredWhatWasNeverAttempted, RecoveredATornRecord, NoAuthoritativeBank, AmbiguousAuthority}
use Rattle.oracle.proofs.Breaches.{breach-past, breach-none, not-accepted}
use Rattle.oracle.proofs.Least.{in-rising, rising-in}

-- ---- a test over a list accepts exactly if it accepts every element

module _ (test : ℕ → Verdict) where
  pub all_of : (xs : List ℕ) → first_breach (map test xs) ≡ Accepted → (x : ℕ) → Memᴰ x xs → test x ≡ Accepted
  all_of [] e x m = absurd (Memᴰ.not-nil m)
  all_of (y ∷ ys) e x m =
      let p : (test y ≡ Accepted) × (first_breach (map test ys) ≡ Accepted) = breach-none (test y) (map test ys) e in
      ⊎_elim (λ (q : x ≡ y). ap test q ∙ p.0) (λ (m' : Memᴰ x ys). all_of ys p.1 x m') (Memᴰ.cases_cons m)

  pub of-all : (xs : List ℕ) → ((x : ℕ) → Memᴰ x xs → test x ≡ Accepted) → first_breach (map test xs) ≡ Accepted
  unfolding first_breach
  of-all [] g = refl
  of-all (y ∷ ys) g = breach-past (test y) (map test ys) (g y (Memᴰ.head refl)) ∙ of-all ys (λ x m. g x (Memᴰ.tail m))

-- ---- 31

pick-31 : (b : Bool) (x : ℕ) (v : Verdict) → cond b (Err (DuplicateRecordId x)) v ≡ Accepted → (b ≡ false) × (v ≡ Accepted)
pick-31 true x v e = absurd (not-accepted (DuplicateRecordId x) e)
pick-31 false x v e = (refl, e)

pub none_seen : (seen xs : List ℕ) → seen_before seen xs ≡ Accepted → Distinct xs × ((x : ℕ) → Memᴰ x xs → Memᴰ x seen → ⊥)
unfolding seen_before
none_seen seen [] e = (tt, λ x m s. Memᴰ.not-nil m)
none_seen seen (y ∷ ys) e =
    let p : (has seen y ≡ false) × (seen_before (seen ++ (y ∷ [])) ys ≡ Accepted) = pick-31 (has seen y) y (seen_before (seen ++ (y ∷ [])) ys) e in
    let r : Distinct ys × ((x : ℕ) → Memᴰ x ys → Memᴰ x (seen ++ (y ∷ [])) → ⊥) = none_seen (seen ++ (y ∷ [])) ys p.1 in (
      ((λ m. r.1 y m (Memᴰ.append_right seen (Memᴰ.head refl))), r.0),
      λ x m s. ⊎_elim
          (λ (q : x ≡ y). not-both (in-has y seen (Memᴰ.cast (sym q) s)) p.0)
          (λ (m' : Memᴰ x ys). r.1 x m' (Memᴰ.append_left (y ∷ []) s))
          (Memᴰ.cases_cons m),
    )

pub seen_none : (seen xs : List ℕ) → Distinct xs → ((x : ℕ) → Memᴰ x xs → Memᴰ x seen → ⊥) → seen_before seen xs ≡ Accepted
unfolding seen_before
seen_none seen [] d n = refl
seen_none seen (y ∷ ys) d n =
    let f : has seen y ≡ false = out-has y seen (n y (Memᴰ.head refl)) in
    let r : seen_before (seen ++ (y ∷ [])) ys ≡ Accepted = seen_none (seen ++ (y ∷ [])) ys d.1
    (λ x m s. ⊎_elim (λ (s' : Memᴰ x seen). n x (Memᴰ.tail m) s') (λ (s' : Memᴰ x (y ∷ [])). d.0 (Memᴰ.cast (sym (Memᴰ.eq_of_singleton s')) m)) (Memᴰ.append_cases seen s)) in
    simp (f, r)

-- ---- 33 and 34

pick-33 : (a t : Bool) (x : ℕ) → cond a (Err (RecoveredWhatWasNeverAttempted x)) (cond t (Err (RecoveredATornRecord x)) Accepted) ≡ Accepted → (a ≡ false) × (t ≡ false)
pick-33 true t x e = absurd (not-accepted (RecoveredWhatWasNeverAttempted x) e)
pick-33 false true x e = absurd (not-accepted (RecoveredATornRecord x) e)
pick-33 false false x e = (refl, refl)

neither : (l : List Entry) (x : ℕ) → passes is_attempted (lookup x l) ≡ false → passes is_torn (lookup x l) ≡ false → fault_of l x ≡ Accepted
unfolding fault_of
neither l x a t = ap₂ (λ (a t : Bool). cond a (Err (RecoveredWhatWasNeverAttempted x)) (cond t (Err (RecoveredATornRecord x)) Accepted)) a t

module _ (l : List Entry) (h : List ℕ) where
  pub none-faulty : first_fault l h ≡ Accepted → (x : ℕ) → Memᴰ x h → (passes is_attempted (lookup x l) ≡ false) × (passes is_torn (lookup x l) ≡ false)
  unfolding first_fault fault_of
  none-faulty e x m = pick-33 (passes is_attempted (lookup x l)) (passes is_torn (lookup x l)) x (all_of (fault_of l) (rising h) e x (rising-in h x m))

  pub faulty-none : ((x : ℕ) → Memᴰ x h → (passes is_attempted (lookup x l) ≡ false) × (passes is_torn (lookup x l) ≡ false)) → first_fault l h ≡ Accepted
  unfolding first_fault
  faulty-none g = of-all (fault_of l) (rising h) (λ x m. neither l x (g x (in-rising h x m)).0 (g x (in-rising h x m)).1)

-- ---- 32

pick-32 : (b : Bool) (v : Verdict) (p : ℕ) (o : Option ℕ) (f : ℕ) → cond b v (Err (NotAPrefix p o f)) ≡ Accepted → (b ≡ true) × (v ≡ Accepted)
pick-32 true v p o f e = (refl, e)
pick-32 false v p o f e = absurd (not-accepted (NotAPrefix p o f) e)

pub nowhere-beginning : (p : ℕ) (cs h : List ℕ) → differs p cs h ≡ Accepted → Beginning h cs
unfolding differs
nowhere-beginning p cs [] e = record { rest = cs; joined = refl }
nowhere-beginning p [] (x ∷ xs) e = absurd (not-accepted (NotAPrefix p None x) e)
nowhere-beginning p (c ∷ cs) (x ∷ xs) e =
    let q : (eqb c x ≡ true) × (differs (p + 1) cs xs ≡ Accepted) = pick-32 (eqb c x) (differs (p + 1) cs xs) p (Some c) x e in
    let b : Beginning xs cs = nowhere-beginning (p + 1) cs xs q.1 in
    record { rest = b.rest; joined = ap₂ (λ (a : ℕ) (l : List ℕ). a ∷ l) (sym (eqb-true c x q.0)) b.joined }

same-nowhere : (p : ℕ) (h rest : List ℕ) → differs p (h ++ rest) h ≡ Accepted
unfolding differs
same-nowhere p [] rest = refl
same-nowhere p (x ∷ xs) rest = simp (eq-eqb x x refl, same-nowhere (p + 1) xs rest)

pub beginning-nowhere : (p : ℕ) (cs h : List ℕ) → Beginning h cs → differs p cs h ≡ Accepted
beginning-nowhere p cs h b = ap (λ (l : List ℕ). differs p l h) (sym b.joined) ∙ same-nowhere p h b.rest

-- ---- 35 and 36: a breach that is one

module _ (breach : ℕ → Breach) (h : List ℕ) where
  pick-35 : (x : ℕ) (b : Bool) → cond b Accepted (Err (breach x)) ≡ Accepted → b ≡ true
  pick-35 x true e = refl
  pick-35 x false e = absurd (not-accepted (breach x) e)

  pub none-lost : (wanted : List ℕ) → first_lost breach h wanted ≡ Accepted → Holds h wanted
  unfolding first_lost unrecovered
  none-lost wanted e x m = has_in x h (pick-35 x (has h x) (all_of (unrecovered breach h) wanted e x m))

  pub lost-none : (wanted : List ℕ) → Holds h wanted → first_lost breach h wanted ≡ Accepted
  unfolding first_lost unrecovered
  lost-none wanted g = of-all (unrecovered breach h) wanted (λ x m. rw (in-has x h (g x m)))

-- ---- 37 and 38

pick-37 : (n : ℕ) (a b : Bool) → eqb n 1 ≡ b → cond a (Err NoAuthoritativeBank) (cond b Accepted (Err (AmbiguousAuthority n))) ≡ Accepted → n ≡ 1
pick-37 n true b t e = absurd (not-accepted NoAuthoritativeBank e)
pick-37 n false true t e = eqb-true n 1 t
pick-37 n false false t e = absurd (not-accepted (AmbiguousAuthority n) e)

pub banks-pass : (b : Banks) → banks_breach b ≡ Accepted → AbsentOrOne b
banks-pass Absent e = tt
banks-pass (Count n) e = pick-37 n (eqb n 0) (eqb n 1) refl e

pub pass-banks : (b : Banks) → AbsentOrOne b → banks_breach b ≡ Accepted
pass-banks Absent t = refl
pass-banks (Count n) e = rw e refl
