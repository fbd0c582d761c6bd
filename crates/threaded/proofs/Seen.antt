-- The ledger sees of an operation only what its rule asks: lists of which the same is seen have the same ledger.
--     ledger-map       the ledger of a map of a list asks through the map
--     ledger-seen      the ledger of a list is that of what is seen of it
-- Assumes nothing.
use mathlib.Core.Path.{◌≡◌, refl, sym, ap, ap₂, ◌∙◌}
use mathlib.Core.Bool.{Bool, true, false, cond, ◌&&◌, ◌||◌}
use mathlib.Core.List.{List, [], ◌∷◌, ◌++◌, map, map-append}
use Prim.Native.Nat.{ℕ, zero, suc, ◌-◌}
use lib.ListN.{length, take, drop, length-map}
use Rattle.model.specs.Ledger.{Entry}
use Rattle.records.specs.Records.{any, Label, begin, end, RecordMark, Asked, record_at, next_place, records_to, behind, judged, entry_by, ledger_by}

module _ {A B : Type 0} (f : A → B) where
  map-take : (n : ℕ) (xs : List A) → take n (map f xs) ≡ map f (take n xs)
  map-take zero xs = refl
  map-take (suc n) [] = refl
  map-take (suc n) (x ∷ xs) = ap {B = List B} (λ r. f x ∷ r) (map-take n xs)

  map-drop : (n : ℕ) (xs : List A) → drop n (map f xs) ≡ map f (drop n xs)
  map-drop zero xs = refl
  map-drop (suc n) [] = refl
  map-drop (suc n) (x ∷ xs) = map-drop n xs

  any-map : (p : B → Bool) (xs : List A) → any p (map f xs) ≡ any (λ x. p (f x)) xs
  unfolding any
  any-map p [] = refl
  any-map p (x ∷ xs) = ap (λ (b : Bool). p (f x) || b) (any-map p xs)

  behind-map : (p : B → Bool) (xs : List A) → behind p (map f xs) ≡ map f (behind (λ x. p (f x)) xs)
  unfolding behind
  behind-map p [] = refl
  behind-map p (x ∷ xs) =
      ap₂ (λ (b : Bool) (r : List B). cond b r (f x ∷ map f xs)) (any-map p (x ∷ xs)) (behind-map p xs) ∙ go (any (λ y. p (f y)) (x ∷ xs))
    where
      go : (b : Bool) → cond b (map f (behind (λ y. p (f y)) xs)) (f x ∷ map f xs) ≡ map f (cond b (behind (λ y. p (f y)) xs) (x ∷ xs))
      go true = refl
      go false = refl

  -- the tests asked through the map
  abbrev pub through : Asked B → Asked A
  through q = record {
    writes = λ (x : A). q.writes (f x);
    changed = λ (x : A). q.changed (f x);
    withheld = λ (x : A). q.withheld (f x);
    orders = λ (x : A). q.orders (f x);
  }

  entry-map : (q : Asked B) (id : ℕ) (own later : List A)
      → entry_by q (record { id = id; own = map f own; later = map f later }) ≡ entry_by (through q) (record { id = id; own = own; later = later })
  unfolding entry_by
  entry-map q id own later =
      let b : any q.orders (behind q.writes (map f own) ++ map f later) ≡ any (λ x. q.orders (f x)) (behind (λ x. q.writes (f x)) own ++ later) =
      ap (λ (l : List B). any q.orders (l ++ map f later)) (behind-map q.writes own)
      ∙ ap (any q.orders) (sym (map-append f (behind (λ x. q.writes (f x)) own) later))
      ∙ any-map q.orders (behind (λ x. q.writes (f x)) own ++ later) in
      λ i. judged id (any-map q.changed own i) (any-map q.withheld own i) (any-map q.writes own i && b i)

  records-map : (q : Asked B) (last : ℕ) (xs : List A) (ms : List RecordMark)
      → map (entry_by q) (records_to last (map f xs) ms) ≡ map (entry_by (through q)) (records_to last xs ms)
  unfolding records_to record_at
  records-map q last xs [] = refl
  records-map q last xs (m ∷ ms) = go m.label (records-map q last xs ms)
    where
      go : (l : Label) → map (entry_by q) (records_to last (map f xs) ms) ≡ map (entry_by (through q)) (records_to last xs ms)
          → map (entry_by q) (record_at (map f xs) l m.place (next_place last ms) ++ records_to last (map f xs) ms)
          ≡ map (entry_by (through q)) (record_at xs l m.place (next_place last ms) ++ records_to last xs ms)
      go end ih = ih
      go (begin id) ih =
          let n : ℕ = next_place last ms - m.place in
          let d : drop m.place (map f xs) ≡ map f (drop m.place xs) = map-drop m.place xs in
          let o : take n (drop m.place (map f xs)) ≡ map f (take n (drop m.place xs)) = ap (take n) d ∙ map-take n (drop m.place xs) in
          let l : drop n (drop m.place (map f xs)) ≡ map f (drop n (drop m.place xs)) = ap (drop n) d ∙ map-drop n (drop m.place xs) in
          ap₂ {C = List Entry} (λ (e : Entry) (es : List Entry). e ∷ es)
          (ap₂ (λ (u v : List B). entry_by q (record { id = id; own = u; later = v })) o l ∙ entry-map q id (take n (drop m.place xs)) (drop n (drop m.place xs)))
          ih

  pub ledger-map : (q : Asked B) (xs : List A) (ms : List RecordMark) → ledger_by q (map f xs) ms ≡ ledger_by (through q) xs ms
  unfolding ledger_by
  ledger-map q xs ms = ap (λ (n : ℕ). map (entry_by q) (records_to n (map f xs) ms)) (length-map xs f) ∙ records-map q (length xs) xs ms

-- what is seen of an operation
pub record Seen : Type 0 where
  pub writes : Bool
  pub changed : Bool
  pub withheld : Bool
  pub orders : Bool

abbrev pub seeing : Asked Seen
seeing = record { writes = λ (x : Seen). x.writes; changed = λ (x : Seen). x.changed; withheld = λ (x : Seen). x.withheld; orders = λ (x : Seen). x.orders }

abbrev pub see : {A : Type 0} → Asked A → A → Seen
see q x = record { writes = q.writes x; changed = q.changed x; withheld = q.withheld x; orders = q.orders x }

pub ledger-seen : {A : Type 0} (q : Asked A) (xs : List A) (ms : List RecordMark) → ledger_by q xs ms ≡ ledger_by seeing (map (see q) xs) ms
ledger-seen q xs ms = sym (ledger-map (see q) seeing xs ms)
