-- The entries of a ledger.
--     ledger-ids            "The ledger lists the taken begins in order"
--     ledger-either         none is both torn and acknowledged
-- Assumes nothing.
use mathlib.Core.Path.{◌≡◌, refl, ap₂}
use mathlib.Core.Bool.{Bool, true, false, false≢true}
use mathlib.Core.List.{List, [], ◌∷◌, ◌++◌, map}
use Prim.Native.Nat.{ℕ}
use lib.ListN.{length}
use Rattle.model.specs.Ledger.{is_acknowledged, is_torn, ids}
use Rattle.records.specs.Records.{Label, begin, end, RecordMark, Asked, Kept, any, next_place, record_at, records_to, judged, followed, entry_by, ledger_by}
use Rattle.plain.specs.Plain.{Op, Run}
use Rattle.plain.specs.Ledger.{asked, records, ledger, id_of, begun}
use Rattle.plain.proofs.Histories.{TornOrAcknowledged}

-- ---- ids

judged-id : (id : ℕ) (c w f : Bool) → (judged id c w f).id ≡ id
unfolding judged
judged-id id false w f = refl
judged-id id true true f = refl
judged-id id true false true = refl
judged-id id true false false = refl

pub entry-id : {A : Type 0} (q : Asked A) (r : Kept A) → (entry_by q r).id ≡ r.id
unfolding entry_by
entry-id q r =
    judged-id r.id (any q.changed r.own) (any q.withheld r.own) (followed q r)

records-ids : {A : Type 0} (q : Asked A) (last : ℕ) (ops : List A) (ms : List RecordMark) → ids (map (entry_by q) (records_to last ops ms)) ≡ begun ms
unfolding records_to record_at begun ids
records-ids q last ops [] = refl
records-ids {A} q last ops (m ∷ ms) = go m.label (records-ids q last ops ms)
  where
    go : (l : Label) → ids (map (entry_by q) (records_to last ops ms)) ≡ begun ms
        → ids (map (entry_by q) (record_at ops l m.place (next_place last ms) ++ records_to last ops ms)) ≡ id_of l (begun ms)
    go (begin id) ih = ap₂ {C = List ℕ} (λ (x : ℕ) (rest : List ℕ). x ∷ rest) (entry-id q (record { id = id; own = _; later = _ })) ih
    go end ih = ih

pub ledger-ids : (r : Run) → ids (ledger r) ≡ begun r.marks
unfolding ledger ledger_by
ledger-ids r = records-ids (asked r.media) (length r.ops) r.ops r.marks

-- ---- torn or acknowledged

judged-either : (id : ℕ) (c w f : Bool) → is_torn (judged id c w f) ≡ true → is_acknowledged (judged id c w f) ≡ false
unfolding judged
judged-either id false w f t = refl
judged-either id true true f t = refl
judged-either id true false true t = absurd (false≢true t)
judged-either id true false false t = refl

entries-either : (q : Asked Op) (rs : List (Kept Op)) → TornOrAcknowledged (map (entry_by q) rs)
unfolding entry_by
entries-either q [] = tt
entries-either q (r ∷ rs) = (
  judged-either r.id (any q.changed r.own) (any q.withheld r.own) (followed q r),
  entries-either q rs,
)

pub ledger-either : (r : Run) → TornOrAcknowledged (ledger r)
unfolding ledger ledger_by
ledger-either r = entries-either (asked r.media) (records r)
