-- What only private contracts cite: rows stored from a place on. Definitions only; assumes nothing.
use Rattle.std.specs.Prelude.{List, map, ℕ, ◌+◌, ◌≤◌, length}
use Rattle.std.proofs.lemmas.List.Edits.{sets}
use Rattle.inject.specs.declared.Progress.TheVariants.{Bytes}
use Rattle.inject.specs.declared.Interruption.{Interruption}
use Rattle.inject.specs.declared.Injection.{Injection}
use Rattle.inject.specs.declared.Sequence.{Sequence}
use Rattle.inject.specs.Ops.{ops_of}
use Rattle.inject.specs.Points.{point, under}
use Rattle.inject.specs.Answers.{points_of, progress_code, count_code, interruption_code}
use Rattle.inject.specs.Steps.{steps}
use Rattle.inject_columns.specs.Answers.{PointColumns, columns_of}

-- ---- the points of a list of three columns of one length

-- those of its operations, under an interruption
abbrev pub under_of : Sequence → Interruption → List Injection
under_of s w = under s.geometry w 0 (ops_of s.ops.kinds.now s.ops.offsets.now s.ops.lens.now)

abbrev pub all_of : Sequence → List Injection
all_of s = points_of s.geometry s.ops.kinds.now s.ops.offsets.now s.ops.lens.now

-- ---- rows of the lent columns

-- points stored one to a row, from a place on
unfoldable pub laid : ℕ → List Injection → PointColumns → PointColumns
laid at ps columns =
    columns_of
    (sets columns.ops at (map (λ p. p.op) ps))
    (sets columns.progresses at (map (λ p. progress_code p.progress) ps))
    (sets columns.counts at (map (λ p. count_code p.progress) ps))
    (sets columns.interruptions at (map (λ p. interruption_code p.interruption) ps))

-- one operation's byte points
abbrev pub bytes_at : (op : ℕ) → Interruption → (unit k : ℕ) → List Injection
bytes_at op w unit k = map (point op w) (map Bytes (steps unit k))

-- each column has n rows
pub record Room (n : ℕ) (columns : PointColumns) : Type 0 where
  pub in-ops : n ≤ length columns.ops
  pub in-progresses : n ≤ length columns.progresses
  pub in-counts : n ≤ length columns.counts
  pub in-interruptions : n ≤ length columns.interruptions

-- the place after the last row stored, and the columns
pub record Rows : Type 0 where
  pub next : ℕ
  pub columns : PointColumns

abbrev pub rows : ℕ → PointColumns → Rows
rows next columns = record { next = next; columns = columns }

abbrev pub laid_from : ℕ → List Injection → PointColumns → Rows
laid_from at ps columns = rows (at + length ps) (laid at ps columns)
