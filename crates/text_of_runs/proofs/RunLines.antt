-- What is written of a run is its line: the ledger comes out of the columns that the run left.
--     sweep-written     the line of `sweep`
--     judge-history     the suggested history fits a column of 512, and its first rows are it
--     judge-written     the line of `judge`: the verdict on those columns, with nothing dispatched and no bank count
-- Assumes nothing.
use mathlib.Core.Path.{◌≡◌, refl, ap}
use mathlib.Core.Bool.{Bool, true, false, cond, not, ◌&&◌}
use mathlib.Core.List.{List, [], ◌∷◌, ◌++◌}
use Prim.Native.Nat.{ℕ, suc, ◌≤◌, zero-le, suc-le-suc}
use native.Mathlib.Omega.{arith}
use lib.ListN.{length, take, drop}
use lib.Seq.{take_at}
use borrow.Author.Tests.{le-leb}
use Rattle.basics.specs.Tests.{unless, first_of}
use Rattle.basics.specs.Replies.{number_in}
use Rattle.std.specs.Prelude.{Ok as ListIs, None as Absent}
use Rattle.model.specs.Ledger.{Entry, is_committed, is_torn, ids, picked}
use Rattle.model.specs.Columns.{ledger_of, refused}
use Rattle.oracle.specs.Verdict.{Verdict, number_of, verdict, verified}
use Rattle.history.specs.History.{suggested, suggested_written}
use Rattle.lines.specs.Lines.{Shown, sweep_line, judged_line, judge_line}
use Rattle.lines.specs.Answers.{put}
use Rattle.sweep_lines.specs.Answers.{sweep_put}

picked-few : (test : Entry → Bool) (l : List Entry) → length (ids (picked test l)) ≤ length l
unfolding ids picked
picked-few test [] = zero-le
picked-few test (e ∷ es) = go (test e) (picked-few test es)
  where
    go : (b : Bool) → length (ids (picked test es)) ≤ length es → length (ids (cond b (e ∷ picked test es) (picked test es))) ≤ suc (length es)
    go true h = suc-le-suc h
    go false h = omega arith

pub suggested-few : (l : List Entry) → length (suggested l) ≤ length l
unfolding suggested
suggested-few l = picked-few (λ (e : Entry). is_committed e && not (is_torn e)) l

-- three columns that hold a ledger
module _ (place : ℕ) (r : Shown) (is ss ts : List ℕ) (holds : ledger_of is ss ts ≡ r.ledger) (sound : refused is ss ts ≡ 0) where
  -- `sweep_line` on them writes the run's line
  pub sweep-written : (at : ℕ) (out : List ℕ) → sweep_put place r.injection r.stop r.operations is ss ts at out ≡ put 0 (sweep_line place r) at out
  unfolding sweep_put
  sweep-written at out =
      λ i. put (sound i) (sweep_line place (record { injection = r.injection; stop = r.stop; operations = r.operations; ledger = holds i })) at out

  module _ (column : List ℕ) (room : length (suggested r.ledger) ≤ length column) where
    -- `suggested` on them writes the suggested history at the front of a column with room for it
    pub judge-history : suggested_written is ss ts column
        ≡ record { answer = ListIs (length (suggested r.ledger)); column = suggested r.ledger ++ drop (length (suggested r.ledger)) column }
    unfolding suggested_written first_of unless
    judge-history = rw (sound, holds, le-leb (length (suggested r.ledger)) (length column) room)

    pub history-first : take (length (suggested r.ledger)) (suggested_written is ss ts column).column ≡ suggested r.ledger
    history-first =
        rw judge-history
        (take_at (suggested r.ledger) (drop (length (suggested r.ledger)) column) (length (suggested r.ledger)) refl)

  verdict-is : verified is ss ts (suggested r.ledger) [] Absent ≡ verdict r.ledger (suggested r.ledger) [] Absent
  unfolding verified
  verdict-is = rw (sound, holds)

  -- and the verdict on both gives the run's line of `judge`
  pub judge-written : judged_line place (number_in number_of (verified is ss ts (suggested r.ledger) [] Absent)) (suggested r.ledger) ≡ judge_line place r
  unfolding judge_line
  judge-written = ap (λ (v : Verdict). judged_line place (number_in number_of v) (suggested r.ledger)) verdict-is
