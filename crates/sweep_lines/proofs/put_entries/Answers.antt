-- `sweep_lines::put_entries` meets its contract: the rows not yet read are still to be written. Assumes nothing.
use mathlib.Core.Path.{◌∙◌}
use mathlib.Core.Logic.{inl, inr, ⊎_elim}
use Rattle.sweep_lines.proofs.Entries.{rows-put, rows-put-end}
use Rattle.sweep_lines.proofs.put_entries.Goals as goal

pub loop-id-preserved : goal.loop-id-preserved
loop-id-preserved c =
    let s = c.in-Some.ensures.steps in (
      c.loop-id.invariant.0,
      tt,
      c.put_entry.ensures.same ∙ c.loop-id.invariant.2,
      rows-put _ _ _ _ _ _ _ _ _ s.0.0 s.0.1 s.1 _ _ _ c.loop-id.invariant.3 c.put_entry.ensures.put,
    )

pub returns-clause-put : goal.returns-clause-put
returns-clause-put c =
    rows-put-end _ _ _ (⊎_elim (λ w. inl (⊎_elim (λ v. inl v.1.0) (λ v. inr v.1.0) w.1)) (λ w. inr w.1.0) c.in-None.ensures.steps) _ _ c.loop-id.invariant.3
