-- `oracle::Entries::least_faulty` meets its contract: the chain is the definition. Assumes nothing.
use Rattle.std.proofs.Common.{sym, ◌∙◌, rules}
use Rattle.std.specs.Result.{is_err}
use Rattle.std.proofs.lemmas.Iterator.{YieldsList-from_slice}
use Rattle.std.proofs.lemmas.Iterator.Adapters.{option_map_id}
use Rattle.std.proofs.lemmas.Iterator.Consumers.{YieldsList-from_copied, YieldsList-from_filter, YieldsList-at, min_from_yields_List}
use Rattle.model.specs.Columns.{ledger_of}
use Rattle.oracle.specs.Verdict.{fault_of}
use Rattle.oracle.specs.Scans.{least_faulty}
use Rattle.oracle.proofs.Entries.least_faulty.Goals as goal

pub returns : goal.returns
unfolding least_faulty
returns c =
    sym (option_map_id c.min.result)
    ∙ min_from_yields_List _ _ c.min.ensures.ran
    (YieldsList-from_filter _ (λ x. is_err (fault_of (ledger_of c.args.self.now.columns.ids.now c.args.self.now.columns.states.now c.args.self.now.columns.torn.now) x))
    (YieldsList-at c.filter.ensures.source (YieldsList-from_copied (YieldsList-at c.copied.ensures.source (YieldsList-from_slice c.args.history.now (search rules)))))
    c.filter.ensures.closure (λ x b q k. search rules))
