-- `session_entries::read_entry` meets its contract: the element, or the number where there is none. Assumes nothing.
use mathlib.Core.Path.{ap, ◌∙◌}
use Rattle.std.specs.Option.{ok_or}
use Rattle.basics.specs.Replies.{numbered}
use Rattle.refusals.specs.declared.Refusal.TheVariants.{NoSuchPlace}
use Rattle.refusals.specs.Numbers.{number_of}
use Rattle.session_entries.proofs.Refused.{entry-read}
use Rattle.session_entries.proofs.read_entry.Goals as goal

pub returns : goal.returns
returns c =
    ap (numbered number_of) c.ok_or.ensures.value ∙ ap (λ o. numbered number_of (ok_or o NoSuchPlace)) c.copied.ensures ∙ entry-read c.args.log.now c.args.index c.get.result c.get.ensures.lookup
