use Rattle.std.proofs.Common.{refl, sym, ◌∙◌}
use Rattle.tw_sync.proofs.GivenFacts.{unreadable}
use Rattle.tw_sync.proofs.given.given_of.Goals as goal

pub returns-in-Some-clause-brings : goal.returns-in-Some-clause-brings
returns-in-Some-clause-brings c = record { bytes = c.args.bytes.now; reply_is = refl; reads = sym c.in_ok-tasks.ensures ∙ c.in-Some.is }

pub returns-in-None-clause-brings : goal.returns-in-None-clause-brings
returns-in-None-clause-brings c = unreadable c.args.version c.args.bytes.now (sym c.in-None.is ∙ c.in_ok-tasks.ensures)
