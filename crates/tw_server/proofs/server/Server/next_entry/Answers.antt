use Rattle.std.proofs.Common.{◌∙◌, sym}
use Rattle.tw_records.specs.Bodies.{entry_of, accepted_in, is_body, is_next_entry}
use Rattle.tw_server.proofs.Openings.{none_either, next_is}
use Rattle.tw_server.proofs.server.Server.next_entry.Goals as goal

pub returns-in-Some-clause-next : goal.returns-in-Some-clause-next
returns-in-Some-clause-next c log knows = c.if_next.ensures log knows ∙ next_is log.versions c.args.front.now c.in-Some.entry (sym c.read_entry.ensures ∙ c.in-Some.is)

pub returns-in-None-clause-next : goal.returns-in-None-clause-next
returns-in-None-clause-next c log knows =
    none_either (is_body c.args.front.now) (is_next_entry log.versions (entry_of (accepted_in c.args.front.now))) (entry_of (accepted_in c.args.front.now)) (sym c.read_entry.ensures ∙ c.in-None.is)
