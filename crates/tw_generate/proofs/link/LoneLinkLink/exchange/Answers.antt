use Rattle.tw_generate.specs.Links.{memory_link}
use Rattle.tw_server.specs.Memory.Link.{memory_link_model}
use Rattle.tw_generate.proofs.Links.{exchanged_in, answered_in}
use Rattle.tw_generate.proofs.link.LoneLinkLink.exchange.Goals as goal

pub returns-clause-exchanged : goal.returns-clause-exchanged
returns-clause-exchanged c = exchanged_in memory_link memory_link_model _ _ _ _ _ c.exchange.ensures.exchanged

pub returns-clause-answered : goal.returns-clause-answered
returns-clause-answered c = answered_in memory_link memory_link_model _ _ _ _ _ c.exchange.ensures.answered
