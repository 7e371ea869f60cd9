use Rattle.tw_sync.proofs.Offering.{offered}
use Rattle.tw_sync.proofs.offer.offer.Goals as goal

pub returns : goal.returns
returns g c = offered g.L.Link.model c.args.client c.args.link.now c.exchange.new.self c.args.text.now c.exchange.new.reply.items c.exchange.result c.exchange.ensures.exchanged c.exchange.ensures.answered (g.met.L.Link.tells_chain c.exchange.new.self) c.requires
