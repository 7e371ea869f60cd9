use Rattle.tw_cli.proofs.Served.{served_is_event}
use Rattle.tw_cli.proofs.laws.an_exchange_is_an_event.Goals as goal

pub returns : goal.returns
returns g c = served_is_event g.D.Disk.model g.P.Peer.model c.args.start c.a_drawn_id_is_real.ensures
