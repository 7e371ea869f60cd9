use Rattle.tw_path.proofs.Presences.{noted}
use Rattle.tw_path.proofs.presence.Presence.set.Goals as goal

pub returns : goal.returns
returns c = noted c.args.self.now (record { changed = c.insert.new.self }) c.args.uuid c.args.there c.in_ok-insert.ensures.updates.0
