use Rattle.tw_hints.proofs.Joined.{two}
use Rattle.tw_hints.proofs.zone.push_zone.Goals as goal

pub returns : goal.returns
returns c = two c.push_line.result _ _ _ _ _ c.in_ok-push_cut.ensures c.push_line.ensures
