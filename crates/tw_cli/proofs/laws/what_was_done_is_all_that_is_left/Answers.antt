use Rattle.tw_cli.proofs.Histories.{done_is_alone}
use Rattle.tw_cli.proofs.laws.what_was_done_is_all_that_is_left.Goals as goal

pub returns : goal.returns
returns g c = done_is_alone g.D.Disk.model g.P.Spawner.model g.met.D.Disk.seen_may_stay
