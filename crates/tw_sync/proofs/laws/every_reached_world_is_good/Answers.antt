use Rattle.tw_sync.proofs.Worlds.{reached_is_good}
use Rattle.tw_sync.proofs.laws.every_reached_world_is_good.Goals as goal

pub returns : goal.returns
returns c = reached_is_good
