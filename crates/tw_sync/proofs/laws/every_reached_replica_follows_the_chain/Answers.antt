use Rattle.tw_sync.proofs.Worlds.{reached_follows}
use Rattle.tw_sync.proofs.laws.every_reached_replica_follows_the_chain.Goals as goal

pub returns : goal.returns
returns c = reached_follows
