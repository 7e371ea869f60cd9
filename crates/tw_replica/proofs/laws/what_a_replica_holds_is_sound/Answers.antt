use Rattle.tw_replica.proofs.HeldSound.{held_sound}
use Rattle.tw_replica.proofs.laws.what_a_replica_holds_is_sound.Goals as goal

pub returns : goal.returns
returns c = held_sound
