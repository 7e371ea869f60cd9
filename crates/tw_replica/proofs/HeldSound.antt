-- What an open replica holds is sound.
use Rattle.tw_replica.specs.Replica.{HeldIsSound, held_state}
use Rattle.tw_state.proofs.Soundness.{sound_if}

pub held_sound : HeldIsSound
held_sound replica = sound_if (held_state replica) replica.sound
