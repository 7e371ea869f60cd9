use Rattle.tw_state.proofs.Soundness.{stands_sound}
use Rattle.tw_state.proofs.laws.what_records_stand_for_is_sound.Goals as goal

pub returns : goal.returns
returns c = stands_sound
