use Rattle.tw_state.proofs.Soundness.{sound_is_tested}
use Rattle.tw_state.proofs.laws.soundness_is_tested.Goals as goal

pub returns : goal.returns
returns c = sound_is_tested
