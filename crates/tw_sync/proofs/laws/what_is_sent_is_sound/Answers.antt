use Rattle.std.proofs.Common.{ap, subst}
use Rattle.tw_model.specs.LocalOps.{take_back_all}
use Rattle.tw_path.specs.Fold.{IsFold}
use Rattle.tw_sync.proofs.laws.what_is_sent_is_sound.Goals as goal

pub returns : goal.returns
returns c = λ state chain a none. subst (IsFold chain state.base) (ap (take_back_all state.tasks) none) a.folded
