-- Folds of a chain, and replicas that agree with it.
use Rattle.std.proofs.Common.{◌≡◌, List, [], sym, ap, subst, ◌∙◌}
use Rattle.tw_model.specs.Ops.{TasksValue, apply_all}
use Rattle.tw_model.specs.LocalOps.{plain}
use Rattle.tw_model.proofs.LocalOps.{plain_same}
use Rattle.tw_protocol.specs.Chain.{Version, IsChain}
use Rattle.tw_state.specs.State.{State}
use Rattle.tw_state.specs.Sound.{start_of}
use Rattle.tw_path.specs.Fold.{IsFold}
use Rattle.tw_path.proofs.Folds.{fold_grows, fold_is_one}
use Rattle.tw_outcome.specs.Agreement.{Agrees}
use Rattle.tw_sync.specs.Laws.{AgreesIsKept, PendingActsOnTheFold, AgreeingReplicasAreEqual}

pub agrees_is_kept : AgreesIsKept
agrees_is_kept state old new a g = record { sound = a.sound; folded = fold_grows old new state.base (start_of state) a.folded g }

pub pending_acts_on_the_fold : PendingActsOnTheFold
pending_acts_on_the_fold state chain there whole a at =
    let start : TasksValue = start_of state in
    a.sound.tasks
    ∙ sym (plain_same start state.pending a.sound.fits).1
    ∙ ap (λ t. apply_all t (plain state.pending)) (fold_is_one chain state.base start there whole a.folded at)

-- nothing pending is nothing to act
tasks_at_base : (state : State) (chain : List Version) → IsChain chain → Agrees state chain → plain state.pending ≡ [] → IsFold chain state.base state.tasks
tasks_at_base state chain whole a none =
    let same : state.tasks ≡ start_of state = pending_acts_on_the_fold state chain (start_of state) whole a a.folded ∙ ap (apply_all (start_of state)) none in
    subst (IsFold chain state.base) (sym same) a.folded

pub agreeing_replicas_are_equal : AgreeingReplicasAreEqual
agreeing_replicas_are_equal one other chain whole a b at none nothing =
    fold_is_one chain other.base one.tasks other.tasks whole (subst (λ v. IsFold chain v one.tasks) at (tasks_at_base one chain whole a none)) (tasks_at_base other chain whole b nothing)
