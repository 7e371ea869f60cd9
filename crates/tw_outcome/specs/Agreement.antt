-- A replica that agrees with a chain (TaskChampion book, "Synchronization Model").
use Rattle.std.specs.Prelude.{List}
use Rattle.tw_protocol.specs.Chain.{Version}
use Rattle.tw_state.specs.State.{State}
use Rattle.tw_state.specs.Sound.{IsSound, start_of}
use Rattle.tw_path.specs.Fold.{IsFold}

-- the replica is sound, and its tasks without what is pending are the chain folded to its base
pub record Agrees (state : State) (chain : List Version) : Type 0 where
  pub sound : IsSound state
  pub folded : IsFold chain state.base (start_of state)
