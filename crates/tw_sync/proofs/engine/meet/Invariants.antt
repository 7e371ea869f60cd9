use Rattle.std.proofs.Common.{◌≡◌, ◌+◌, ◌-◌, ◌≤◌}
use Rattle.tw_state.specs.State.{State}
use Rattle.tw_sync.specs.Way.Progress.{IsPulling, HasPulled}
use Rattle.tw_sync.proofs.engine.meet.Given as goal

abbrev pub invariant-loop-alloc : goal.invariant-loop-alloc
invariant-loop-alloc g l = record {
  pulled : (state : State) (first : g.row.L.Denot) → state.tasks ≡ l.fn.hand → IsPulling g.L.Link.model l.fn.client l.fn.host state first l.fn.link l.fn.cursor → HasPulled g.L.Link.model l.fn.client l.fn.host state first l.link l.cursor;
  few : l.cursor.conflicts ≤ 15;
}

abbrev pub decreases-loop-alloc : goal.decreases-loop-alloc
decreases-loop-alloc g l = (15 - l.cursor.conflicts) + l.cursor.unsent
