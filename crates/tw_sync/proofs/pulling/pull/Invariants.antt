use Rattle.std.proofs.Common.{◌≡◌, ◌-◌}
use Rattle.tw_state.specs.State.{State}
use Rattle.tw_sync.specs.Ends.Refused.{max_pull}
use Rattle.tw_sync.specs.Way.Progress.{IsPulling}
use Rattle.tw_sync.proofs.pulling.pull.Given as goal

abbrev pub invariant-loop : goal.invariant-loop
invariant-loop g l = record {
  pulls : (state : State) (first : g.row.L.Denot) → state.tasks ≡ l.fn.hand → IsPulling g.L.Link.model l.fn.client l.fn.host state first l.fn.link l.fn.cursor → IsPulling g.L.Link.model l.fn.client l.fn.host state first l.link l.cursor;
  conflicts : l.cursor.conflicts ≡ l.fn.cursor.conflicts;
  unsent : l.cursor.unsent ≡ l.fn.cursor.unsent;
}

abbrev pub decreases-loop : goal.decreases-loop
decreases-loop g l = max_pull - l.cursor.bytes
