use Rattle.std.proofs.Common.{◌≡◌, List, ℕ, true, Some, take}
use Rattle.tw_world.specs.Disk.{Untouched}
use Rattle.tw_journal.specs.Journal.{IsOpenOn}
use Rattle.tw_journal.specs.Window.{IsWindowOn}
use Rattle.tw_state.specs.State.{start, replayed, is_sound}
use Rattle.tw_state.specs.Core.{state_of}
use Rattle.tw_replica.specs.Replica.{magic}
use Rattle.tw_state.specs.Indexed.{IsUpToDate}
use Rattle.tw_replica.proofs.open.replay.replay.Given as goal

abbrev pub invariant-loop-n : goal.invariant-loop-n
invariant-loop-n g l = Untouched g.D.Disk.model l.fn.disk l.disk × ((bodies : List (List ℕ)) → IsOpenOn g.D.Disk.model magic l.journal l.fn.disk bodies → replayed start (take l.n bodies) ≡ Some (state_of l.indexed.core)) × IsUpToDate l.indexed × IsWindowOn g.D.Disk.model l.disk l.window × (is_sound (state_of l.indexed.core) ≡ true)
