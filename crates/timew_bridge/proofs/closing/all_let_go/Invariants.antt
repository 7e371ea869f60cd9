use Rattle.std.proofs.Common.{◌≡◌}
use Rattle.std.specs.List.{flat_map}
use Rattle.timew_bridge.specs.Track.{released}
use Rattle.timew_bridge.proofs.closing.all_let_go.Given as goal

abbrev pub invariant-loop-row : goal.invariant-loop-row
invariant-loop-row l = l.out.items ≡ flat_map (released l.tasks l.now) l.yielded
