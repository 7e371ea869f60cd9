use Rattle.std.proofs.Common.{◌≡◌}
use Rattle.std.specs.List.{flat_map}
use Rattle.timew_interval.specs.Placing.{left_outside}
use Rattle.timew_cmd.proofs.outside.all_outside.Given as goal

abbrev pub invariant-loop-row : goal.invariant-loop-row
invariant-loop-row l = l.out.items ≡ flat_map (left_outside l.new) l.yielded
