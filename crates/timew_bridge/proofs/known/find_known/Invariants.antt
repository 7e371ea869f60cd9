use Rattle.std.proofs.Common.{◌≡◌, drop}
use Rattle.timew_bridge.specs.Known.{find_known}
use Rattle.timew_bridge.proofs.known.find_known.Given as goal

abbrev pub invariant-loop-one : goal.invariant-loop-one
invariant-loop-one l = find_known l.uuid (drop l.one-index l.known) ≡ find_known l.uuid l.known
