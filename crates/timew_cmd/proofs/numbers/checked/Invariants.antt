use Rattle.std.proofs.Common.{◌≡◌, drop}
use Rattle.timew_cmd.specs.Numbers.{checked}
use Rattle.timew_cmd.proofs.numbers.checked.Given as goal

abbrev pub invariant-loop-id : goal.invariant-loop-id
invariant-loop-id l = checked l.count (drop l.id-index l.ids) ≡ checked l.count l.ids
