use Rattle.std.proofs.Common.{◌≡◌, ◌&&◌, drop}
use Rattle.std.specs.List.{list_any}
use Rattle.timew_cmd.specs.Numbers.{numbered, is_among}
use Rattle.timew_cmd.specs.Commands.Split.{is_ahead, some_ahead}
use Rattle.timew_cmd.proofs.commands.split.some_ahead.Given as goal

abbrev pub invariant-loop-k : goal.invariant-loop-k
invariant-loop-k l = list_any (λ r. is_among l.ids.given.now r.0 && is_ahead l.now r.1) (numbered (drop l.k l.rows)) ≡ some_ahead l.ids.given.now l.rows l.now
