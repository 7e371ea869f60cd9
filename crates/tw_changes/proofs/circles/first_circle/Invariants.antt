-- what is left decides, and what is known is closed
use Rattle.std.proofs.Common.{◌≡◌, drop}
use Rattle.tw_urgency.specs.Paths.{IsClosed}
use Rattle.tw_changes.specs.Circles.{first_closing, first_circle}
use Rattle.tw_changes.proofs.circles.first_circle.Given as goal

abbrev pub invariant-loop-uuid : goal.invariant-loop-uuid
invariant-loop-uuid l = record {
  left : first_closing l.tasks (drop l.uuid-index l.uuid-items) ≡ first_circle l.tasks (drop l.from l.ops.items);
  closed : IsClosed l.tasks l.known;
}
