use Rattle.std.proofs.Common.{◌≡◌, true}
use Rattle.std.specs.Prelude.{◌⊎◌}
use Rattle.tw_model.specs.LocalOps.{apply_all_local, FitAllLocal}
use Rattle.tw_bodies.specs.Reading.{op_at}
use Rattle.tw_fields.specs.Reading.{many_at, with_front}
use Rattle.tw_state.specs.State.{begins_with_point}
use Rattle.tw_state.specs.Restoring.{begins_a_command}
use Rattle.tw_state.proofs.restore.take_pending.Given as goal

abbrev pub invariant-loop-left : goal.invariant-loop-left
invariant-loop-left l = record {
  read : with_front l.pending (many_at op_at l.left l.rest) ≡ many_at op_at l.count l.bytes;
  fit : FitAllLocal l.fn.tasks l.pending;
  tasks : l.tasks ≡ apply_all_local l.fn.tasks l.pending;
  begins : begins_with_point l.pending ≡ true;
  next : (l.left ≡ 0) ⊎ (begins_a_command l.rest ≡ true);
}

abbrev pub decreases-loop-left : goal.decreases-loop-left
decreases-loop-left l = l.left
