use Rattle.std.proofs.Common.{◌≡◌, ◌||◌, ℕ, List, None}
use Rattle.tw_model.specs.Ops.{apply_all}
use Rattle.tw_model.specs.declared.SyncOp.{SyncOp}
use Rattle.tw_bodies.specs.Reading.{sync_op_at}
use Rattle.tw_fields.specs.Reading.{many_at, with_front}
use Rattle.tw_numbers.specs.Assigned.{is_among}
use Rattle.tw_state.specs.State.{misfit_synced}
use Rattle.tw_state.specs.Touched.{is_touched_by_synced}
use Rattle.tw_state.proofs.fitting.apply_fitting.Given as goal

abbrev pub invariant-loop-left : goal.invariant-loop-left
invariant-loop-left l = record {
  ops : List SyncOp;
  read : with_front ops (many_at sync_op_at l.left l.rest) ≡ many_at sync_op_at l.count l.bytes;
  fits : misfit_synced 0 l.fn.tasks ops ≡ None;
  tasks : l.tasks ≡ apply_all l.fn.tasks ops;
  touched : (u : List ℕ) → is_among l.touched.keys u ≡ (is_among l.fn.touched.keys u || is_touched_by_synced ops u);
}

abbrev pub decreases-loop-left : goal.decreases-loop-left
decreases-loop-left l = l.left
