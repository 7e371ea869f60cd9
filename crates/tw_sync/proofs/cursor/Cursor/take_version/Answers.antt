use Rattle.std.proofs.Common.{◌≤◌, length, arith}
use Rattle.tw_path.proofs.Reading.{segment_some}
use Rattle.tw_sync.proofs.cursor.Cursor.take_version.Goals as goal

pub invariant_of-self-2-clause-few : goal.invariant_of-self-2-clause-few
invariant_of-self-2-clause-few c =
    let some : 1 ≤ length c.args.segment.now = segment_some c.args.segment.now c.in-Ok.ops.items c.in-Ok.ensures.ok in
    omega arith
