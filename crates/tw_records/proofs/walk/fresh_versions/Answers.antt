use Rattle.std.proofs.Common.{get_or}
use Rattle.tw_records.proofs.Freshness.{fresh_more, fresh_few}
use Rattle.tw_records.proofs.walk.fresh_versions.Goals as goal

pub loop-kind-preserved : goal.loop-kind-preserved
loop-kind-preserved c =
    let l = c.loop-kind in
    record {
      fresh = fresh_more c.args.kinds.now l.kind-index l.fresh _ c.loop-kind-test.true l.invariant.fresh c.fresh_by-fresh.ensures;
      few = fresh_few l.kind-index l.fresh (get_or c.args.kinds.now l.kind-index 0) _ l.invariant.few c.fresh_by-fresh.ensures;
    }
