use Rattle.serde_json.specs.View.{view}
use Rattle.tw_segment.proofs.Exact.{the_only}
use Rattle.tw_segment.proofs.reading.read_segment.Goals as goal

pub returns-clause-only : goal.returns-clause-only
returns-clause-only c =
    λ ops within s. the_only (λ v. v.items) c.args.bytes.now (view c.in_ok-value.value) c.segment_ops.result within c.in_ok-value.ensures.ok c.segment_ops.ensures.ok c.segment_ops.ensures.err ops s
