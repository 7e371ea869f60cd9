use Rattle.tw_segment.proofs.TimestampFacts.{ok_if_ascii}
use Rattle.tw_segment.proofs.timestamp.ascii.Goals as goal

pub unwrap-requires : goal.unwrap-requires
unwrap-requires c = ok_if_ascii _ _ c.from_utf8.result c.args.bytes.now c.from_utf8.ensures.cases c.requires
