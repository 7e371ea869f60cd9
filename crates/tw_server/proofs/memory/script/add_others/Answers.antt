use Rattle.std.proofs.Common.{map}
use Rattle.tw_server.specs.Memory.Server.{holding_of}
use Rattle.tw_server.proofs.MemoryOthers.{others_more, segment_here, segment_inside, segment_fits}
use Rattle.tw_server.proofs.memory.script.add_others.Goals as goal

pub add_other-requires : goal.add_other-requires
add_other-requires c = segment_fits (λ v. v.items) c.deref-segment-items.result.now c.args.segments.now.items c.loop-segment.segment-index c.segment-item.result c.as_slice.result.now c.deref-segment-items.ensures.value c.loop-segment-test.true c.segment-item.is c.as_slice.ensures.value c.requires

pub loop-segment-preserved : goal.loop-segment-preserved
loop-segment-preserved c =
    let xs = c.deref-segment-items.result.now in
    let ys = c.args.segments.now.items in
    let i = c.loop-segment.segment-index in
    let now = c.as_slice.result.now in
    others_more c.args.client (holding_of c.args.server.now) (holding_of c.loop-segment.server) (holding_of c.add_other.new.server) (map (λ v. v.items) ys) i now
    (segment_inside (λ v. v.items) xs ys i c.segment-item.result now c.deref-segment-items.ensures.value c.loop-segment-test.true c.segment-item.is c.as_slice.ensures.value)
    (segment_here (λ v. v.items) xs ys i c.segment-item.result now c.deref-segment-items.ensures.value c.loop-segment-test.true c.segment-item.is c.as_slice.ensures.value now)
    c.loop-segment.invariant c.in_ok-add_other.ensures.added
