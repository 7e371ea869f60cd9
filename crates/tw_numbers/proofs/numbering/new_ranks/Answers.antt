use Rattle.std.proofs.Common.{rules, []}
use Rattle.tw_numbers.specs.Numbering.{with_ranks}
use Rattle.tw_numbers.proofs.AssignedByLooks.{ranks_step, first_among, rest_among}
use Rattle.tw_numbers.proofs.numbering.new_ranks.Goals as goal

pub loop-uuid-preserved : goal.loop-uuid-preserved
loop-uuid-preserved c =
    let before = c.loop-uuid.uuid-iterator in
    let rest = c.next.new.self in
    let u = c.in-Some.uuid.now in
    let all = c.args.touched.now.keys in
    let among = c.loop-uuid.invariant.1 in (
      λ places h. ranks_step places c.args.tasks.now before rest u c.loop-uuid.ranks.keys c.add_rank.new.ranks.keys (with_ranks places c.args.tasks.now [] all) c.in-Some.ensures.steps
          (c.in_ok-add_rank.ensures places (h u (first_among before rest all u c.in-Some.ensures.steps among))) (c.loop-uuid.invariant.0 places h),
      rest_among before rest all u c.in-Some.ensures.steps among,
    )

pub returns : goal.returns
returns c = λ places told. search (rules, c.loop-uuid.invariant.0 places told)
