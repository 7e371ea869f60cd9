use Rattle.std.proofs.Common.{◌∙◌}
use Rattle.tw_state.proofs.PartsTogether.{nothing_taken_out}
use Rattle.tw_state.proofs.copies.make_room.Goals as goal

pub returns-in-Err-clause-err : goal.returns-in-Err-clause-err
returns-in-Err-clause-err c = c.take_out.ensures ∙ c.in-Err.ensures.err ∙ nothing_taken_out c.args.fresh.now.items c.args.tasks.now c.requires
