use Rattle.std.proofs.Common.{◌∙◌, sym}
use Rattle.tw_state.proofs.PendingBodies.{short_holds}
use Rattle.tw_state.proofs.pending.group_in.Goals as goal

pub returns-in_default : goal.returns-in_default
returns-in_default c = c.new.ensures.items ∙ sym (short_holds c.args.body.now c.in_default.len_below)
