use Rattle.std.proofs.Common.{sym, ◌∙◌, ◌-◌, drop, arith, length-drop}
use Rattle.timew_month.proofs.FilesOfBody.{short_rise}
use Rattle.timew_month.proofs.body.names_rise.Goals as goal

pub returns : goal.returns
returns c = sym (short_rise (drop (c.loop-at.at - 1) c.args.files.now.items) (omega (arith, length-drop (c.loop-at.at - 1) c.args.files.now.items, c.loop-at-test.false))) ∙ c.loop-at.invariant.1
