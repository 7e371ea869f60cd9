use Rattle.std.proofs.Common.{◌-◌, arith, sym, ◌∙◌}
use Rattle.timew_month.proofs.BareTags.{rise_push, rise_alone}
use Rattle.timew_month.proofs.read.bare.is_behind.Goals as goal

pub returns-then-count-eq0 : goal.returns-then-count-eq0
returns-then-count-eq0 c = λ rise is. rise_alone c.args.tags.now c.args.tag.now (omega arith)

pub returns : goal.returns
returns c = λ rise is. rise_push c.args.tags.now c.args.tag.now c.at.result.now (c.len-count.result - 1) rise (omega arith) c.at.ensures (sym c.is_before.ensures ∙ is)
