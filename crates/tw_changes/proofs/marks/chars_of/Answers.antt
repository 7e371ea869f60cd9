use Rattle.std.proofs.Common.{sym, ◌∙◌}
use Rattle.std.proofs.lemmas.Iterator.{YieldsList-from_chars}
use Rattle.std.proofs.lemmas.Iterator.Consumers.{YieldsList-end}
use Rattle.tw_text.proofs.TextFacts.{map_same}
use Rattle.tw_changes.proofs.MarkedTasks.{text_scalars}
use Rattle.tw_changes.proofs.marks.chars_of.Goals as goal

pub returns : goal.returns
returns c =
    let t = YieldsList-end (YieldsList-from_chars c.args.text.now c.utf8.text cc) c.loop-c.yielded _ c.loop-c.yielded_by _ _ c.in-None.is c.next.ensures.steps in
    let all = c.loop-c.invariant ∙ sym (map_same c.loop-c.yielded) ∙ t.0 in
    record { all = all; scalars = text_scalars _ c.args.text.now all c.utf8.text }
