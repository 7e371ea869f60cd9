use Rattle.std.proofs.Common.{ap, sym, ◌∙◌}
use Rattle.std.specs.Str.{is_utf8}
use Rattle.timew_interval.proofs.RisingTags.{utf8_is}
use Rattle.timew_interval.proofs.RowsReadBack.{writable_is}
use Rattle.timew_interval.proofs.line.put_line.Goals as goal

pub returns-clause-writable : goal.returns-clause-writable
returns-clause-writable c = λ row. writable_is c.args.row.now row c.in_ok-put_moment.ensures.printed c.in_ok-put_end.ensures.printed c.in_ok-put_tail.ensures.utf8 (ap is_utf8 (sym c.as_str.ensures) ∙ utf8_is c.as_str.result.now c.as_str.utf8)
