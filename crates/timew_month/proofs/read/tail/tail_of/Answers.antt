use Rattle.timew_month.proofs.ExactLine.{no_tail}
use Rattle.timew_month.proofs.read.tail.tail_of.Goals as goal

pub returns-in_ok-from_str-in-empty-clause-exact : goal.returns-in_ok-from_str-in-empty-clause-exact
returns-in_ok-from_str-in-empty-clause-exact c = λ is. no_tail c.new.result c.in_ok-from_str-in-empty.field-0 c.args.bytes.now c.new.ensures c.in_ok-from_str-in-empty.ensures c.in-empty.len_below
