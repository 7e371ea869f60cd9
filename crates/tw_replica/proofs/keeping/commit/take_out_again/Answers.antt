use Rattle.std.proofs.Common.{arith}
use Rattle.tw_replica.proofs.keeping.commit.take_out_again.Goals as goal

pub returns-then-count-gt0 : goal.returns-then-count-gt0
returns-then-count-gt0 c = λ before more whole group count. c.pop.ensures more (record { left = before; whole = whole; group = group; some = omega arith })
