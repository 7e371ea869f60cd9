use Rattle.std.proofs.Common.{[], arith}
use Rattle.std.proofs.lemmas.List.{ext_get_or}
use Rattle.timew_interval.proofs.interval.same.are_same_texts.Goals as goal

pub returns : goal.returns
returns c = λ is. ext_get_or [] c.args.texts.now c.args.others.now (omega arith) (λ k lt. c.loop-n.invariant k (omega arith))
