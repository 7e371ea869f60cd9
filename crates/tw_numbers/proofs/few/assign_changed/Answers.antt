use Rattle.std.proofs.Common.{refl}
use Rattle.tw_numbers.proofs.few.assign_changed.Goals as goal

pub returns : goal.returns
returns c = λ ready. c.in_ok-places.ensures c.args.tasks.now (λ u inside. refl) ready
