use Rattle.std.proofs.Common.{refl, arith, rules}
use Rattle.timew_store.proofs.PreparedEdits.{too_long}
use Rattle.timew_store.proofs.store.Store.prepare.Goals as goal

pub returns-clause-prepared : goal.returns-clause-prepared
returns-clause-prepared c = record { journal = refl; live = search rules; made = search rules; within = omega arith }
