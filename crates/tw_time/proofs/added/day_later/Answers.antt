use Rattle.std.proofs.Common.{sym, arith}
use Rattle.jiff_core.proofs.SignedLemmas.{signed_arith}
use Rattle.jiff.proofs.Family.{epoch_day_range}
use Rattle.tw_time.proofs.CivilFacts.{date_on_none}
use Rattle.tw_time.proofs.added.day_later.Goals as goal

pub returns-then-days-gt7304484 : goal.returns-then-days-gt7304484
returns-then-days-gt7304484 c = sym (date_on_none _ (λ within.
    let range = epoch_day_range c.args.date in
    let more = c.if-days-gt7304484.true in
    omega (arith, signed_arith, range, within, more)))
