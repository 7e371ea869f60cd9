use Rattle.std.proofs.Common.{subst, sym}
use Rattle.tw_urgency.specs.Urgency.{IsSmall}
use Rattle.tw_urgency.proofs.Shares.{small_is}
use Rattle.tw_settings.proofs.Decimals.{thousandths_small}
use Rattle.tw_settings.proofs.settings.Settings.coefficient.Goals as goal

pub returns-in-Some-read_decimal3-clause-small : goal.returns-in-Some-read_decimal3-clause-small
returns-in-Some-read_decimal3-clause-small c =
    let small = thousandths_small c.in-Some.text.now c.in-Some-read_decimal3.n (sym c.in-Some-read_decimal3.ensures) in
    subst IsSmall (sym (small_is c.in-Some-read_decimal3.n small)) small
