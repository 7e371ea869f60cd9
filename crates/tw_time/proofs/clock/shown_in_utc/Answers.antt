use Rattle.std.proofs.Common.{◌≡◌, ◌/◌, ◌%◌, pos, arith}
use Rattle.jiff_core.proofs.SignedLemmas.{signed_arith}
use Rattle.jiff_core.specs.Time.{time_seconds}
use Rattle.jiff.specs.Words.{epoch_day}
use Rattle.tw_time.proofs.UtcFacts.{shows_in_utc}
use Rattle.tw_time.proofs.clock.shown_in_utc.Goals as goal

pub returns : goal.returns
returns c =
    let day : epoch_day c.from_days_since_min.result ≡ pos (c.args.at / 86_400) = omega (arith, signed_arith, c.from_days_since_min.ensures) in
    let second : time_seconds c.from_second.result ≡ c.args.at % 86_400 = c.from_second.ensures.seconds in
    shows_in_utc c.args.at (record { date = c.from_days_since_min.result; time = c.from_second.result }) day second c.from_second.ensures.subsec
