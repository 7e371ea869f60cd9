use Rattle.std.proofs.Common.{◌<◌, arith}
use Rattle.jiff_core.specs.declared.civil.weekday.Weekday.{Weekday}
use Rattle.jiff_core.specs.declared.civil.weekday.Weekday.TheVariants.{Monday, Tuesday, Wednesday, Thursday, Friday, Saturday, Sunday}
use Rattle.jiff_core.proofs.DateLemmas.{nth_after_is}
use Rattle.jiff.specs.Words.{epoch_day, monday_zero}
use Rattle.tw_time.proofs.CivilFacts.{date_on-day}
use Rattle.tw_time.proofs.laws.a_weekdays_name_is_the_next_such_day.Goals as goal

below_seven : (w : Weekday) → monday_zero w < 7
below_seven Monday = omega arith
below_seven Tuesday = omega arith
below_seven Wednesday = omega arith
below_seven Thursday = omega arith
below_seven Friday = omega arith
below_seven Saturday = omega arith
below_seven Sunday = omega arith

pub returns : goal.returns
returns c =
    nth_after_is (epoch_day c.args.today) (epoch_day c.args.day) 1 (monday_zero c.args.weekday) (omega arith) (below_seven c.args.weekday) (date_on-day _ c.args.day c.requires)
