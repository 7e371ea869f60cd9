use Rattle.std.proofs.Common.{◌-◌, sym, ap, ◌∙◌, arith}
use Rattle.timew_interval.specs.declared.interval.Interval.{Interval}
use Rattle.timew_interval.specs.MonthName.{month_name}
use Rattle.timew_month.proofs.KnownMonths.{one_month}
use Rattle.timew_month.proofs.write.known.is_one_month.Goals as goal

pub returns : goal.returns
returns c = λ is.
    let first = c.index-rows-0 in
    one_month c.args.rows.now c.args.count (c.args.count - 1) first.result c.index-rows-count.result c.month_name-name.result c.requires.are c.requires.some c.requires.inside c.requires.writable first.is
    (c.month_name-name.ensures.name ∙ sym (ap (λ (r : Interval). month_name r.start) first.is)) (omega arith) c.index-rows-count.is (sym c.is_in_month.ensures ∙ is)
