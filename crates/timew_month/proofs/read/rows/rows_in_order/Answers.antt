use Rattle.std.proofs.Common.{List, ℕ, Some, Ok, sym, ap, subst, ◌∙◌}
use Rattle.timew_interval.specs.Interval.{AreRows}
use Rattle.timew_month.specs.Gathered.{files_of, lines_in}
use Rattle.timew_month.proofs.FirstSpot.{judged_bad, judged_good}
use Rattle.timew_month.proofs.read.rows.rows_in_order.Goals as goal

pub returns-in-Some-clause-err : goal.returns-in-Some-clause-err
returns-in-Some-clause-err c =
    judged_bad (lines_in (files_of c.args.files.now.items)) c.in_ok-gathered.gathered c.in_ok-copy.field-0 c.in-Some.spot.now.line c.in_ok-gathered.ensures
    (ap (λ (f : List ℕ). Some (f, c.in-Some.spot.now.line)) c.in_ok-copy.ensures ∙ c.in-Some.ensures)

pub from_rows-requires : goal.from_rows-requires
from_rows-requires c = subst AreRows (sym c.in_ok-rows_in_seats.ensures) (judged_good (lines_in (files_of c.args.files.now.items)) c.in_ok-gathered.gathered c.in_ok-gathered.ensures (sym c.in_default.ensures)).0

pub returns-clause-ok : goal.returns-clause-ok
returns-clause-ok c =
    let good = judged_good (lines_in (files_of c.args.files.now.items)) c.in_ok-gathered.gathered c.in_ok-gathered.ensures (sym c.in_default.ensures) in
    good.1 ∙ ap Ok (sym c.in_ok-rows_in_seats.ensures ∙ sym c.from_rows.ensures)
