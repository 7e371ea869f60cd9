use Rattle.std.proofs.Common.{◌<◌, ◌-◌, ◌++◌, append-nil, sym, ap, subst, ◌∙◌, arith}
use Rattle.std.specs.Prelude.{min}
use Rattle.std.specs.List.{AllByRecursion}
use Rattle.timew_report.specs.Time.{is_tracked}
use Rattle.timew_report.specs.Days.{begins, end_of}
use Rattle.timew_report.specs.Held.{IsDay}
use Rattle.timew_report.proofs.Stretches.{begins_past, none_begins}
use Rattle.timew_report.proofs.Walked.{starts, days_more}
use Rattle.timew_report.proofs.days.days.Goals as goal

pub loop-at-init : goal.loop-at-init
loop-at-init c = record {
  value =
      ap (λ l. starts l ++ begins (is_tracked c.args.rows.now c.args.now) (end_of c.args.span c.args.zone.now) c.args.from c.args.from (c.args.to - c.args.from)) c.new-found.ensures.items
      ∙ begins_past (is_tracked c.args.rows.now c.args.now) (end_of c.args.span c.args.zone.now) c.args.from 0 c.args.from (c.args.to - c.args.from) (omega arith) (omega arith);
  inside = omega arith;
  spent = tt;
  good = subst (AllByRecursion (IsDay c.args.span c.args.zone.now c.args.rows.now c.args.to c.args.now)) (sym c.new-found.ensures.items) tt;
}

pub returns-in_default-clause-value : goal.returns-in_default-clause-value
returns-in_default-clause-value c =
    sym (append-nil (starts c.loop-at.found.items))
    ∙ ap (λ l. starts c.loop-at.found.items ++ l) (sym (none_begins (is_tracked c.args.rows.now c.args.now) (end_of c.args.span c.args.zone.now) c.loop-at.at c.loop-at.at c.args.to (c.next_tracked.ensures.none c.in_default.is)))
    ∙ c.loop-at.invariant.value

pub loop-at-preserved : goal.loop-at-preserved
loop-at-preserved c =
    let step = days_more c.args.span c.args.zone.now c.args.rows.now c.args.from c.args.to c.args.now c.loop-at.at c.in-Some.k c.in-Some.start c.min-end.result c.time_after-seconds.result c.loop-at.found.items c.push.new.self.items
    c.in-Some.ensures.first (subst (λ x. c.in-Some.start < x) c.end_of.ensures.value c.end_of.ensures.later) (c.min-end.ensures ∙ ap (λ x. min x c.args.to) c.end_of.ensures.value) c.time_after-seconds.ensures c.in_ok-push.ensures.items
    c.loop-at.invariant.value c.loop-at.invariant.good in
    record { value = step.0; inside = c.in-Some.ensures.first.inside; spent = step.1; good = step.2 }
