use Rattle.std.specs.Prelude.{max}
use Rattle.std.proofs.Common.{◌≡◌, ◌<◌, length, ap, ◌∙◌, arith}
use Rattle.timew_report.specs.Time.{is_tracked}
use Rattle.timew_report.proofs.Seconds.{none_left, none_yet, then_tracked, still_spent, next_has, start_is}
use Rattle.timew_report.proofs.hours.next_tracked.Goals as goal

pub returns-then-passed-rows-clause-none : goal.returns-then-passed-rows-clause-none
returns-then-passed-rows-clause-none c = λ e. none_left c.args.at c.args.to c.args.now c.spent-passed.result c.args.rows.now (omega (arith, c.if-passed-rows.true)) c.spent-passed.ensures.spent

pub returns-then-to-start-clause-none : goal.returns-then-to-start-clause-none
returns-then-to-start-clause-none c = λ e s low high.
    let lt : c.spent-passed.result < length c.args.rows.now = omega (arith, c.spent-passed.ensures.inside, c.if-passed-rows.false) in
    let start : c.max-start.result ≡ max c.index-rows-passed.result.start c.args.at = start_is c.args.rows.now c.spent-passed.result c.index-rows-passed.result c.args.at c.max-start.result c.index-rows-passed.is c.max-start.ensures in
    none_yet c.args.at c.args.now c.spent-passed.result c.args.rows.now c.index-rows-passed.result c.requires.rows c.spent-passed.ensures.spent lt c.index-rows-passed.is s low (omega (arith, start, low, high, c.if-to-start.true))

pub returns-clause-first : goal.returns-clause-first
returns-clause-first c =
    let lt : c.spent-passed.result < length c.args.rows.now = omega (arith, c.spent-passed.ensures.inside, c.if-passed-rows.false) in
    let start : c.max-start.result ≡ max c.index-rows-passed.result.start c.args.at = start_is c.args.rows.now c.spent-passed.result c.index-rows-passed.result c.args.at c.max-start.result c.index-rows-passed.is c.max-start.ensures in
    record {
      inside = c.spent-passed.ensures.inside;
      spent = still_spent c.args.at c.max-start.result c.args.now _ (omega (arith, start)) c.spent-passed.ensures.spent;
      later = omega (arith, start);
      before = c.if-to-start.false;
      none = λ s low high. none_yet c.args.at c.args.now c.spent-passed.result c.args.rows.now c.index-rows-passed.result c.requires.rows c.spent-passed.ensures.spent lt c.index-rows-passed.is s low (omega (arith, start, low, high));
      tracked =
          ap (is_tracked c.args.rows.now c.args.now) start
          ∙ then_tracked c.args.at c.args.now c.spent-passed.result c.args.rows.now c.index-rows-passed.result c.requires.rows c.spent-passed.ensures.spent lt c.index-rows-passed.is
          (next_has c.args.at c.args.now c.spent-passed.result c.args.rows.now c.index-rows-passed.result lt c.index-rows-passed.is c.spent-passed.ensures.next);
    }
