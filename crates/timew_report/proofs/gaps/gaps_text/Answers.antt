use Rattle.std.proofs.Common.{◌≡◌, ◌-◌, ◌++◌, map, ap, ◌∙◌, arith}
use Rattle.tw_text.specs.Table.{table}
use Rattle.timew_report.specs.Time.{count}
use Rattle.timew_report.specs.Gaps.{is_free, gaps}
use Rattle.timew_report.specs.Texts.{columns, gap_cells, sum_text}
use Rattle.timew_report.proofs.Seconds.{tracked_and_free}
use Rattle.timew_report.proofs.gaps.gaps_text.Goals as goal

pub overflow_sub-saturating_sub : goal.overflow_sub-saturating_sub
overflow_sub-saturating_sub c = omega (arith, c.time_of.ensures, c.saturating_sub.ensures, tracked_and_free c.args.rows.now c.args.from c.args.to c.args.now)

pub returns : goal.returns
returns c =
    let free : c.saturating_sub.result - c.time_of.result ≡ count (is_free c.args.rows.now c.args.now) c.args.from (c.args.to - c.args.from) =
    omega (arith, c.time_of.ensures, c.saturating_sub.ensures, tracked_and_free c.args.rows.now c.args.from c.args.to c.args.now) in
    c.in_ok-push_sum.ensures
    ∙ ap (λ t. t ++ sum_text (c.saturating_sub.result - c.time_of.result)) (c.in_ok-text.ensures ∙ ap (table columns) (c.in_ok-cells.ensures ∙ ap (map (gap_cells c.args.zone.now)) c.in_ok-found.ensures.value))
    ∙ ap (λ n. table columns (map (gap_cells c.args.zone.now) (gaps c.args.rows.now c.args.from c.args.to c.args.now)) ++ sum_text n) free
