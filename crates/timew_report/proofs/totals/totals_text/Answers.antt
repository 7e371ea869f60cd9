use Rattle.std.proofs.Common.{◌++◌, ap, ◌∙◌}
use Rattle.std.specs.List.{flat_map}
use Rattle.std.specs.FinMap.{entries}
use Rattle.timew_report.specs.Time.{time}
use Rattle.timew_report.specs.Totals.{Times}
use Rattle.timew_report.specs.Texts.{tag_line, sum_text}
use Rattle.timew_report.proofs.TagTimes.{are_totals}
use Rattle.timew_report.proofs.totals.totals_text.Goals as goal

pub returns : goal.returns
returns c =
    c.in_ok-push_sum.ensures
    ∙ ap (λ t. t ++ sum_text c.time_of.result) (c.in_ok-push_lines.ensures ∙ ap (λ l. l ++ flat_map tag_line (entries c.in_ok-times.times)) c.new-text.ensures.items)
    ∙ ap (λ n. flat_map tag_line (entries c.in_ok-times.times) ++ sum_text n) c.time_of.ensures
    ∙ ap (λ (m : Times). flat_map tag_line (entries m) ++ sum_text (time c.args.rows.now c.args.from c.args.to c.args.now))
    (are_totals c.args.rows.now c.args.from c.args.to c.args.now c.in_ok-times.times c.in_ok-times.ensures)
