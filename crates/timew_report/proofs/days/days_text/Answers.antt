use Rattle.std.proofs.Common.{◌++◌, ap, ◌∙◌}
use Rattle.std.specs.List.{flat_map}
use Rattle.timew_report.specs.declared.days.Day.{Day}
use Rattle.timew_report.specs.Days.{days}
use Rattle.timew_report.specs.Texts.{name_of, line_text, day_line, sum_text}
use Rattle.timew_report.proofs.Walked.{day_lines}
use Rattle.timew_report.proofs.days.days_text.Goals as goal

pub returns : goal.returns
returns c =
    c.in_ok-push_sum.ensures
    ∙ ap (λ t. t ++ sum_text c.time_of.result) (c.in_ok-push_days.ensures ∙ ap (λ l. l ++ flat_map (λ (d : Day). line_text (name_of c.args.span c.args.zone.now d.start) d.seconds) c.in_ok-found.found.items) c.new-text.ensures.items
    ∙ day_lines c.args.span c.args.zone.now c.args.rows.now c.args.to c.args.now c.in_ok-found.found.items c.in_ok-found.ensures.good
    ∙ ap (flat_map (day_line c.args.span c.args.zone.now c.args.rows.now c.args.to c.args.now)) c.in_ok-found.ensures.value)
    ∙ ap (λ n. flat_map (day_line c.args.span c.args.zone.now c.args.rows.now c.args.to c.args.now) (days c.args.span c.args.zone.now c.args.rows.now c.args.from c.args.to c.args.now) ++ sum_text n) c.time_of.ensures
