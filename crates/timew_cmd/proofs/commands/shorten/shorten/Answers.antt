use Rattle.std.proofs.Common.{ap, sym, subst, ◌∙◌}
use Rattle.timew_interval.specs.Edit.{edited}
use Rattle.timew_cmd.specs.Planned.{Answers}
use Rattle.timew_cmd.specs.Replacing.{replaced}
use Rattle.timew_cmd.specs.Commands.Shorten.{shorter}
use Rattle.timew_cmd.proofs.RowAt.{row_of_id, closed_in_range}
use Rattle.timew_cmd.proofs.ShortenedBy.{shortened_is}
use Rattle.timew_cmd.proofs.commands.shorten.shorten.Goals as goal

pub shorter-requires : goal.shorter-requires
shorter-requires c = closed_in_range c.args.parts.now.word c.in_ok-row.row.now.start c.in_ok-row.row.now.end c.in_ok-end.end (row_of_id c.args.parts.now.id c.args.rows.now c.in_ok-row.row.now c.requires c.in_ok-row.ensures).end c.in_ok-end.ensures

pub returns-clause-shortened : goal.returns-clause-shortened
returns-clause-shortened c =
    let small = closed_in_range c.args.parts.now.word c.in_ok-row.row.now.start c.in_ok-row.row.now.end c.in_ok-end.end (row_of_id c.args.parts.now.id c.args.rows.now c.in_ok-row.row.now c.requires c.in_ok-row.ensures).end c.in_ok-end.ensures in
    subst (Answers (λ e. edited e c.args.rows.now) c.replace.result)
    (ap (λ n. replaced c.args.parts.now.word c.args.parts.now.id c.args.parts.now.adjust n c.args.rows.now) c.in_ok-new.ensures
    ∙ sym (shortened_is c.args.parts.now.id c.args.parts.now.word c.args.parts.now.length c.args.parts.now.adjust c.args.rows.now c.in_ok-row.row.now c.in_ok-end.end _ c.in_ok-row.ensures c.in_ok-end.ensures c.in_ok-seconds.ensures.ok.0 small (ap (λ n. shorter c.args.parts.now.word c.in_ok-row.row.now.start c.in_ok-end.end n) (sym c.in_ok-seconds.ensures.ok.1) ∙ c.in_ok-end-2.ensures)))
    c.replace.ensures.replaced
