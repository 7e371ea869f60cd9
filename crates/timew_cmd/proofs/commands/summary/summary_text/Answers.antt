use Rattle.std.specs.Prelude.{codes, IfOk}
use Rattle.std.proofs.Common.{◌≡◌, ◌++◌, map, ap, ap₂, ◌∙◌, subst, List, ℕ}
use Rattle.tw_text.specs.Table.{table}
use Rattle.timew_interval.specs.declared.interval.Interval.{Interval}
use Rattle.timew_cmd.specs.Ranges.{rows_within, total}
use Rattle.timew_cmd.specs.Commands.Summary.{columns, cells, summary}
use Rattle.timew_cmd.specs.Texts.{length_text}
use Rattle.timew_cmd.proofs.commands.summary.summary_text.Goals as goal

pub returns : goal.returns
returns c =
    let rows = c.args.rows.now in
    let lines : c.in_ok-table.table.items ≡ table columns (map (cells c.args.from c.args.to c.args.now c.args.zone.now) (rows_within c.args.from c.args.to c.args.now rows)) =
    c.in_ok-table.ensures ∙ ap (table columns) (c.in_ok-cells.ensures ∙ ap (λ (l : List Interval). map (cells c.args.from c.args.to c.args.now c.args.zone.now) (rows_within c.args.from c.args.to c.args.now l)) c.as_slice-rows.ensures.value) in
    let seconds : c.total.result ≡ total c.args.from c.args.to c.args.now rows = c.total.ensures ∙ ap (total c.args.from c.args.to c.args.now) c.as_slice-rows.ensures.value in
    let all : c.in_ok-table.table.items ++ codes "\nTotal " ++ length_text c.total.result ++ codes "\n" ≡ summary rows c.args.from c.args.to c.args.now c.args.zone.now =
    ap₂ (λ (t : List ℕ) (n : ℕ). t ++ codes "\nTotal " ++ length_text n ++ codes "\n") lines seconds in
    subst (λ t. IfOk c.with_total.result (λ text. text.items ≡ t)) all c.with_total.ensures
