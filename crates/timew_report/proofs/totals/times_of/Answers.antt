use Rattle.std.specs.FinMap.{get, get-empty}
use Rattle.std.proofs.Common.{sym, ap, ◌∙◌}
use Rattle.std.proofs.lemmas.List.{take_all}
use Rattle.std.specs.List.{list_any}
use Rattle.tw_world.specs.Folder.{bytes_cmp, same_bytes}
use Rattle.timew_interval.specs.Interval.{Content}
use Rattle.timew_cmd.proofs.Totals.{row_here}
use Rattle.timew_report.specs.Totals.{unless_zero}
use Rattle.timew_report.proofs.Seconds.{sums}
use Rattle.timew_report.proofs.Tags.{row_more, tag_sum}
use Rattle.timew_report.proofs.totals.times_of.Goals as goal

pub loop-row-init : goal.loop-row-init
loop-row-init c = λ tag. ap (λ m. get m tag) c.new-times.ensures ∙ get-empty bytes_cmp tag

pub add_row-requires : goal.add_row-requires
add_row-requires c = (row_here c.args.rows.now c.loop-row.row-index c.row-item.result c.requires c.loop-row-test.true c.row-item.is).rise

pub loop-row-preserved : goal.loop-row-preserved
loop-row-preserved c = λ tag. row_more tag c.args.from c.args.to c.args.now c.loop-row.row-index c.args.rows.now c.row-item.result (get c.loop-row.times tag) (get c.add_row.new.times tag) c.loop-row-test.true c.row-item.is (c.loop-row.invariant tag) (c.in_ok-add_row.ensures tag)

pub returns : goal.returns
returns c = λ tag.
    c.loop-row.invariant tag
    ∙ ap (λ l. unless_zero (sums (λ (k : Content). list_any (same_bytes tag) k.tags) c.args.from c.args.to c.args.now l)) (take_all c.loop-row.row-index c.args.rows.now c.loop-row-test.false)
    ∙ ap unless_zero (sym (tag_sum tag c.args.rows.now c.args.from c.args.to c.args.now c.requires))
