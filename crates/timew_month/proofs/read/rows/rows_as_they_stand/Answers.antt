use Rattle.std.proofs.lemmas.List.{get_or_read}
use Rattle.std.proofs.Common.{◌≡◌, List, Some, get_or, sym, ap, ◌∙◌, arith}
use Rattle.timew_month.specs.declared.months.MonthFile.{MonthFile}
use Rattle.timew_month.specs.Month.{month_rows}
use Rattle.timew_month.proofs.FilesInOrder.{one_file_more, stand_in_order}
use Rattle.timew_month.proofs.LinesOfFile.{read_after}
use Rattle.timew_month.proofs.read.rows.rows_as_they_stand.Goals as goal

pub loop-at-preserved : goal.loop-at-preserved
loop-at-preserved c =
    let items = c.args.files.now.items in
    let i = c.loop-at.at in
    let file = c.file-item.result in
    let here : file ≡ get_or items i file = c.file-item.is ∙ ap (λ (l : List MonthFile). get_or l i file) c.deref-file-items.ensures.value in
    let read = read_after c.loop-at.all.items (month_rows c.deref.result.now) c.in-Ok.more.items c.in-Ok.ensures.rows in
    record {
      found = one_file_more items i file c.loop-at.all.items read.0 c.in-Ok.more.items (omega arith) here (sym (ap month_rows c.deref.ensures.value) ∙ read.1) read.2 c.loop-at.invariant.found;
      are = c.in-Ok.ensures.are c.loop-at.invariant.are;
      known = c.in-Ok.ensures.known items (λ f at.
          let same : file ≡ f = get_or_read items i file (omega arith) here f ∙ sym at in
          ap (λ (g : MonthFile). g.bytes.items) (sym same) ∙ sym c.deref.ensures.value) c.loop-at.invariant.known;
    }

pub returns-in-Some-clause-rows : goal.returns-in-Some-clause-rows
returns-in-Some-clause-rows c = stand_in_order c.args.files.now.items c.loop-at.at c.loop-at.all.items (Some c.in-Some.rows) (omega arith) c.loop-at.invariant.found c.loop-at.invariant.are c.in-Some.ensures
