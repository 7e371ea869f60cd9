use Rattle.std.proofs.Common.{◌≡◌, ◌++◌, List, get_or, refl, ap, ◌∙◌, subst, arith}
use Rattle.timew_month.specs.declared.months.MonthFile.{MonthFile}
use Rattle.timew_month.specs.declared.read.gathered.Gathered.{Gathered}
use Rattle.timew_month.specs.Month.{lines}
use Rattle.timew_month.specs.Rows.{Found, found_from}
use Rattle.timew_month.specs.Gathered.{IsGathered, files_of, lines_in}
use Rattle.timew_month.proofs.GatheredLines.{files_go_on, files_end, lines_sorted}
use Rattle.timew_month.proofs.read.gathered.gather.Goals as goal

pub loop-file-preserved : goal.loop-file-preserved
loop-file-preserved c =
    let st = c.loop-file.invariant in
    let file = c.file-item.result in
    let here : file ≡ get_or c.args.files.now.items c.loop-file.file-index file = c.file-item.is ∙ ap (λ (l : List MonthFile). get_or l c.loop-file.file-index file) c.deref-file-items.ensures.value in (
      st.0 ++ found_from file.name 1 (lines file.bytes.items),
      c.in_ok-gather_file.ensures st.0 st.1,
      files_go_on st.0 c.args.files.now.items c.loop-file.file-index file (lines_in (files_of c.args.files.now.items)) (omega arith) here st.2,
    )

pub returns : goal.returns
returns c =
    let st = c.loop-file.invariant in
    let new : Gathered = record { spots = c.loop-file.gathered.spots; seats = c.sort.new.seats } in
    subst (λ (l : List Found). IsGathered l new) (files_end st.0 c.args.files.now.items c.loop-file.file-index (lines_in (files_of c.args.files.now.items)) (omega arith) st.2)
    (lines_sorted st.0 c.loop-file.gathered new st.1 refl c.in_ok-sort.ensures)
