use Rattle.std.proofs.Common.{arith, ap, ◌∙◌, List, length, get_or}
use Rattle.timew_month.specs.declared.months.NewFile.{NewFile}
use Rattle.timew_store.proofs.ReplacingByFile.{so_far_too, one_more}
use Rattle.timew_store.proofs.write.change.replace_all.Goals as goal

pub returns-in_err-replace-clause-any_moment : goal.returns-in_err-replace-clause-any_moment
returns-in_err-replace-clause-any_moment g c =
    so_far_too g.F.Folder.model g.met.F.Folder.counts_now g.met.F.Folder.only_now c.args.files.now.items c.args.folder.now c.loop-file.folder c.replace.new.self c.loop-file.file-index c.file-item.result c.loop-file.invariant
    (omega (arith, ap length c.deref-file-items.ensures.value, c.loop-file-test.true))
    (c.file-item.is ∙ ap (λ (l : List NewFile). get_or l c.loop-file.file-index c.file-item.result) c.deref-file-items.ensures.value)
    c.as_str.result.now c.deref.result.now c.as_str.ensures c.deref.ensures.value c.in_err-replace.ensures.steps

pub loop-file-preserved : goal.loop-file-preserved
loop-file-preserved g c =
    one_more g.F.Folder.model g.met.F.Folder.counts_now g.met.F.Folder.only_now c.args.files.now.items c.args.folder.now c.loop-file.folder c.replace.new.self c.loop-file.file-index c.file-item.result c.loop-file.invariant
    (omega (arith, ap length c.deref-file-items.ensures.value, c.loop-file-test.true))
    (c.file-item.is ∙ ap (λ (l : List NewFile). get_or l c.loop-file.file-index c.file-item.result) c.deref-file-items.ensures.value)
    c.as_str.result.now c.deref.result.now c.as_str.ensures c.deref.ensures.value c.in_ok-replace.ensures.steps c.in_ok-replace.ensures.replaced c.in_ok-replace.ensures.settled
