use Rattle.std.proofs.Common.{sym, ◌∙◌}
use Rattle.timew_store.proofs.FilesRead.{judged_files}
use Rattle.timew_store.proofs.LoadRefusals.{passed_on, rows_refused}
use Rattle.timew_store.proofs.folder.read_months.Goals as goal

pub returns-in_err-rows-clause-refused : goal.returns-in_err-rows-clause-refused
returns-in_err-rows-clause-refused g c =
    passed_on c.from_residual-in_err-rows.result _ _ c.from_residual-in_err-rows.ensures.1
    (rows_refused g.F.Folder.model c.args.folder.now c.read_files.new.folder c.in_ok-files.files.items c.in_err-rows.field-0.0 c.in_ok-files.ensures.files c.in_err-rows.ensures.err)

pub returns-clause-months : goal.returns-clause-months
returns-clause-months g c = λ tells. record {
  files_are = c.in_ok-files.ensures.files tells;
  rows_are = sym (judged_files (g.F.Folder.model.seen c.args.folder.now) c.in_ok-files.files.items (c.in_ok-files.ensures.files tells)) ∙ c.in_ok-rows.ensures.ok;
}
