use Rattle.std.proofs.Common.{ap, subst, inl, ◌∙◌}
use Rattle.tw_files.specs.FolderFiles.{IsThere, path_in}
use Rattle.tw_files.proofs.FolderFiles.{passed_on, out_of_memory, unread}
use Rattle.tw_files.proofs.file_folder.FileFolder.file_bytes.Goals as goal

pub returns-in_err-path-clause-failed : goal.returns-in_err-path-clause-failed
returns-in_err-path-clause-failed g c = out_of_memory c.from_residual.result _ _ c.from_residual.ensures.1

pub returns-in_err-find-clause-failed : goal.returns-in_err-find-clause-failed
returns-in_err-find-clause-failed g c = passed_on c.from_residual-in_err-find.result _ _ c.from_residual-in_err-find.ensures.1 (inl c.in_err-find.ensures.failed)

pub returns-in_err-bytes_of-in-Some-clause-failed : goal.returns-in_err-bytes_of-in-Some-clause-failed
returns-in_err-bytes_of-in-Some-clause-failed g c =
    let path = c.as_str-2.ensures.value ∙ c.in_ok-path.ensures ∙ ap (λ folder. path_in folder c.args.name.now) c.as_str.ensures.value in
    let under = subst (IsThere _ (g.S.Folders.has c.find.new.self c.as_str-2.result.now)) c.in-Some.is c.in_ok-find.ensures.there in
    passed_on c.from_residual-in_err-bytes_of-in-Some.result _ _ c.from_residual-in_err-bytes_of-in-Some.ensures.1
    (unread _ c.in_err-bytes_of-in-Some.field-0.0 _ (g.S.Folders.has c.find.new.self) _ _ path under c.in_err-bytes_of-in-Some.ensures.failed)
