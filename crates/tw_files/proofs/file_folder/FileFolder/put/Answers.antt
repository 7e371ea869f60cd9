use Rattle.std.specs.Prelude.{codes, OnOk}
use Rattle.std.proofs.Common.{Some, Result, Ok, Err, ap, subst, ◌∙◌}
use Rattle.tw_files.specs.FolderFiles.{path_in}
use Rattle.tw_files.proofs.FolderFiles.{untouched, made_new, then_renamed, then_kept, put_or_not}
use Rattle.tw_files.proofs.file_folder.FileFolder.put.Goals as goal

always : {A E : Type 0} (r : Result A E) (P : Type 0) → P → OnOk r P
always (Ok x) P p = p
always (Err e) P p = tt

pub returns-clause-has : goal.returns-clause-has
returns-clause-has g c =
    let path = c.as_str-to.ensures.value ∙ c.in_ok-path.ensures ∙ ap (λ folder. path_in folder c.args.name.now) c.as_str-2.ensures.value in
    always c.sync_names.result _
    (subst (λ p. g.S.Folders.has c.sync_names.new.self p (Some c.args.bytes.now)) path
    (c.sync_names.ensures.files _ _ (c.in_ok-rename.ensures.under c.in_ok-file.ensures.at c.in_ok-file.ensures.stable c.args.bytes.now c.in_ok-file.ensures.bytes)))

pub returns-in_err-new-clause-replaces : goal.returns-in_err-new-clause-replaces
returns-in_err-new-clause-replaces g c = untouched g.S.Folders.has _ _ _ _

pub returns-in_err-path-clause-replaces : goal.returns-in_err-path-clause-replaces
returns-in_err-path-clause-replaces g c = untouched g.S.Folders.has _ _ _ _

pub returns-in_err-file-clause-replaces : goal.returns-in_err-file-clause-replaces
returns-in_err-file-clause-replaces g c =
    let from = c.as_str-from.ensures.value ∙ c.in_ok-new.ensures ∙ ap (λ folder. path_in folder (codes ".new")) c.as_str.ensures.value in
    made_new g.S.Folders.has _ _ _ _ _ _ from c.new_file.ensures.others

pub returns-in_err-rename-clause-replaces : goal.returns-in_err-rename-clause-replaces
returns-in_err-rename-clause-replaces g c =
    let from = c.as_str-from.ensures.value ∙ c.in_ok-new.ensures ∙ ap (λ folder. path_in folder (codes ".new")) c.as_str.ensures.value in
    let to = c.as_str-to.ensures.value ∙ c.in_ok-path.ensures ∙ ap (λ folder. path_in folder c.args.name.now) c.as_str-2.ensures.value in
    then_renamed g.S.Folders.has _ _ _ _ _ _ _ _ from to c.new_file.ensures.others c.rename.ensures.others
    (put_or_not g.S.Folders.has _ _ _ _ _ c.rename.ensures.either (λ put. put c.in_ok-file.ensures.at c.in_ok-file.ensures.stable c.args.bytes.now c.in_ok-file.ensures.bytes))

pub returns-clause-replaces : goal.returns-clause-replaces
returns-clause-replaces g c =
    let from = c.as_str-from.ensures.value ∙ c.in_ok-new.ensures ∙ ap (λ folder. path_in folder (codes ".new")) c.as_str.ensures.value in
    let to = c.as_str-to.ensures.value ∙ c.in_ok-path.ensures ∙ ap (λ folder. path_in folder c.args.name.now) c.as_str-2.ensures.value in
    then_kept g.S.Folders.has _ _ _ _ _ _
    (then_renamed g.S.Folders.has _ _ _ _ _ _ _ _ from to c.new_file.ensures.others c.rename.ensures.others
    (put_or_not g.S.Folders.has _ _ _ _ _ c.rename.ensures.either (λ put. put c.in_ok-file.ensures.at c.in_ok-file.ensures.stable c.args.bytes.now c.in_ok-file.ensures.bytes)))
    c.sync_names.ensures.files
