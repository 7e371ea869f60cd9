use Rattle.std.proofs.Common.{◌⊎◌, map, subst, IfErr, Some, None}
use Rattle.std.proofs.lemmas.List.Sorted.{IsPermutation-map}
use Rattle.std.specs.String.{string_bytes}
use Rattle.tw_files.specs.FolderFiles.{FailsAlone}
use Rattle.tw_files.proofs.FolderFiles.{passed_on, out_of_memory}
use Rattle.tw_files.proofs.file_folder.FileFolder.sorted_names.Goals as goal

pub returns-in_err-names-clause-failed : goal.returns-in_err-names-clause-failed
returns-in_err-names-clause-failed g c =
    subst (λ p. IfErr c.from_residual.result (λ e. FailsAlone _ e ⊎ g.S.Folders.lists c.list.new.self p None)) c.as_str.ensures.value
    (passed_on c.from_residual.result _ _ c.from_residual.ensures.1 c.in_err-names.ensures.failed)

pub returns-in_err-sort-clause-failed : goal.returns-in_err-sort-clause-failed
returns-in_err-sort-clause-failed g c = out_of_memory c.from_residual-in_err-sort.result _ _ c.from_residual-in_err-sort.ensures.1

pub returns-clause-listed : goal.returns-clause-listed
returns-clause-listed g c =
    let found = map string_bytes c.in_ok-names.names.items in
    record {
      found = found;
      listed = subst (λ p. g.S.Folders.lists c.list.new.self p (Some found)) c.as_str.ensures.value c.in_ok-names.ensures.all;
      same = IsPermutation-map string_bytes _ _ c.sort.ensures.permutation;
      rising = c.in_ok-sort.ensures.sorted;
    }
