use Rattle.std.proofs.Common.{List, ap, ◌∙◌}
use Rattle.timew_month.specs.Body.{FileChange}
use Rattle.timew_month.specs.Files.{replaced}
use Rattle.timew_month.specs.Rows.{rows_of}
use Rattle.timew_store.proofs.write.prepared.record_of.Goals as goal

pub returns-clause-rows : goal.returns-clause-rows
returns-clause-rows c = λ files hold. ap (λ (changes : List FileChange). rows_of (replaced files changes)) (c.in_ok-changes.ensures.changes files hold.files_are) ∙ c.in_ok-changes.ensures.hold files
