use Rattle.std.proofs.Common.{◌∙◌, sym, ap, ◌-◌, arith, Some}
use Rattle.timew_store.specs.Loading.{files_or}
use Rattle.timew_month.specs.Records.{changes_of}
use Rattle.timew_store.proofs.AfterLoading.{last_by_number}
use Rattle.timew_store.proofs.StepFiles.{files_of_step}
use Rattle.timew_store.proofs.LoadRefusals.{passed_on, last_refused}
use Rattle.timew_store.proofs.Prepares.{file_names}
use Rattle.timew_store.proofs.load.last_files.Goals as goal

pub returns-in_err-last-clause-refused : goal.returns-in_err-last-clause-refused
returns-in_err-last-clause-refused g c =
    passed_on c.from_residual.result _ _ c.from_residual.ensures.1
    (last_refused g.D.Disk.model c.args.disk.now c.read_step.new.disk c.args.journal.now (c.count-count.result - 1) c.in_err-last.field-0.0 (omega (arith, c.count-count.ensures, c.if-count-eq0.false)) c.in_err-last.ensures.refused)

pub returns-clause-value : goal.returns-clause-value
returns-clause-value g c = λ bodies on.
    last_by_number bodies (c.count-count.result - 1) (omega (arith, on.count, c.count-count.ensures, c.if-count-eq0.false))
    ∙ ap files_or (c.in_ok-last.ensures.step bodies on)
    ∙ ap Some (files_of_step c.in_ok-last.last ∙ ap changes_of (sym c.into_files.ensures))

pub returns-clause-names : goal.returns-clause-names
returns-clause-names g c = file_names c.into_files.result.items (rw c.into_files.ensures c.in_ok-last.ensures.names)
