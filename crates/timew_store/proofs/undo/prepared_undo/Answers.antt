use Rattle.std.proofs.Common.{List, Some, ap, sym, subst, ◌∙◌}
use Rattle.timew_month.specs.Body.{AreMonths}
use Rattle.timew_month.specs.Gathered.{NamedBytes, files_of}
use Rattle.timew_month.specs.Files.{replaced}
use Rattle.timew_month.specs.Known.{AreKnown}
use Rattle.timew_month.specs.NamedFiles.{first_edited_in}
use Rattle.timew_month.specs.Records.{changes_of}
use Rattle.timew_store.proofs.FilesRead.{judged_files}
use Rattle.timew_store.proofs.LoadRefusals.{passed_on}
use Rattle.timew_month.proofs.MonthsAfter.{months_after, named_after}
use Rattle.timew_store.proofs.Undoes.{back_refused}
use Rattle.timew_store.proofs.ExchangedFiles.{edited_kept, exchanged_months}
use Rattle.timew_store.proofs.undo.prepared_undo.Goals as goal

pub returns-in-Some-clause-refused : goal.returns-in-Some-clause-refused
returns-in-Some-clause-refused c = λ files hold.
    sym (ap Some c.in_ok-copy.ensures ∙ c.in-Some.ensures ∙ ap (λ (k : List NamedBytes). first_edited_in k (changes_of c.args.change.items)) hold.files_are ∙ edited_kept files (changes_of c.args.change.items) c.requires.named)

pub returns-in_err-rows-clause-refused : goal.returns-in_err-rows-clause-refused
returns-in_err-rows-clause-refused c =
    passed_on c.from_residual-in_err-rows.result _ _ c.from_residual-in_err-rows.ensures.1
    (back_refused c.args.months.now c.in_ok-files.files.items (changes_of c.args.change.items) (changes_of c.in_ok-changes.changes.items) c.in_err-rows.field-0.0 (λ files hold. (
      sym (c.in_default.ensures ∙ ap (λ (k : List NamedBytes). first_edited_in k (changes_of c.args.change.items)) hold.files_are ∙ edited_kept files (changes_of c.args.change.items) c.requires.named),
      c.in_ok-files.ensures ∙ months_after files (files_of c.args.months.now.files.items) (changes_of c.in_ok-changes.changes.items) hold.files_are (subst AreMonths (sym c.in_ok-changes.ensures) (exchanged_months (changes_of c.args.change.items) c.requires.named)),
    )) c.in_ok-changes.ensures c.in_err-rows.ensures.err)

pub invariant_of-months : goal.invariant_of-months
invariant_of-months c = record {
  named = named_after c.in_ok-files.files.items c.args.months.now.files.items (changes_of c.in_ok-changes.changes.items) c.in_ok-files.ensures c.args.months.now.named (subst AreMonths (sym c.in_ok-changes.ensures) (exchanged_months (changes_of c.args.change.items) c.requires.named));
  known_are = subst (AreKnown c.in_ok-files.files.items c.in_ok-rows.rows) (sym c.new.ensures.items) tt;
}

pub returns-clause-unedited : goal.returns-clause-unedited
returns-clause-unedited c = λ files hold.
    sym (c.in_default.ensures ∙ ap (λ (k : List NamedBytes). first_edited_in k (changes_of c.args.change.items)) hold.files_are ∙ edited_kept files (changes_of c.args.change.items) c.requires.named)

pub returns-clause-months : goal.returns-clause-months
returns-clause-months c = λ files hold.
    let changes = changes_of c.in_ok-changes.changes.items in
    let are = c.in_ok-files.ensures ∙ months_after files (files_of c.args.months.now.files.items) changes hold.files_are (subst AreMonths (sym c.in_ok-changes.ensures) (exchanged_months (changes_of c.args.change.items) c.requires.named)) in
    record {
      files_are = are;
      rows_are = sym (judged_files (replaced files changes) c.in_ok-files.files.items are) ∙ c.in_ok-rows.ensures.ok;
    }
