use Rattle.std.proofs.Common.{ap, sym, subst, ◌∙◌, arith}
use Rattle.std.specs.List.{flat_map}
use Rattle.timew_month.specs.Body.{AreMonths}
use Rattle.timew_interval.specs.Edit.{edited}
use Rattle.timew_month.specs.Gathered.{files_of}
use Rattle.timew_month.specs.NamedFiles.{one_change, names_in, with_names}
use Rattle.timew_month.specs.MonthTexts.{texts_of}
use Rattle.timew_month.specs.Records.{changes_of}
use Rattle.timew_month.proofs.ChangesByName.{AreMonthNames, changes_same, changed_end, with_good}
use Rattle.timew_month.proofs.FilesHold.{files_hold_rows}
use Rattle.timew_month.proofs.MonthsAfter.{kept_good}
use Rattle.timew_month.proofs.ChangesByName.{each_month}
use Rattle.timew_month.proofs.write.changes.changes_to.Goals as goal

pub returns-clause-changes : goal.returns-clause-changes
returns-clause-changes c = λ files is.
    let kept = files_of c.args.months.now.files.items in
    let texts = texts_of c.in-Ok.texts.items in
    let names = c.deref-name-items.result.now in
    changed_end kept texts names c.loop-name.name-index (changes_of c.loop-name.changes.items) (flat_map (one_change kept texts) names) (omega arith) c.loop-name.invariant
    ∙ ap (flat_map (one_change kept texts)) (c.deref-name-items.ensures.value ∙ c.in_ok-names.ensures)
    ∙ changes_same files kept texts (edited c.args.edit.now c.args.months.now.rows) is c.in-Ok.ensures

pub returns-clause-named : goal.returns-clause-named
returns-clause-named c =
    let kept = files_of c.args.months.now.files.items in
    let texts = texts_of c.in-Ok.texts.items in
    let names = c.deref-name-items.result.now in
    let good : AreMonthNames (with_names texts (names_in kept)) = with_good texts (names_in kept) (c.in-Ok.ensures.good tt) (kept_good c.args.months.now.files.items c.args.months.now.named) in
    subst AreMonths (sym (changed_end kept texts names c.loop-name.name-index (changes_of c.loop-name.changes.items) (flat_map (one_change kept texts) names) (omega arith) c.loop-name.invariant))
    (each_month kept texts names (subst AreMonthNames (sym (c.deref-name-items.ensures.value ∙ c.in_ok-names.ensures)) good))

pub returns-clause-writable : goal.returns-clause-writable
returns-clause-writable c = c.in-Ok.ensures.writable

pub returns-clause-hold : goal.returns-clause-hold
returns-clause-hold c = λ files. files_hold_rows files (edited c.args.edit.now c.args.months.now.rows) c.requires.are c.in-Ok.ensures.writable
