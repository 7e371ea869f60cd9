use Rattle.std.proofs.Common.{refl, sym, ap, subst, ◌∙◌}
use Rattle.tw_journal.specs.Journal.{is_closed}
use Rattle.timew_interval.specs.Edit.{edited}
use Rattle.timew_store.specs.Store.{intervals_of, ChangeRefused}
use Rattle.timew_store.specs.declared.error.StoreError.{StoreError}
use Rattle.timew_store.specs.declared.store.Store.{Store}
use Rattle.timew_store.proofs.prepare.PreparedChange.write.Goals as goal

pub write-requires-clause-named : goal.write-requires-clause-named
write-requires-clause-named g c = c.requires.prepared.2.made.named

pub write-requires-clause-open : goal.write-requires-clause-open
write-requires-clause-open g c = ap is_closed c.requires.prepared.2.journal ∙ c.requires.prepared.2.live

pub into_after-requires : goal.into_after-requires
into_after-requires g c = (c.requires.prepared.0.months, c.requires.prepared.1, c.requires.prepared.2.made)

pub returns-in-Ok-clause-changed : goal.returns-in-Ok-clause-changed
returns-in-Ok-clause-changed g c = λ old edit is.
    let new : Store = record { journal = c.write.new.journal; months = c.into_after.result; before = c.args.self.before } in
    c.in-Ok.ensures.changed old edit (sym is.journal) is.made new refl (c.into_after.ensures.months old.months edit is.made)

pub returns-in-Err-Folder-clause-refused : goal.returns-in-Err-Folder-clause-refused
returns-in-Err-Folder-clause-refused g c = λ old edit is.
    let new : Store = record { journal = c.write.new.journal; months = old.months; before = old.before } in
    let r = subst (λ (e : StoreError). ChangeRefused g.F.Folder.model g.D.Disk.model old new c.args.folder.now c.write.new.folder c.args.disk.now c.write.new.disk (edited edit (intervals_of old)) e) c.in-Err-Folder.field-0-is
    (c.in-Err-Folder.ensures.refused old edit (sym is.journal) is.made new refl refl) in
    (r.0, (r.1.0, c.write.new.journal, r.1.1, r.1.2))
