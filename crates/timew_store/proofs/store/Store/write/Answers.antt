use Rattle.std.proofs.Common.{List, ℕ, [], ◌∷◌, ◌++◌, sym, subst}
use Rattle.tw_journal.specs.declared.journal.Journal.{Journal}
use Rattle.timew_store.specs.Held.{IsAtRest}
use Rattle.timew_store.specs.Growth.{JournalGrowsBy, record_size}
use Rattle.timew_month.specs.Records.{changes_of}
use Rattle.timew_store.specs.Writing.{IsReadyFor}
use Rattle.timew_store.proofs.Prepares.{file_names}
use Rattle.timew_store.proofs.store.Store.write.Goals as goal

pub write_change-requires-clause-names : goal.write_change-requires-clause-names
write_change-requires-clause-names g c = file_names c.args.prepared.changes.items c.requires.named

pub returns-clause-done : goal.returns-clause-done
returns-clause-done g c = λ bodies before after ready.
    subst (λ (j : Journal). IsAtRest g.F.Folder.model g.D.Disk.model j c.write_change.new.folder c.write_change.new.disk (bodies ++ c.args.prepared.body.items ∷ []) after) (sym c.put.ensures.journal)
    (subst (λ (b : List ℕ). IsAtRest g.F.Folder.model g.D.Disk.model c.write_change.new.journal c.write_change.new.folder c.write_change.new.disk (bodies ++ b ∷ []) after) c.deref.ensures.value
    (c.in_ok-write_change.ensures.done bodies before after
    (subst (λ (b : List ℕ). IsReadyFor g.F.Folder.model g.D.Disk.model c.args.self.now.journal c.args.folder.now c.args.disk.now bodies before after b (changes_of c.args.prepared.changes.items)) (sym c.deref.ensures.value) ready)))

pub returns-in_err-write_change-clause-growth : goal.returns-in_err-write_change-clause-growth
returns-in_err-write_change-clause-growth g c =
    subst (λ (b : List ℕ). JournalGrowsBy g.D.Disk.model c.args.self.now.journal c.args.disk.now c.write_change.new.disk (record_size b)) c.deref.ensures.value c.write_change.ensures.growth

pub returns-clause-growth : goal.returns-clause-growth
returns-clause-growth g c =
    subst (λ (b : List ℕ). JournalGrowsBy g.D.Disk.model c.args.self.now.journal c.args.disk.now c.write_change.new.disk (record_size b)) c.deref.ensures.value c.write_change.ensures.growth
