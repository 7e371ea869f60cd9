use Rattle.std.proofs.Common.{◌∙◌}
use Rattle.tw_world.specs.Turns.{crash_of}
use Rattle.timew_store.specs.Loading.{OpensAlike}
use Rattle.timew_store.specs.Store.{IsLoadFault}
use Rattle.timew_store.proofs.LoadRefusals.{passed_on, finish_refused, months_refused, months_fault, store_fault, store_loaded}
use Rattle.timew_store.proofs.ReadingCalls.{turns_then_reads}
use Rattle.timew_store.proofs.Stays.{months_stay, spares_too}
use Rattle.timew_store.proofs.store.Store.load.Goals as goal

pub returns-in_err-journal-clause-refused : goal.returns-in_err-journal-clause-refused
returns-in_err-journal-clause-refused g c =
    passed_on c.from_residual.result _ _ c.from_residual.ensures.1
    (finish_refused g.F.Folder.model g.D.Disk.model c.args.folder.now c.open_and_finish.new.folder c.args.disk.now c.open_and_finish.new.disk c.in_err-journal.field-0.0 c.in_err-journal.ensures.refused)

pub returns-in_err-journal-clause-sound : goal.returns-in_err-journal-clause-sound
returns-in_err-journal-clause-sound g c = λ held tells opens.
    passed_on c.from_residual.result _ IsLoadFault c.from_residual.ensures.1 (store_fault c.in_err-journal.field-0.0 (c.in_err-journal.ensures.sound held tells opens))

pub returns-in_err-months-clause-any_moment : goal.returns-in_err-months-clause-any_moment
returns-in_err-months-clause-any_moment g c = λ told settled tells.
    turns_then_reads g.F.Folder.model (crash_of g.D.Disk.model) g.met.F.Folder.counts_now g.met.F.Folder.only_now (OpensAlike g.F.Folder.model g.D.Disk.model c.args.folder.now c.args.disk.now)
    c.args.folder.now c.args.disk.now c.open_and_finish.new.folder c.open_and_finish.new.disk c.read_months.new.folder (c.open_and_finish.ensures.any_moment told settled tells) (c.open_and_finish.ensures.folder.tells ∙ told) c.read_months.ensures.reads.steps

pub returns-in_err-months-clause-refused : goal.returns-in_err-months-clause-refused
returns-in_err-months-clause-refused g c =
    passed_on c.from_residual-in_err-months.result _ _ c.from_residual-in_err-months.ensures.1
    (months_refused g.F.Folder.model g.D.Disk.model c.args.folder.now c.open_and_finish.new.folder c.read_months.new.folder c.args.disk.now c.open_and_finish.new.disk c.in_ok-journal.journal c.in_err-months.field-0.0 c.open_and_finish.ensures.folder c.read_months.ensures.reads c.in_ok-journal.ensures.loaded c.in_err-months.ensures.refused)

pub returns-in_err-months-clause-sound : goal.returns-in_err-months-clause-sound
returns-in_err-months-clause-sound g c = λ held tells opens.
    passed_on c.from_residual-in_err-months.result _ IsLoadFault c.from_residual-in_err-months.ensures.1 (months_fault g.F.Folder.model c.open_and_finish.new.folder c.read_months.new.folder c.in_err-months.field-0.0 c.in_err-months.ensures.refused)

pub returns-clause-any_moment : goal.returns-clause-any_moment
returns-clause-any_moment g c = λ told settled tells.
    turns_then_reads g.F.Folder.model (crash_of g.D.Disk.model) g.met.F.Folder.counts_now g.met.F.Folder.only_now (OpensAlike g.F.Folder.model g.D.Disk.model c.args.folder.now c.args.disk.now)
    c.args.folder.now c.args.disk.now c.open_and_finish.new.folder c.open_and_finish.new.disk c.read_months.new.folder (c.open_and_finish.ensures.any_moment told settled tells) (c.open_and_finish.ensures.folder.tells ∙ told) c.read_months.ensures.reads.steps

pub returns-clause-loaded : goal.returns-clause-loaded
returns-clause-loaded g c = λ tells.
    store_loaded g.F.Folder.model g.D.Disk.model c.args.folder.now c.open_and_finish.new.folder c.read_months.new.folder c.args.disk.now c.open_and_finish.new.disk _ c.open_and_finish.ensures.folder c.read_months.ensures.reads
    (c.in_ok-journal.ensures.loaded tells) c.in_ok-months.ensures.months

pub returns-in_err-journal-clause-stays : goal.returns-in_err-journal-clause-stays
returns-in_err-journal-clause-stays g c =
    passed_on c.from_residual.result _ _ c.from_residual.ensures.1
    (spares_too c.in_err-journal.field-0.0 _ c.in_err-journal.ensures.stays)

pub returns-in_err-months-clause-stays : goal.returns-in_err-months-clause-stays
returns-in_err-months-clause-stays g c =
    passed_on c.from_residual-in_err-months.result _ _ c.from_residual-in_err-months.ensures.1
    (λ spares. months_stay g.F.Folder.model g.D.Disk.model g.met.D.Disk.seen_may_stay c.args.folder.now c.args.disk.now g.met.F.Folder.seen_may_stay c.open_and_finish.new.folder c.read_months.new.folder c.open_and_finish.new.disk c.in_ok-journal.journal
    c.open_and_finish.ensures.folder c.open_and_finish.ensures.disk c.read_months.ensures.reads c.in_ok-journal.ensures.loaded)
