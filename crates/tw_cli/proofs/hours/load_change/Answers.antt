use Rattle.std.proofs.Common.{◌≡◌, ◌∙◌, ap, sym, subst, List}
use Rattle.tw_journal.specs.Journal.{journal_end}
use Rattle.tw_journal.specs.declared.journal.Journal.{Journal}
use Rattle.tw_model.specs.Ops.{TasksValue}
use Rattle.tw_replica.specs.Prepared.{prepared_state}
use Rattle.timew_interval.specs.Edit.{edited, IsEditOf}
use Rattle.timew_store.specs.Prepared.{PrepareRefused}
use Rattle.timew_store.specs.Store.{rows_after, is_store_closed}
use Rattle.timew_interval.specs.declared.interval.Interval.{Interval}
use Rattle.timew_bridge.specs.Known.{AreDrivers}
use Rattle.tw_cli.specs.Driving.{driven}
use Rattle.tw_cli.proofs.LoadedHours.{loaded_stays, passes_hours}
use Rattle.tw_cli.proofs.Openings.{no_longer}
use Rattle.tw_cli.proofs.hours.load_change.Goals as goal

pub prepare-requires : goal.prepare-requires
prepare-requires g c = record { edit = subst (λ (rows : List Interval). IsEditOf rows c.in-Ok-edit_by.edit) c.intervals.ensures c.in-Ok-edit_by.ensures.edit }

-- nothing is loaded
pub returns-in-Err-clause-refused : goal.returns-in-Err-clause-refused
returns-in-Err-clause-refused g c = (c.in-Err.ensures.refused, c.in-Err.ensures.stays, c.in-Err.ensures.sound)

-- there is no memory for the change
pub returns-in_default-clause-refused : goal.returns-in_default-clause-refused
returns-in_default-clause-refused g c =
    loaded_stays g.F.Folder.model g.J.Disk.model c.in-Ok.store c.args.folder.now c.load.new.folder c.args.track.now c.load.new.disk c.in-Ok.ensures.loaded g.met.F.Folder.seen_may_stay g.met.J.Disk.seen_may_stay

pub returns-in-Err-Memory-clause-refused : goal.returns-in-Err-Memory-clause-refused
returns-in-Err-Memory-clause-refused g c =
    loaded_stays g.F.Folder.model g.J.Disk.model c.in-Ok.store c.args.folder.now c.load.new.folder c.args.track.now c.load.new.disk c.in-Ok.ensures.loaded g.met.F.Folder.seen_may_stay g.met.J.Disk.seen_may_stay

-- its record passes the limit
pub returns-in-Err-TooLong-clause-refused : goal.returns-in-Err-TooLong-clause-refused
returns-in-Err-TooLong-clause-refused g c =
    passes_hours g.F.Folder.model g.J.Disk.model c.in-Ok.store c.args.folder.now c.load.new.folder c.args.track.now c.load.new.disk c.in-Ok.ensures.loaded g.met.F.Folder.seen_may_stay g.met.J.Disk.seen_may_stay
    c.args.now.seconds c.args.before.now.drivers (prepared_state c.args.after.now).tasks c.in-Ok-edit_by.edit c.in-Err-TooLong.bytes
    (subst (λ (rows : List Interval). (tasks : TasksValue) → AreDrivers tasks c.args.now.seconds c.args.before.now.drivers → edited c.in-Ok-edit_by.edit rows ≡ driven tasks (prepared_state c.args.after.now).tasks rows c.args.now.seconds) c.intervals.ensures c.in-Ok-edit_by.ensures.driven)
    (subst (PrepareRefused c.in-Ok.store (rows_after c.in-Ok-edit_by.edit c.in-Ok.store)) c.in-Err-TooLong.field-0-is c.in-Err-TooLong.ensures.refused)

-- a store that was loaded is not closed
pub unreachable-requires : goal.unreachable-requires
unreachable-requires g c =
    no_longer (is_store_closed c.in-Ok.store) (subst (PrepareRefused c.in-Ok.store (rows_after c.in-Ok-edit_by.edit c.in-Ok.store)) c.in-Err-Closed.field-0-is c.in-Err-Closed.ensures.refused) c.in-Ok.ensures.length.1

-- it is prepared
pub returns-in-Ok-prepare-clause-ready : goal.returns-in-Ok-prepare-clause-ready
returns-in-Ok-prepare-clause-ready g c = record {
  store = c.in-Ok.store;
  edit = c.in-Ok-edit_by.edit;
  loads = c.in-Ok.ensures.loaded;
  prepared = c.in-Ok-prepare.ensures.prepared;
  rows = subst (λ (rows : List Interval). (tasks : TasksValue) → AreDrivers tasks c.args.now.seconds c.args.before.now.drivers → edited c.in-Ok-edit_by.edit rows ≡ driven tasks (prepared_state c.args.after.now).tasks rows c.args.now.seconds) c.intervals.ensures c.in-Ok-edit_by.ensures.driven;
  length = c.in-Ok.ensures.length.0 ∙ ap (λ (j : Journal). journal_end j) (sym c.in-Ok-prepare.ensures.prepared.journal);
}
