-- The steps by which a command drives hours: what intervals ask of its tasks, the change that is ready, and the change that is written.
use Rattle.std.specs.Prelude.{◌≡◌, ◌⊎◌, ◌<◌, ◌^◌, ℕ, Bool, true, false, List, length, drop, Option, Some, None, Result, Ok, Err}
use Rattle.std.specs.Global.{Vec}
use Rattle.tw_world.specs.Disk.{DiskModel, Rose}
use Rattle.tw_world.specs.Disk as disk
use Rattle.tw_world.specs.Crash as crash
use Rattle.tw_world.specs.Folder.{FolderModel}
use Rattle.tw_world.specs.declared.ids.IdWords.{IdWords}
use Rattle.tw_spawn.specs.Spawner.{SpawnerModel}
use Rattle.tw_model.specs.Ops.{TasksValue}
use Rattle.tw_model.specs.LocalOps.{apply_all_local}
use Rattle.tw_state.specs.State.{State}
use Rattle.tw_replica.specs.Opening.{IsOpenedReplica}
use Rattle.tw_replica.specs.Replica.{held_state, is_replica_closed, IsLengthKept, RecordsAfter, with_more}
use Rattle.tw_replica.specs.Replica.{LeavesRecords as LeavesAny}
use Rattle.tw_replica.specs.Prepared.{prepared_state, prepared_bodies, IsWithinLimit, RecordsOrAll, PreparedRefused}
use Rattle.tw_replica.specs.declared.replica.Replica.{Replica}
use Rattle.tw_replica.specs.declared.step.write.Prepared.{Prepared}
use Rattle.tw_replica.specs.declared.error.WriteError.TheVariants as writes
use Rattle.tw_changes.specs.declared.request.Request.{Request}
use Rattle.timew_interval.specs.Edit.{edited}
use Rattle.timew_store.specs.Held.{Held, IfTheyOpen}
use Rattle.timew_store.specs.Loading.{Stays, LeavesAlike}
use Rattle.timew_store.specs.Prepared.{IsPreparedChange, OnPrepared, prepared_end}
use Rattle.timew_month.specs.Rows.{rows_of}
use Rattle.timew_store.specs.Store.{LoadsStore, LoadRefused, LoadSparesDisk, IsLoadFault, LeavesChange, IsChangedTo, intervals_of}
use Rattle.timew_interval.specs.declared.edit.Edit.{Edit}
use Rattle.timew_interval.specs.declared.interval.Interval.{Interval}
use Rattle.timew_store.specs.declared.store.Store.{Store}
use Rattle.timew_store.specs.declared.prepare.PreparedChange.{PreparedChange}
use Rattle.timew_bridge.specs.declared.drivers.Drivers.{Drivers}
use Rattle.timew_bridge.specs.Known.{AreDrivers}
use Rattle.tw_cli.specs.Deciding.{DecidedBy}
use Rattle.tw_cli.specs.Crash.{LeavesRecords}
use Rattle.tw_cli.specs.Growth.{LoadingGrows, ChangeGrows}
use Rattle.tw_cli.specs.Driving.{driven, driven_size, is_driving, Opens, MayBeLoaded, AreUnopened}
use Rattle.tw_cli.specs.declared.hours.Before.{Before}
use Rattle.tw_cli.specs.declared.carry.Made.{Made}
use Rattle.tw_cli.specs.declared.carry.CarryError.{CarryError}
use Rattle.tw_cli.specs.declared.carry.CarryError.TheVariants.{Load, HoursTooLong, TooLong, Disk, Track, Memory}

-- what intervals ask of the tasks of a state, if a request drives them
abbrev pub IsBefore : Request → State → Option Before → Type 0
IsBefore request old None = is_driving request ≡ false
IsBefore request old (Some b) = (is_driving request ≡ true) × AreDrivers old.tasks request.at.seconds b.drivers × (b.pending ≡ length old.pending)

-- why nothing is made, which comes before the hours are opened
abbrev pub SparesHours : CarryError → Type 0
SparesHours (Load e) = ⊥
SparesHours (HoursTooLong bytes) = ⊥
SparesHours Track = ⊥
SparesHours e = Unit {0}

-- if a step made operations, they lead from these tasks to those of its state
abbrev pub LeadsFrom : (tasks : TasksValue) → (pending : ℕ) → (new : State) → Type 0
LeadsFrom tasks pending new = pending < length new.pending → new.tasks ≡ apply_all_local tasks (drop pending new.pending)

-- there are tasks of which they ask this, and from which a step led to a state
abbrev pub KnowsBefore : (now : ℕ) → Before → (new : State) → Type 0
KnowsBefore now b new = (tasks : TasksValue) × AreDrivers tasks now b.drivers × LeadsFrom tasks b.pending new

abbrev pub KnowsTasks : (now : ℕ) → Option Before → (new : State) → Type 0
KnowsTasks now None new = Unit {0}
KnowsTasks now (Some b) new = KnowsBefore now b new

-- a change is prepared for a journal of this length
abbrev pub CanBeWritten : {J : Type 0} → DiskModel J → J → Option PreparedChange → Type 0
CanBeWritten n track None = Unit {0}
CanBeWritten n track (Some change) = ((old : Store) × (edit : Edit) × IsPreparedChange old edit change) × (n.len track ≡ prepared_end change)

module _ {F J : Type 0} (m : FolderModel F) (n : DiskModel J) where
  -- the hours are loaded, and the change is prepared by which tasks drive them
  pub record IsReadyChange (now : ℕ) (before : Drivers) (after : TasksValue) (f0 f1 : F) (j0 j1 : J) (change : PreparedChange) : Type 0 where
    pub store : Store
    pub edit : Edit
    pub loads : LoadsStore m n f0 f1 j0 j1 store
    pub prepared : IsPreparedChange store edit change
    pub rows : (tasks : TasksValue) → AreDrivers tasks now before → edited edit (intervals_of store) ≡ driven tasks after (intervals_of store) now
    pub length : n.len j1 ≡ prepared_end change

  -- the hours are ready for what a command drives, or unopened if it drives nothing
  abbrev pub AreReady : (now : ℕ) → Option Before → (new : State) → (f0 f1 : F) (j0 j1 : J) → Option PreparedChange → Type 0
  AreReady now None new f0 f1 j0 j1 None = AreUnopened m n f0 f1 j0 j1
  AreReady now None new f0 f1 j0 j1 (Some change) = ⊥
  AreReady now (Some b) new f0 f1 j0 j1 None = (b.pending ≡ length new.pending) × AreUnopened m n f0 f1 j0 j1
  AreReady now (Some b) new f0 f1 j0 j1 (Some change) = ¬ (b.pending ≡ length new.pending) × IsReadyChange now b.drivers new.tasks f0 f1 j0 j1 change

  module _ (f0 f1 : F) (j0 j1 : J) where
    -- the hours can be loaded, and the record of the change passes its limit
    pub record PassesHours (now : ℕ) (before : Drivers) (after : TasksValue) (bytes : ℕ) : Type 0 where
      pub above : 2 ^ 30 < bytes
      pub loads : MayBeLoaded m n f0 j0
      pub stays : Stays m n f0 f1 j0 j1
      pub size : (held : Held) → Opens m n f0 j0 held → (rows : List Interval) → rows_of held.files ≡ Ok rows
          → (tasks : TasksValue) → AreDrivers tasks now before → bytes ≡ driven_size held.files tasks after rows now

    -- why they are not ready
    abbrev pub ChangeRefused : (now : ℕ) → Drivers → (after : TasksValue) → CarryError → Type 0
    ChangeRefused now before after (Load e) = LoadRefused m n f0 f1 j0 j1 e × (LoadSparesDisk e → Stays m n f0 f1 j0 j1) × IfTheyOpen m n f0 j0 (IsLoadFault e)
    ChangeRefused now before after (HoursTooLong bytes) = PassesHours now before after bytes
    ChangeRefused now before after Memory = Stays m n f0 f1 j0 j1
    ChangeRefused now before after other = ⊥

    abbrev pub HoursRefused : (now : ℕ) → Option Before → (after : TasksValue) → CarryError → Type 0
    HoursRefused now None after e = ⊥
    HoursRefused now (Some b) after e = ChangeRefused now b.drivers after e

    -- a crash leaves what opens as before
    abbrev pub LeavesLoaded : Type 0
    LeavesLoaded = AreUnopened m n f0 f1 j0 j1 ⊎ LeavesAlike m n f0 f1 j0 j1

    -- the change is written, or folder or journal failed
    abbrev pub ChangeEnds : PreparedChange → Bool → Type 0
    ChangeEnds change true = (new : Store) × OnPrepared change (λ old rows. IsChangedTo m n old new f0 f1 j0 j1 rows)
        × OnPrepared change (λ old rows. intervals_of new ≡ rows)
    ChangeEnds change false = Rose (m.faults f0) (m.faults f1) ⊎ Rose (n.faults j0) (n.faults j1)

    abbrev pub HoursEnd : Option PreparedChange → Bool → Type 0
    HoursEnd None well = (well ≡ true) × AreUnopened m n f0 f1 j0 j1
    HoursEnd (Some change) well = ChangeEnds change well

    -- a crash leaves the hours before, or those after the change
    abbrev pub HoursLeave : Option PreparedChange → Type 0
    HoursLeave None = AreUnopened m n f0 f1 j0 j1
    HoursLeave (Some change) = OnPrepared change (λ old rows. LeavesChange m n old f0 f1 j0 j1 rows)

-- ---- the record of the tasks, and then the change of the hours

-- the record of a step is written, if it has one
pub record IsWritten {D : Type 0} (m : DiskModel D) (p : Prepared) (d0 d1 : D) : Type 0 where
  pub replica : Replica
  pub state : held_state replica ≡ prepared_state p
  pub journal : RecordsAfter m p.journal replica.journal d0 d1 (with_more (prepared_bodies p))
  pub within : IsWithinLimit (prepared_bodies p)

module _ {D F J : Type 0} (m : DiskModel D) (folders : FolderModel F) (tracks : DiskModel J) (p : Prepared) (d0 d1 : D) (f0 f1 : F) (j0 j1 : J) where
  -- both are written, or the hours failed after the record, or the record is refused and the hours are as they were
  abbrev pub WriteEnds : Option PreparedChange → Option CarryError → Type 0
  WriteEnds hours None = IsWritten m p d0 d1 × HoursEnd folders tracks f0 f1 j0 j1 hours true
  WriteEnds hours (Some Track) = IsWritten m p d0 d1 × HoursEnd folders tracks f0 f1 j0 j1 hours false
  WriteEnds hours (Some Disk) = Rose (m.faults d0) (m.faults d1) × AreUnopened folders tracks f0 f1 j0 j1
  WriteEnds hours (Some (TooLong bytes)) = PreparedRefused m p d0 d1 (writes.TooLong bytes) × AreUnopened folders tracks f0 f1 j0 j1
  WriteEnds hours (Some other) = ⊥

  -- a crash leaves the records before, or those and the new one; and the hours are changed after that alone
  pub record WriteLeaves (hours : Option PreparedChange) : Type 0 where
    pub disk : LeavesAny m p.journal d0 d1 (λ bodies. RecordsOrAll bodies (prepared_bodies p))
    pub hours_after : AreUnopened folders tracks f0 f1 j0 j1 ⊎ (IsWritten m p d0 d1 × HoursLeave folders tracks f0 f1 j0 j1 hours)
    pub growth : ChangeGrows tracks j0 j1 hours

-- ---- a command that is made in memory

-- a command is made in memory over the replica that a disk holds, and it is known what intervals ask of the tasks before it
pub record IsMade {D P : Type 0} (m : DiskModel D) (hooks : SpawnerModel P) (request : Request) (ids : IdWords) (d0 d1 : D) (p0 p1 : P)
    (made : Made) : Type 0 where
  pub replica : Replica
  pub opened : disk.Tells m d0 → IsOpenedReplica m d0 d1 replica
  pub decided : DecidedBy hooks request ids p0 p1 replica made.ready
  pub before : IsBefore request (held_state replica) made.before
  pub at : made.at ≡ request.at
  pub live : is_replica_closed replica ≡ false
  pub length : IsLengthKept m replica d1
  pub leaves : LeavesRecords m d0 d1

abbrev pub error_in : {A : Type 0} → Result A CarryError → Option CarryError
error_in (Ok a) = None
error_in (Err e) = Some e

module _ {D F J : Type 0} (m : DiskModel D) (folders : FolderModel F) (tracks : DiskModel J) (made : Made) (d0 d1 : D) (f0 f1 : F) (j0 j1 : J) where
  abbrev pub state_made : State
  state_made = prepared_state made.ready.prepared

  -- the hours were not ready, and nothing of the command is written
  pub record EndsUnready (e : CarryError) : Type 0 where
    pub refused : HoursRefused folders tracks f0 f1 j0 j1 made.at.seconds made.before state_made.tasks e
    pub leaves : LeavesLoaded folders tracks f0 f1 j0 j1
    pub growth : LoadingGrows tracks j0 j1
    pub disk : d1 ≡ d0

  -- they were ready, and the record was written, or refused
  pub record EndsReady (error : Option CarryError) : Type 0 where
    pub mid : F
    pub track : J
    pub hours : Option PreparedChange
    pub ready : AreReady folders tracks made.at.seconds made.before state_made f0 mid j0 track hours
    pub loaded : LeavesLoaded folders tracks f0 mid j0 track
    pub growth : LoadingGrows tracks j0 track
    pub folder_kept : crash.FaultsRise folders f0 mid
    pub track_kept : disk.FaultsRise tracks j0 track
    pub ends : WriteEnds m folders tracks made.ready.prepared d0 d1 mid f1 track j1 hours error
    pub leaves : WriteLeaves m folders tracks made.ready.prepared d0 d1 mid f1 track j1 hours

  -- how a command ended that was made
  abbrev pub MadeEnds : Result (Vec ℕ) CarryError → Type 0
  MadeEnds (Ok text) = (text.items ≡ made.ready.text.items) × EndsReady None
  MadeEnds (Err e) = EndsUnready e ⊎ EndsReady (Some e)
