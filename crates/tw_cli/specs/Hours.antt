-- What a run of a command does to the hours, by the cause that it ends with, and what a crash leaves of both stores.
use Rattle.std.specs.Prelude.{◌≡◌, ◌⊎◌, ◌<◌, ◌≤◌, ◌^◌, ℕ, Bool, true, false, List, Some, Ok}
use Rattle.tw_world.specs.Disk.{DiskModel, Rose}
use Rattle.tw_world.specs.Disk as disk
use Rattle.tw_world.specs.Crash as crash
use Rattle.tw_world.specs.Folder.{Files, FolderModel}
use Rattle.tw_world.specs.Source.{SourceModel}
use Rattle.tw_world.specs.Turns.{InTurns, crash_of}
use Rattle.tw_world.specs.declared.ids.IdWords.{IdWords}
use Rattle.tw_model.specs.Ops.{TaskValue}
use Rattle.tw_spawn.specs.Spawner.{SpawnerModel}
use Rattle.tw_state.specs.State.{State}
use Rattle.tw_replica.specs.Opening.{IsOpening}
use Rattle.tw_replica.specs.Replica.{OpensTo, OpeningRefused}
use Rattle.tw_replica.specs.declared.error.OpenError.TheVariants as opening
use Rattle.tw_changes.specs.declared.request.Request.{Request}
use Rattle.timew_store.specs.Held.{Held}
use Rattle.timew_store.specs.Held.{OpensTo as OpenTo}
use Rattle.timew_store.specs.Loading.{OpensAlike}
use Rattle.timew_month.specs.Rows.{rows_of}
use Rattle.timew_store.specs.Store.{changed, LoadsStore}
use Rattle.timew_store.specs.declared.store.Store.{Store}
use Rattle.timew_interval.specs.declared.interval.Interval.{Interval}
use Rattle.tw_ending.specs.Ending.{End}
use Rattle.tw_ending.specs.Ending.End.{Well, Output, Failed}
use Rattle.tw_cli.specs.Cause.{end_of}
use Rattle.tw_cli.specs.Crash.{IsStepOf, next_of}
use Rattle.tw_cli.specs.Driving.{driven, driven_size, is_driving, Opens, MayBeLoaded, AreUnopened, AreDriven, AreSpared, AreUndriven}
use Rattle.tw_cli.specs.Growth.{HoursGrow}
use Rattle.tw_cli.specs.Hooks.{Answered}
use Rattle.tw_cli.specs.Input.{WithInput}
use Rattle.tw_cli.specs.Run.{CarriedOut, HeldBack, PassesLimit, CanBeCarriedOut, CanCarryOut}
use Rattle.tw_cli.specs.declared.cause.Cause.{Cause}
use Rattle.tw_cli.specs.declared.cause.Cause.TheVariants.{RecordTooLong, TrackFault}

-- ---- a premise

module _ {D P F J : Type 0} {m : DiskModel D} {hooks : SpawnerModel P} {request : Request} {ids : IdWords} {d0 d1 : D} {p0 p1 : P}
    (folders : FolderModel F) (tracks : DiskModel J) (can : CanBeCarriedOut m hooks request ids d0 d1 p0 p1) (f0 f1 : F) (j0 j1 : J) where
  -- a premise under which the hours of a command that can be carried out are driven, or memory runs out
  pub record HoursWell : Type 0 where
    pub held : Held
    pub opens : Opens folders tracks f0 j0 held
    pub rows : List Interval
    pub read : rows_of held.files ≡ Ok rows
    pub fits : (answers : List TaskValue) (answered : Answered hooks request ids p0 p1 can.state answers)
        → driven_size held.files can.state.tasks (can.carried answers answered).new.tasks rows request.at.seconds ≤ 2 ^ 30
    pub folder_well : Rose (folders.faults f0) (folders.faults f1) → ⊥
    pub track_well : Rose (tracks.faults j0) (tracks.faults j1) → ⊥

  abbrev pub HoursCanIf : (drives : Bool) → Type 0
  HoursCanIf true = HoursWell
  HoursCanIf false = Unit {0}

-- the same of any request: one that does not drive them wants nothing
abbrev pub HoursCan : {D S P F J : Type 0} {m : DiskModel D} {sources : SourceModel S} {hooks : SpawnerModel P} {request : Request} {ids : IdWords}
    {d0 d1 : D} {i0 i1 : S} {p0 p1 : P} → FolderModel F → DiskModel J → CanCarryOut m sources hooks request ids d0 d1 i0 i1 p0 p1
    → (f0 f1 : F) (j0 j1 : J) → Type 0
HoursCan {request = request} folders tracks can f0 f1 j0 j1 = HoursCanIf folders tracks can.can f0 f1 j0 j1 (is_driving request)

-- ---- a crash of both stores

module _ {D F J : Type 0} (m : DiskModel D) (folders : FolderModel F) (tracks : DiskModel J) where
  -- The disk, and folder and journal, move by turns: the disk is opened, the hours are loaded, the record is written, the hours are changed.
  -- What a crash leaves of all three at any moment is so
  pub record InPhases (P : List ℕ → Files → List ℕ → Type 0) (d0 d1 : D) (f0 f1 : F) (j0 j1 : J) : Type 0 where
    pub mid : D
    pub folder : F
    pub track : J
    pub opening : disk.LeavesOnly m d0 mid (λ z. (x : Files) (y : List ℕ) → folders.leaves f0 x → tracks.leaves j0 y → P z x y)
    pub loading : InTurns folders (crash_of tracks) (λ x y. (z : List ℕ) → m.leaves mid z → P z x y) f0 j0 folder track
    pub writing : disk.LeavesOnly m mid d1 (λ z. (x : Files) (y : List ℕ) → folders.leaves folder x → tracks.leaves track y → P z x y)
    pub changing : InTurns folders (crash_of tracks) (λ x y. (z : List ℕ) → m.leaves d1 z → P z x y) folder track f1 j1

  module _ (request : Request) (ids : IdWords) (answers : List TaskValue) (d0 : D) (f0 : F) (j0 : J) (old : State) (held : Held) where
    -- the file opens to the tasks before the command, or to those after it
    abbrev pub EitherTasks : List ℕ → Type 0
    EitherTasks z = IsOpening m d0 z ⊎ IsStepOf (m.seen d0) (next_of request ids answers) z

    -- folder and journal open to the hours before the command
    abbrev pub OldHours : Files → List ℕ → Type 0
    OldHours x y = OpensAlike folders tracks f0 j0 x y ⊎ OpenTo x y held

    -- tasks and hours are those after the command
    pub record BothNew (z : List ℕ) (x : Files) (y : List ℕ) : Type 0 where
      pub new : State
      pub leads : next_of request ids answers old ≡ Some new
      pub tasks : OpensTo z new
      pub rows : List Interval
      pub read : rows_of held.files ≡ Ok rows
      pub hours : OpenTo x y (changed held (driven old.tasks new.tasks rows request.at.seconds))

    -- the tasks are old or new and the hours old, or both are new: never are the hours new and the tasks old
    abbrev pub InOrder : List ℕ → Files → List ℕ → Type 0
    InOrder z x y = (EitherTasks z × OldHours x y) ⊎ BothNew z x y

  -- what a crash leaves of a command that has opened the hours, with these hooks' answers
  pub record LeavesDriven {P : Type 0} (hooks : SpawnerModel P) (request : Request) (ids : IdWords) (d0 d1 : D) (p0 p1 : P) (f0 f1 : F)
      (j0 j1 : J) : Type 0 where
    pub answers : List TaskValue
    pub answered : disk.Tells m d0 → (state : State) → OpensTo (m.seen d0) state → Answered hooks request ids p0 p1 state answers
    pub leaves : disk.Tells m d0 → (old : State) → OpensTo (m.seen d0) old → (held : Held) → Opens folders tracks f0 j0 held
        → InPhases (InOrder request ids answers d0 f0 j0 old held) d0 d1 f0 f1 j0 j1

-- ---- why the hours were not driven

module _ {D P F J : Type 0} (m : DiskModel D) (hooks : SpawnerModel P) (folders : FolderModel F) (tracks : DiskModel J) (request : Request)
    (ids : IdWords) (d0 d1 : D) (p0 p1 : P) (f0 f1 : F) (j0 j1 : J) where
  -- the hours were not loaded, and the records of the tasks stay
  abbrev pub FailsLoading : Type 0
  FailsLoading = AreSpared folders tracks f0 f1 j0 j1 × HeldBack m hooks request ids d0 d1 p0 p1

  -- they were loaded, the record of the command was written, and then folder or journal failed
  pub record FailsLater : Type 0 where
    pub mid : F
    pub track : J
    pub store : Store
    pub loads : LoadsStore folders tracks f0 mid j0 track store
    pub run : CarriedOut m hooks request ids d0 d1 p0 p1
    pub rose : Rose (folders.faults mid) (folders.faults f1) ⊎ Rose (tracks.faults track) (tracks.faults j1)

  -- they can be loaded, the record of their change would have so many bytes, and the records of the tasks stay
  pub record PassesDriven (bytes : ℕ) : Type 0 where
    pub held_back : HeldBack m hooks request ids d0 d1 p0 p1
    pub loads : MayBeLoaded folders tracks f0 j0
    pub above : 2 ^ 30 < bytes
    pub size : (held : Held) → Opens folders tracks f0 j0 held → (rows : List Interval) → rows_of held.files ≡ Ok rows
        → bytes ≡ driven_size held.files held_back.state.tasks held_back.carried.new.tasks rows request.at.seconds

-- ---- a run of a command

module _ {D S P F J : Type 0} (m : DiskModel D) (sources : SourceModel S) (hooks : SpawnerModel P) (folders : FolderModel F) (tracks : DiskModel J)
    (request : Request) (ids : IdWords) (d0 d1 : D) (i0 i1 : S) (p0 p1 : P) (f0 f1 : F) (j0 j1 : J) where
  -- the command was carried out, and its tasks have driven the hours
  abbrev pub HoursDone : Type 0
  HoursDone = WithInput sources request i0 i1
      (λ r. (run : CarriedOut m hooks r ids d0 d1 p0 p1) × AreDriven folders tracks f0 f1 j0 j1 r run.old run.carried.new)

  abbrev pub HoursBy : Cause → End → Type 0
  HoursBy cause Well = HoursDone
  HoursBy cause Output = HoursDone
  HoursBy cause Failed = AreUndriven folders tracks f0 f1 j0 j1 cause

  -- a record of the tasks would have so many bytes: one of an opening, or that of the command
  abbrev pub OwnTooLong : ℕ → Type 0
  OwnTooLong bytes =
      OpeningRefused m d0 d1 (opening.TooLong bytes) ⊎ WithInput sources request i0 i1 (λ r. PassesLimit m hooks r ids d0 d1 p0 p1 bytes)

  -- when folder or journal failed, and whose record is too long
  abbrev pub HoursBecause : Cause → Type 0
  HoursBecause TrackFault = WithInput sources request i0 i1
      (λ r. FailsLoading m hooks folders tracks r ids d0 d1 p0 p1 f0 f1 j0 j1 ⊎ FailsLater m hooks folders tracks r ids d0 d1 p0 p1 f0 f1 j0 j1)
  HoursBecause (RecordTooLong bytes) =
      OwnTooLong bytes ⊎ WithInput sources request i0 i1 (λ r. PassesDriven m hooks folders tracks r ids d0 d1 p0 p1 f0 f1 j0 j1 bytes)
  HoursBecause cause = Unit {0}

  -- all that is known of the hours, by the cause that the command ends with
  pub record DrivesHours (cause : Cause) : Type 0 where
    pub gives : HoursBy cause (end_of cause)
    pub because : HoursBecause cause
    pub spares : is_driving request ≡ false → AreUnopened folders tracks f0 f1 j0 j1
    pub any_moment : AreUnopened folders tracks f0 f1 j0 j1
        ⊎ WithInput sources request i0 i1 (λ r. LeavesDriven m folders tracks hooks r ids d0 d1 p0 p1 f0 f1 j0 j1)
    pub growth : HoursGrow tracks j0 j1
    pub folder : crash.FaultsRise folders f0 f1
    pub track : disk.FaultsRise tracks j0 j1
