-- The headline: what a run keeps, whatever it asks for.
use Rattle.std.specs.Prelude.{◌≡◌, ◌⊎◌, ℕ, List, [], Some, Result, Ok, Err, true}
use Rattle.tw_world.specs.Disk.{DiskModel, LeavesOnly}
use Rattle.tw_world.specs.Sink.{Got}
use Rattle.tw_world.specs.declared.ids.IdWords.{IdWords}
use Rattle.tw_model.specs.LocalOps.{plain}
use Rattle.tw_protocol.specs.Chain.{Version, IsChain}
use Rattle.tw_state.specs.State.{State, undone}
use Rattle.tw_replica.specs.Replica.{OpensTo}
use Rattle.tw_outcome.specs.Agreement.{Agrees}
use Rattle.tw_sync.specs.Theorem.{FollowsTheChain}
use Rattle.tw_sync.specs.declared.report.SyncReport.{SyncReport}
use Rattle.tw_sync.specs.declared.error.SyncError.{SyncError}
use Rattle.tw_words.specs.declared.command.Command.{Command}
use Rattle.tw_words.specs.declared.command.Command.TheVariants as command
use Rattle.tw_commands.specs.Exports.{HasNoNumbers, ExportAlike, Prints}
use Rattle.tw_changes.specs.declared.request.Request.{Request}
use Rattle.tw_ending.specs.Ending.End.{Failed}
use Rattle.tw_cli.specs.Cause.{end_of, may_write}
use Rattle.tw_cli.specs.Input.{WithInput}
use Rattle.tw_cli.specs.Run.{CarriedOut}
use Rattle.tw_cli.specs.Syncing.{SyncStart, Synced, WasStopped}
use Rattle.tw_cli.specs.Opening.{KeepsState}
use Rattle.tw_cli.specs.Agreement.{AllAgree, IsChainFor}
use Rattle.tw_cli.specs.Whole.{Models, Outside, IsSoundFor}
use Rattle.tw_cli.specs.declared.asked.Job.{Job}
use Rattle.tw_cli.specs.declared.asked.Job.TheVariants.{Here, Sync, Generate}
use Rattle.tw_cli.specs.declared.asked.LineError.{LineError}
use Rattle.tw_cli.specs.declared.cause.Cause.{Cause}
use Rattle.tw_cli.specs.declared.cause.Cause.TheVariants.{Done, OutFault, DiskFault}

-- a file opens to a replica whose tasks are the chain folded to its base, then what is pending
abbrev pub OpensFollowing : List Version → List ℕ → Type 0
OpensFollowing chain file = (state : State) × OpensTo file state × (IsChain chain → FollowsTheChain chain state)

-- whatever a crash leaves from now on opens to this state
abbrev pub Survives : {D : Type 0} → DiskModel D → D → State → Type 0
Survives m disk state = (file : List ℕ) → m.leaves disk file → OpensTo file state

-- a run was carried out, whether its output failed after its record or not
abbrev pub WasCarriedOut : Cause → Type 0
WasCarriedOut cause = (cause ≡ Done) ⊎ (cause ≡ OutFault)

-- a run is of this command
abbrev pub IsOf : Command → Result Job LineError → Type 0
IsOf of (Ok (Here request)) = request.command ≡ of
IsOf of (Ok (Sync server)) = ⊥
IsOf of (Ok (Generate line settings)) = ⊥
IsOf of (Err error) = ⊥

-- exactly the pending operations since the last undo point are taken back, and the replica without them survives
pub record TakesBack {D : Type 0} (m : DiskModel D) (d0 d1 : D) : Type 0 where
  pub old : State
  pub opened : OpensTo (m.seen d0) old
  pub new : State
  pub back : undone old ≡ Some new
  pub survives : Survives m d1 new

module _ {D S O L P F J : Type 0} (m : Models D S O L P F J) (ids : IdWords) (w : Outside D S O L P F J) where
  -- what a run comes to survives: what the command makes of the state that the disk opened to, or where the sync ended
  abbrev pub OutcomeSurvives : Result Job LineError → Type 0
  OutcomeSurvives (Ok (Here request)) =
      WithInput m.source request w.i0 w.i1 (λ r. (run : CarriedOut m.disk m.spawner r ids w.d0 w.d1 w.p0 w.p1) × Survives m.disk w.d1 run.carried.new)
  OutcomeSurvives (Ok (Sync server)) =
      (s : SyncStart m.disk m.link server w.d0 w.l0 w.l1) × (report : SyncReport) × (run : Synced m.disk m.link server s.start w.d0 w.d1 s.begun w.l1 report)
      × Survives m.disk w.d1 run.new
  OutcomeSurvives (Ok (Generate line settings)) = Unit {0}
  OutcomeSurvives (Err error) = Unit {0}

  -- what a request prints, of the state that the disk opened to
  pub record PrintsOf (request : Request) : Type 0 where
    pub state : State
    pub opened : OpensTo (m.disk.seen w.d0) state
    pub text : List ℕ
    pub prints : Prints request state text
    pub got : Got m.sink w.o0 w.o1 text

  -- the texts of exports are those of the law of machines that export alike
  abbrev pub ExportPrints : Result Job LineError → Type 0
  ExportPrints (Ok (Here request)) = request.command ≡ command.Export → WithInput m.source request w.i0 w.i1 PrintsOf
  ExportPrints (Ok (Sync server)) = Unit {0}
  ExportPrints (Ok (Generate line settings)) = Unit {0}
  ExportPrints (Err error) = Unit {0}

  -- a sync that the link or the server stopped keeps what it read and what it was told of its versions, and that survives
  abbrev pub StopSurvives : Result Job LineError → Type 0
  StopSurvives (Ok (Here request)) = Unit {0}
  StopSurvives (Ok (Sync server)) =
      (s : SyncStart m.disk m.link server w.d0 w.l0 w.l1) × (e : SyncError) × (stop : WasStopped m.disk m.link server s.start w.d0 w.d1 s.begun w.l1 e)
      × Survives m.disk w.d1 stop.new
  StopSurvives (Ok (Generate line settings)) = Unit {0}
  StopSurvives (Err error) = Unit {0}

  -- What a run keeps of a disk that tells what it holds, over a link that is honest if the run uses it
  pub record Headline (asked : Result Job LineError) (cause : Cause) : Type 0 where
    -- At every moment a crash leaves a replica whose tasks are the server's chain folded to its base version, then what is pending. The server
    -- returns what was written, also a snapshot. What uses no link keeps so with any chain
    pub follows : IsSoundFor m.disk m.link asked w.d0 w.l0 w.l1 → (chain now : List Version) → IsChainFor m.link asked w.l0 w.l1 chain now
        → AllAgree m.disk chain w.d0 → LeavesOnly m.disk w.d0 w.d1 (OpensFollowing now)
    -- what was carried out survives every crash
    pub survives : WasCarriedOut cause → OutcomeSurvives asked
    -- an undo takes back exactly the pending operations since the last undo point
    pub undo : IsOf command.Undo asked → WasCarriedOut cause → TakesBack m.disk w.d0 w.d1
    -- an export prints what the tasks alone make of it
    pub exports : cause ≡ Done → ExportPrints asked
    -- after a refusal nothing is lost: the state stays, or is that of a sync that was stopped
    pub refused : KeepsState m.disk w.d0 w.d1 cause
    pub stopped : end_of cause ≡ Failed → may_write cause ≡ true → (cause ≡ DiskFault → ⊥) → StopSurvives asked

-- machines that follow one chain, have one base and have nothing pending print equal exports, at one moment, in one zone, by the same
-- weights and one filter without numbers
abbrev pub MachinesExportAlike : Type 0
MachinesExportAlike = (chain : List Version) (here there : State) (one other : Request) (text copy : List ℕ) → IsChain chain → Agrees here chain
    → Agrees there chain → here.base ≡ there.base → plain here.pending ≡ [] → plain there.pending ≡ [] → ExportAlike one other
    → HasNoNumbers one.filter → Prints one here text → Prints other there copy → text ≡ copy
