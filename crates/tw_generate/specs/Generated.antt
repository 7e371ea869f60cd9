-- A large world: what two replicas and their server came to.
use Rattle.std.specs.Prelude.{◌≡◌, ℕ, Bool, false, List, [], length, Some, codes}
use Rattle.std.specs.FinMap.{keys}
use Rattle.tw_world.specs.declared.Moment.{Moment}
use Rattle.tw_model.specs.Maps.{same_bytes}
use Rattle.tw_model.specs.Changes.{ops_of_all, group_of}
use Rattle.tw_model.specs.declared.changes.Change.{Change}
use Rattle.tw_segment.specs.Segment.{segment_text}
use Rattle.tw_state.specs.State.{State, start, committed}
use Rattle.tw_groups.specs.Groups.{groups_of}
use Rattle.tw_groups.specs.Cut.{first}
use Rattle.tw_path.specs.Path.{Reached, is_batch}
use Rattle.tw_outcome.specs.Start.{Starts}
use Rattle.tw_outcome.specs.End.{ServerChain, End}
use Rattle.tw_outcome.specs.End.Answer.{Done}
use Rattle.tw_sync.specs.Ends.End.{counts_of}
use Rattle.tw_sync.specs.declared.report.SyncReport.{SyncReport}
use Rattle.tw_urgency.specs.declared.coefficients.Coefficients.{Coefficients}
use Rattle.tw_export.specs.Export.{export_text}
use Rattle.tw_generate.specs.Changes.{made, moved}
use Rattle.tw_generate.specs.Summary.{summary}

-- the moment of a whole second
pub record IsSecond (second : ℕ) (at : Moment) : Type 0 where
  pub seconds : at.seconds ≡ second
  pub whole : at.nanos ≡ 0

-- the export of all tasks
abbrev pub exported : State → ℕ → Coefficients → List ℕ
exported state second weights = export_text (keys state.tasks) state.tasks second weights

-- a replica makes changes by one command
abbrev pub HasChanged : List Change → Moment → (old new : State) → Type 0
HasChanged changes at old new = committed false (group_of (ops_of_all old.tasks changes at)) old ≡ Some new

-- the two replicas, and their server's chain
pub record World : Type 0 where
  pub first : State
  pub second : State
  pub server : ServerChain

-- nothing yet
abbrev pub no_versions : ServerChain
no_versions = record { chain = []; own = [] }

abbrev pub empty_world : World
empty_world = record { first = start; second = start; server = no_versions }

-- a replica makes changes, and nothing else moves
abbrev pub FirstChanges : List Change → Moment → (old new : World) → Type 0
FirstChanges changes at old new = HasChanged changes at old.first new.first × (new.second ≡ old.second) × (new.server ≡ old.server)

abbrev pub SecondChanges : List Change → Moment → (old new : World) → Type 0
SecondChanges changes at old new = HasChanged changes at old.second new.second × (new.first ≡ old.first) × (new.server ≡ old.server)

-- a sync is done: its path starts at the base of the replica, or at a snapshot
abbrev pub IsSynced : SyncReport → (old new : State) → (before after : ServerChain) → Type 0
IsSynced report old new before after = (start : Reached) × Starts old start × End (Done (counts_of report)) old start new before after

-- a replica syncs, and the other one stays
abbrev pub FirstSyncs : SyncReport → (old new : World) → Type 0
FirstSyncs report old new = IsSynced report old.first new.first old.server new.server × (new.second ≡ old.second)

abbrev pub SecondSyncs : SyncReport → (old new : World) → Type 0
SecondSyncs report old new = IsSynced report old.second new.second old.server new.server × (new.first ≡ old.first)

-- the second of the exports
abbrev pub exported_at : ℕ
exported_at = 1700300000

-- whether both replicas export the same
abbrev pub exports_equal : World → Coefficients → Bool
exports_equal world weights = same_bytes (exported world.first exported_at weights) (exported world.second exported_at weights)

-- the moments at which the tasks are made, and then moved by each of the replicas
pub record Moments : Type 0 where
  pub made : Moment
  pub first_moved : Moment
  pub second_moved : Moment
  pub made_is : IsSecond 1700000000 made
  pub first_moved_is : IsSecond 1700100000 first_moved
  pub second_moved_is : IsSecond 1700200000 second_moved

-- The first replica makes the tasks, and both sync. Then each moves some of them to a project of its own, the second one later; and the second, the first and
-- the second sync again. Nobody else adds to the server's chain. The text tells of the first segment, of the first replica's last sync,
-- and whether both export the same.
pub record IsGenerated (count seed : ℕ) (weights : Coefficients) (text : List ℕ) : Type 0 where
  pub at : Moments
  pub filled : World
  pub sent : World
  pub shared : World
  pub first_moved : World
  pub both_moved : World
  pub second_sent : World
  pub first_sent : World
  pub ended : World
  pub report : SyncReport
  pub fills : FirstChanges (made seed count) at.made empty_world filled
  pub sends : (r : SyncReport) × FirstSyncs r filled sent
  pub shares : (r : SyncReport) × SecondSyncs r sent shared
  pub first_moves : FirstChanges (moved seed 5 (codes "a") count) at.first_moved shared first_moved
  pub second_moves : SecondChanges (moved seed 3 (codes "b") count) at.second_moved first_moved both_moved
  pub second_sends : (r : SyncReport) × SecondSyncs r both_moved second_sent
  pub first_sends : FirstSyncs report second_sent first_sent
  pub ends : (r : SyncReport) × SecondSyncs r first_sent ended
  pub alone : ended.server.own ≡ ended.server.chain
  pub tells : text ≡ summary count (length (segment_text (first is_batch (groups_of filled.first.pending)))) report (exports_equal ended weights)
