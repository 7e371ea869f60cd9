-- How much longer a run makes the file, and the journal of hours.
use Rattle.std.proofs.Common.{◌≡◌, ◌∙◌, refl, sym, subst, inl, inr, ℕ, ◌+◌, ◌≤◌, ◌^◌, List, length, Option, Some, None, Result, Ok, Err, arith}
use Rattle.std.specs.Global.{Vec}
use Rattle.std.specs.Prelude.{min}
use Rattle.std.proofs.Math.Nat.{min-le_right}
use Rattle.tw_world.specs.Disk.{DiskModel, Tells, FaultsRise, LeavesOnly}
use Rattle.tw_world.specs.Folder.{FolderModel}
use Rattle.tw_world.specs.Source.{SourceModel}
use Rattle.tw_world.specs.declared.ids.IdWords.{IdWords}
use Rattle.tw_world.proofs.Moments.{OnlyNow, CountsNow, started, joined, weaker}
use Rattle.tw_spawn.specs.Spawner.{SpawnerModel}
use Rattle.tw_journal.specs.Record.{rows, IsLongerBy}
use Rattle.tw_journal.specs.Journal.{IsOpenOn}
use Rattle.tw_journal.specs.declared.journal.Journal.{Journal}
use Rattle.tw_state.specs.State.{State}
use Rattle.tw_replica.specs.Opening.{IsOpenedReplica, opened_bodies}
use Rattle.tw_replica.specs.Replica.{magic, held_state, GrowsBy, JournalGrowsBy}
use Rattle.tw_replica.specs.Prepared.{prepared_state, prepared_bodies}
use Rattle.tw_replica.specs.declared.replica.Replica.{Replica}
use Rattle.timew_store.specs.declared.prepare.PreparedChange.{PreparedChange}
use Rattle.timew_store.proofs.Stays.{DiskMayStay}
use Rattle.tw_changes.specs.declared.request.Request.{Request}
use Rattle.tw_cli.specs.Growth.{IsGrownBy, OpeningGrows, GrowsByRecord, LoadingGrows, ChangeGrows, HoursGrow}
use Rattle.tw_cli.specs.Growth as whole
use Rattle.tw_cli.specs.Input.{WithInput}
use Rattle.tw_cli.specs.Ready.{AreReady, IsMade, EndsReady, MadeEnds}
use Rattle.tw_cli.specs.declared.hours.Before.{Before}
use Rattle.tw_cli.specs.declared.carry.Made.{Made}
use Rattle.tw_cli.specs.declared.carry.CarryError.{CarryError}

module _ {D : Type 0} (m : DiskModel D) where
  -- if nothing was written, nothing has grown
  pub nothing_longer : OnlyNow m → (d : D) (more : ℕ) → LeavesOnly m d d (IsLongerBy m d more)
  nothing_longer only_now d more = started m only_now d (IsLongerBy m d more) (λ c left. inl left)

  pub nothing_grown : OnlyNow m → (d : D) (bytes : ℕ) → whole.GrowsBy m d d bytes
  nothing_grown only_now d bytes = λ tells. started m only_now d (IsGrownBy m d bytes) (λ c left. (c, left, omega arith))

  grown : DiskMayStay m → (d : D) (a b : ℕ) (c : List ℕ) → Tells m d → a ≤ b → IsLongerBy m d a c → IsGrownBy m d b c
  grown may_stay d a b c tells le (inl left) = (c, left, omega arith)
  grown may_stay d a b c tells le (inr long) = (m.seen d, may_stay d tells, omega (arith, long, le))

  -- a call
  pub one_grows : DiskMayStay m → (d0 d1 : D) (a b : ℕ) → a ≤ b → (Tells m d0 → LeavesOnly m d0 d1 (IsLongerBy m d0 a)) → whole.GrowsBy m d0 d1 b
  one_grows may_stay d0 d1 a b le run = λ tells. weaker m d0 d1 (IsLongerBy m d0 a) (IsGrownBy m d0 b) (run tells) (λ c has. grown may_stay d0 a b c tells le has)

  -- a call, and another one after it
  pub two_grow : DiskMayStay m → CountsNow m → (d0 mid d1 : D) (a more b : ℕ) → a + more ≤ b → (Tells m d0 → LeavesOnly m d0 mid (IsLongerBy m d0 a)) → (Tells m d0 → Tells m mid) → (Tells m d0 → LeavesOnly m mid d1 (IsLongerBy m mid more)) → whole.GrowsBy m d0 d1 b
  two_grow may_stay counts_now d0 mid d1 a more b le first keeps second = λ tells.
      joined m d0 mid d1 (IsGrownBy m d0 b) (one_grows may_stay d0 mid a b (omega (arith, le)) first tells)
      (weaker m mid d1 (IsLongerBy m mid more) (IsGrownBy m d0 b) (second tells) (after tells))
    where
      then_left : Tells m d0 → (c : List ℕ) → m.leaves mid c → IsGrownBy m d0 a c
      then_left tells c left = grown may_stay d0 a a c tells (omega arith) ((first tells).each c (counts_now mid (m.moment d0) c (first tells).later left))

      after : Tells m d0 → (c : List ℕ) → IsLongerBy m mid more c → IsGrownBy m d0 b c
      after tells c (inl left) = let from = then_left tells c left in (from.0, from.1, omega (arith, from.2, le))
      after tells c (inr long) = let from = then_left tells (m.seen mid) (may_stay mid (keeps tells)) in (from.0, from.1, omega (arith, from.2, long, le))

  -- an opening
  pub opening_grows : DiskMayStay m → (d0 d1 : D) → OpeningGrows m d0 d1 → GrowsByRecord m d0 d1
  opening_grows may_stay d0 d1 run = one_grows may_stay d0 d1 (2 ^ 30 + 24) (2 ^ 31 + 24) (omega arith) run

  -- a sync of the replica that was opened
  pub sync_grows : DiskMayStay m → CountsNow m → (d0 mid d1 : D) (replica : Replica) → OpeningGrows m d0 mid → FaultsRise m d0 mid → (Tells m d0 → IsOpenedReplica m d0 mid replica)
      → GrowsBy m replica mid d1 (2 ^ 30) → GrowsByRecord m d0 d1
  sync_grows may_stay counts_now d0 mid d1 replica first kept opened second =
      two_grow may_stay counts_now d0 mid d1 (2 ^ 30 + 24) (2 ^ 30) (2 ^ 31 + 24) (omega arith) first (λ tells. kept.tells ∙ tells)
      (λ tells. let o = opened tells in second (opened_bodies (m.seen d0) (held_state replica) o.bodies) o.now)

  -- the record of a command that was made over it
  pub made_grows : {S P : Type 0} → DiskMayStay m → CountsNow m → (sources : SourceModel S) (hooks : SpawnerModel P) (request : Request) (ids : IdWords) (d0 mid d1 : D) (i0 i1 : S) (p0 p1 : P) (made : Made)
      → WithInput sources request i0 i1 (λ r. IsMade m hooks r ids d0 mid p0 p1 made) → FaultsRise m d0 mid → OpeningGrows m d0 mid
      → JournalGrowsBy m made.ready.prepared.journal mid d1 (min (length (rows (prepared_bodies made.ready.prepared))) (2 ^ 30)) → GrowsByRecord m d0 d1
  made_grows may_stay counts_now sources hooks request ids d0 mid d1 i0 i1 p0 p1 made with kept first second =
      let short = min-le_right (length (rows (prepared_bodies made.ready.prepared))) (2 ^ 30) in
      two_grow may_stay counts_now d0 mid d1 (2 ^ 30 + 24) (min (length (rows (prepared_bodies made.ready.prepared))) (2 ^ 30)) (2 ^ 31 + 24) (omega (arith, short)) first (λ tells. kept.tells ∙ tells) (λ tells.
      let o = with.2.opened tells in
      let left : List (List ℕ) = opened_bodies (m.seen d0) (held_state with.2.replica) o.bodies in
      second left (subst (λ (j : Journal). IsOpenOn m magic j mid left) (sym with.2.decided.decided.prepared.journal) o.now.open_on))

-- the hours are loaded, and then changed
module _ {J : Type 0} (n : DiskModel J) where
  -- if nothing is written, nothing has changed
  pub unwritten_grows : OnlyNow n → (j : J) (hours : Option PreparedChange) → ChangeGrows n j j hours
  unwritten_grows only_now j None = refl
  unwritten_grows only_now j (Some change) = λ store edit prepared bodies on. nothing_longer n only_now j (2 ^ 30)

  pub loading_grows : DiskMayStay n → (j0 j1 : J) → LoadingGrows n j0 j1 → HoursGrow n j0 j1
  loading_grows may_stay j0 j1 run = one_grows n may_stay j0 j1 29 (2 ^ 30 + 29) (omega arith) run

  module _ {F : Type 0} (may_stay : DiskMayStay n) (counts_now : CountsNow n) (folders : FolderModel F) (f0 mid : F) (j0 track j1 : J) (first : LoadingGrows n j0 track) (kept : FaultsRise n j0 track) where
    unchanged_grows : j1 ≡ track → HoursGrow n j0 j1
    unchanged_grows same = subst (HoursGrow n j0) (sym same) (loading_grows may_stay j0 track first)

    ready_grows : (before : Option Before) (now : ℕ) (new : State) (hours : Option PreparedChange) → AreReady folders n now before new f0 mid j0 track hours → ChangeGrows n track j1 hours → HoursGrow n j0 j1
    ready_grows None now new None ready same = unchanged_grows same
    ready_grows None now new (Some change) ready second = absurd ready
    ready_grows (Some b) now new None ready same = unchanged_grows same
    ready_grows (Some b) now new (Some change) ready second =
        two_grow n may_stay counts_now j0 track j1 29 (2 ^ 30) (2 ^ 30 + 29) (omega arith) first (λ tells. kept.tells ∙ tells) (λ tells.
        let loaded = ready.1.loads tells in
        second ready.1.store ready.1.edit ready.1.prepared loaded.bodies loaded.open_on)

  module _ {D F : Type 0} (may_stay : DiskMayStay n) (counts_now : CountsNow n) (m : DiskModel D) (folders : FolderModel F) (made : Made) (d0 d1 : D) (f0 f1 : F) (j0 j1 : J) where
    ended_grows : (error : Option CarryError) → EndsReady m folders n made d0 d1 f0 f1 j0 j1 error → HoursGrow n j0 j1
    ended_grows error r =
        ready_grows may_stay counts_now folders f0 r.mid j0 r.track j1 r.growth r.track_kept made.before made.at.seconds (prepared_state made.ready.prepared) r.hours r.ready r.leaves.growth

    -- of a command that was made
    pub hours_grow : (result : Result (Vec ℕ) CarryError) → MadeEnds m folders n made d0 d1 f0 f1 j0 j1 result → HoursGrow n j0 j1
    hours_grow (Ok text) ends = ended_grows None ends.1
    hours_grow (Err e) (inl u) = loading_grows may_stay j0 j1 u.growth
    hours_grow (Err e) (inr r) = ended_grows (Some e) r
