-- What is known of a command once it is made, with the hours that it drives.
use Rattle.std.proofs.Common.{◌≡◌, ◌⊎◌, inl, inr, ◌∙◌, ap, sym, subst, refl, ℕ, ◌≤◌, ◌^◌, true, false, Option, Some, None, Result, Ok, Err}
use Rattle.std.specs.Global.{Vec}
use Rattle.tw_world.specs.Disk.{DiskModel, Rose, FaultsRise}
use Rattle.tw_world.specs.Folder.{FolderModel}
use Rattle.tw_world.specs.declared.Moment.{Moment}
use Rattle.tw_world.specs.declared.ids.IdWords.{IdWords}
use Rattle.tw_spawn.specs.Spawner.{SpawnerModel}
use Rattle.tw_model.specs.Ops.{TasksValue}
use Rattle.tw_state.specs.State.{State}
use Rattle.tw_replica.specs.Replica.{held_state}
use Rattle.tw_replica.specs.Prepared.{prepared_state}
use Rattle.tw_changes.specs.declared.request.Request.{Request}
use Rattle.timew_store.specs.declared.prepare.PreparedChange.{PreparedChange}
use Rattle.timew_store.proofs.Stays.{MayStay, DiskMayStay}
use Rattle.timew_bridge.specs.Known.{AreDrivers}
use Rattle.tw_cli.specs.Cause.{carry_cause}
use Rattle.tw_cli.specs.Driving.{driven_size, is_driving, AreUnopened, AreDriven, AreKept, AreUndriven}
use Rattle.tw_cli.specs.Hooks.{Answered}
use Rattle.tw_cli.specs.Hours.{HoursWell, HoursCanIf}
use Rattle.tw_cli.specs.Ready.{IsBefore, AreReady, PassesHours, ChangeRefused, HoursRefused, HoursEnd, IsWritten, WriteEnds, IsMade, EndsUnready, EndsReady, MadeEnds}
use Rattle.tw_cli.specs.Run.{CarriedOut, HeldBack, CanBeCarriedOut}
use Rattle.tw_cli.specs.declared.carry.Made.{Made}
use Rattle.tw_cli.specs.declared.carry.CarryError.{CarryError}
use Rattle.tw_cli.specs.declared.carry.CarryError.TheVariants as carry
use Rattle.tw_cli.specs.declared.hours.Before.{Before}
use Rattle.tw_cli.specs.declared.cause.Cause.TheVariants as causes
use Rattle.tw_cli.proofs.Carrying.{above_limit, runs_so, held_back, can_leads, here, answered_there, fits_always}
use Rattle.tw_cli.proofs.LoadedHours.{loaded_alike, unloaded_wants}
use Rattle.tw_cli.proofs.Openings.{rose_later}
use Rattle.tw_cli.proofs.DrivenHours.{alone_after, both_unopened, then_alone, left_unready, ready_stays, failed_since, failed_loaded, are_driven}

module _ {D P F J : Type 0} (m : DiskModel D) (hooks : SpawnerModel P) (folders : FolderModel F) (tracks : DiskModel J) (request : Request) (ids : IdWords) (d0 mid d1 : D) (p0 p1 : P) (f0 f1 : F) (j0 j1 : J)
    (made : Made) (is : IsMade m hooks request ids d0 mid p0 p1 made) where
  -- it is written
  pub written_run : IsWritten m made.ready.prepared mid d1 → (run : CarriedOut m hooks request ids d0 d1 p0 p1) × (made.ready.text.items ≡ run.carried.text) × (held_state is.replica ≡ run.old) × (prepared_state made.ready.prepared ≡ run.carried.new)
  written_run w = runs_so m hooks request ids d0 mid p0 p1 is.replica is.opened d1 made.ready is.decided w.replica w.state w.journal w.within

  unready_held : d1 ≡ mid → HeldBack m hooks request ids d0 d1 p0 p1
  unready_held same = held_back m hooks request ids d0 mid p0 p1 is.replica is.opened d1 made.ready is.decided same

  at_same : made.at.seconds ≡ request.at.seconds
  at_same = ap (λ (t : Moment). t.seconds) is.at

  -- the hours, once both are written
  pub hours_done : EndsReady m folders tracks made mid d1 f0 f1 j0 j1 None → (run : CarriedOut m hooks request ids d0 d1 p0 p1) × AreDriven folders tracks f0 f1 j0 j1 request run.old run.carried.new
  hours_done e =
      let r = written_run e.ends.0 in (
        r.0,
        subst (λ (old : State). AreDriven folders tracks f0 f1 j0 j1 request old r.0.carried.new) r.2
            (subst (λ (new : State). AreDriven folders tracks f0 f1 j0 j1 request (held_state is.replica) new) r.3
            (are_driven folders tracks f0 e.mid f1 j0 e.track j1 request (held_state is.replica) (prepared_state made.ready.prepared) made.before e.hours made.at.seconds at_same is.before e.ready e.ends.1)),
      )

  -- the hours, if it failed once they were ready
  ready_kept : MayStay folders → DiskMayStay tracks → (error : Option CarryError) (r : EndsReady m folders tracks made mid d1 f0 f1 j0 j1 error) → AreKept folders tracks f0 r.mid j0 r.track
  ready_kept folder_stays disk_stays error r = record {
    stays = ready_stays folders tracks f0 r.mid j0 r.track folder_stays disk_stays made.before made.at.seconds (prepared_state made.ready.prepared) r.hours r.ready;
    any_moment = loaded_alike folders tracks f0 r.mid j0 r.track r.loaded;
  }

  hours_left : MayStay folders → DiskMayStay tracks → (e : CarryError) → EndsReady m folders tracks made mid d1 f0 f1 j0 j1 (Some e) → AreUndriven folders tracks f0 f1 j0 j1 (carry_cause e)
  hours_left folder_stays disk_stays carry.Track r = (
    failed_since folders tracks f0 r.mid f1 j0 r.track j1 r.folder_kept r.track_kept r.hours r.ends.1,
    inr (failed_loaded folders tracks f0 r.mid f1 j0 r.track j1 r.folder_kept r.track_kept made.before made.at.seconds (prepared_state made.ready.prepared) r.hours r.ready r.ends.1),
  )
  hours_left folder_stays disk_stays carry.Disk r = then_alone folders tracks f0 r.mid f1 j0 r.track j1 (ready_kept folder_stays disk_stays (Some carry.Disk) r) r.ends.1
  hours_left folder_stays disk_stays (carry.TooLong bytes) r = then_alone folders tracks f0 r.mid f1 j0 r.track j1 (ready_kept folder_stays disk_stays (Some (carry.TooLong bytes)) r) r.ends.1
  hours_left folder_stays disk_stays (carry.Open e) r = absurd r.ends
  hours_left folder_stays disk_stays (carry.Input e) r = absurd r.ends
  hours_left folder_stays disk_stays (carry.Refused e) r = absurd r.ends
  hours_left folder_stays disk_stays (carry.Hook e) r = absurd r.ends
  hours_left folder_stays disk_stays carry.Memory r = absurd r.ends
  hours_left folder_stays disk_stays (carry.Load e) r = absurd r.ends
  hours_left folder_stays disk_stays (carry.HoursTooLong bytes) r = absurd r.ends

  pub hours_failed : MayStay folders → DiskMayStay tracks → (e : CarryError) → EndsUnready m folders tracks made mid d1 f0 f1 j0 j1 e ⊎ EndsReady m folders tracks made mid d1 f0 f1 j0 j1 (Some e) → AreUndriven folders tracks f0 f1 j0 j1 (carry_cause e)
  hours_failed folder_stays disk_stays e (inl u) = left_unready folders tracks f0 f1 j0 j1 made.before made.at.seconds (prepared_state made.ready.prepared).tasks e u.leaves u.refused
  hours_failed folder_stays disk_stays e (inr r) = hours_left folder_stays disk_stays e r

  -- ---- a request that does not drive them

  module _ (off : is_driving request ≡ false) where
    no_before : (before : Option Before) → IsBefore request (held_state is.replica) before → before ≡ None
    no_before None b = refl
    no_before (Some x) b = absurd (let e : true ≡ false = sym b.0 ∙ off in cc)

    none : made.before ≡ None
    none = no_before made.before is.before

    alone_ready : (mid' : F) (track : J) (hours : Option PreparedChange) → AreReady folders tracks made.at.seconds None (prepared_state made.ready.prepared) f0 mid' j0 track hours → (hours ≡ None) × AreUnopened folders tracks f0 mid' j0 track
    alone_ready mid' track None ready = (refl, ready)
    alone_ready mid' track (Some change) ready = absurd ready

    ready_spares : (error : Option CarryError) → EndsReady m folders tracks made mid d1 f0 f1 j0 j1 error → AreUnopened folders tracks f0 f1 j0 j1
    ready_spares error r =
        let a = alone_ready r.mid r.track r.hours (subst (λ (b : Option Before). AreReady folders tracks made.at.seconds b (prepared_state made.ready.prepared) f0 r.mid j0 r.track r.hours) none r.ready) in
        both_unopened folders tracks f0 r.mid f1 j0 r.track j1 a.1 (alone_after m folders tracks made.ready.prepared mid d1 r.mid f1 r.track j1 error (subst (λ (h : Option PreparedChange). WriteEnds m folders tracks made.ready.prepared mid d1 r.mid f1 r.track j1 h error) a.0 r.ends))

    pub spares_hours : (result : Result (Vec ℕ) CarryError) → MadeEnds m folders tracks made mid d1 f0 f1 j0 j1 result → AreUnopened folders tracks f0 f1 j0 j1
    spares_hours (Ok text) e = ready_spares None e.1
    spares_hours (Err e) (inr r) = ready_spares (Some e) r
    spares_hours (Err e) (inl u) = absurd (subst (λ (b : Option Before). HoursRefused folders tracks f0 f1 j0 j1 made.at.seconds b (prepared_state made.ready.prepared).tasks e) none u.refused)

  -- ---- a command that can be carried out

  before_drives : (before : Option Before) → IsBefore request (held_state is.replica) before → (now : ℕ) (tasks : TasksValue) (e : CarryError) → HoursRefused folders tracks f0 f1 j0 j1 now before tasks e
      → (b : Before) × (is_driving request ≡ true) × AreDrivers (held_state is.replica).tasks request.at.seconds b.drivers × ChangeRefused folders tracks f0 f1 j0 j1 now b.drivers tasks e
  before_drives None b now tasks e r = absurd r
  before_drives (Some x) b now tasks e r = (x, b.0, b.1, r)

  module _ (can : CanBeCarriedOut m hooks request ids d0 d1 p0 p1) (well : HoursCanIf folders tracks can f0 f1 j0 j1 (is_driving request)) where
    -- the record of the change is not too long
    fits_hours : (bytes : ℕ) (b : Before) → AreDrivers (held_state is.replica).tasks request.at.seconds b.drivers → HoursWell folders tracks can f0 f1 j0 j1
        → PassesHours folders tracks f0 f1 j0 j1 made.at.seconds b.drivers (prepared_state made.ready.prepared).tasks bytes → ⊥
    fits_hours bytes b are w r =
        let answered : Answered hooks request ids p0 p1 can.state is.decided.answers = answered_there m hooks request ids d0 mid p0 p1 is.replica is.opened d1 can is.decided.answers is.decided.answered in
        let old : held_state is.replica ≡ can.state = sym (here m hooks request ids d0 mid p0 p1 is.replica is.opened d1 can) in
        let new : prepared_state made.ready.prepared ≡ (can.carried is.decided.answers answered).new = can_leads m hooks request ids d0 mid p0 p1 is.replica is.opened d1 made.ready is.decided can in
        let size : bytes ≡ driven_size w.held.files (held_state is.replica).tasks (prepared_state made.ready.prepared).tasks w.rows made.at.seconds =
        r.size w.held w.opens w.rows w.read (held_state is.replica).tasks (subst (λ (t : ℕ). AreDrivers (held_state is.replica).tasks t b.drivers) (sym at_same) are) in
        let there : bytes ≡ driven_size w.held.files can.state.tasks (can.carried is.decided.answers answered).new.tasks w.rows request.at.seconds =
        size ∙ ap (λ (t : ℕ). driven_size w.held.files (held_state is.replica).tasks (prepared_state made.ready.prepared).tasks w.rows t) at_same
        ∙ ap (λ (s : State). driven_size w.held.files s.tasks (prepared_state made.ready.prepared).tasks w.rows request.at.seconds) old
        ∙ ap (λ (s : State). driven_size w.held.files can.state.tasks s.tasks w.rows request.at.seconds) new in
        above_limit bytes r.above (subst (λ (n : ℕ). n ≤ 2 ^ 30) (sym there) (w.fits is.decided.answers answered))

    refused_wants : (e : CarryError) (b : Before) → AreDrivers (held_state is.replica).tasks request.at.seconds b.drivers → HoursWell folders tracks can f0 f1 j0 j1
        → ChangeRefused folders tracks f0 f1 j0 j1 made.at.seconds b.drivers (prepared_state made.ready.prepared).tasks e → carry_cause e ≡ causes.Memory
    refused_wants (carry.Load e) b are w r = unloaded_wants folders tracks f0 f1 j0 j1 e r.0 r.2 w.held w.opens w.rows w.read w.folder_well w.track_well
    refused_wants (carry.HoursTooLong bytes) b are w r = absurd (fits_hours bytes b are w r)
    refused_wants carry.Memory b are w r = refl
    refused_wants (carry.Open e) b are w r = absurd r
    refused_wants (carry.Input e) b are w r = absurd r
    refused_wants (carry.Refused e) b are w r = absurd r
    refused_wants (carry.Hook e) b are w r = absurd r
    refused_wants (carry.TooLong bytes) b are w r = absurd r
    refused_wants carry.Disk b are w r = absurd r
    refused_wants carry.Track b are w r = absurd r

    -- folder and journal do not fail
    track_well : (before : Option Before) → IsBefore request (held_state is.replica) before → (r : EndsReady m folders tracks made mid d1 f0 f1 j0 j1 (Some carry.Track))
        → AreReady folders tracks made.at.seconds before (prepared_state made.ready.prepared) f0 r.mid j0 r.track r.hours → ⊥
    track_well None b r ready =
        let a = alone r.hours ready in
        absurd (let e : false ≡ true = (subst (λ (h : Option PreparedChange). HoursEnd folders tracks r.mid f1 r.track j1 h false) a r.ends.1).0 in cc)
      where
        alone : (hours : Option PreparedChange) → AreReady folders tracks made.at.seconds None (prepared_state made.ready.prepared) f0 r.mid j0 r.track hours → hours ≡ None
        alone None ready = refl
        alone (Some change) ready = absurd ready
    track_well (Some x) b r ready =
        let w : HoursWell folders tracks can f0 f1 j0 j1 = subst (HoursCanIf folders tracks can f0 f1 j0 j1) b.0 well in
        by w (failed_since folders tracks f0 r.mid f1 j0 r.track j1 r.folder_kept r.track_kept r.hours r.ends.1)
      where
        by : HoursWell folders tracks can f0 f1 j0 j1 → Rose (folders.faults f0) (folders.faults f1) ⊎ Rose (tracks.faults j0) (tracks.faults j1) → ⊥
        by w (inl folder) = w.folder_well folder
        by w (inr track) = w.track_well track

    ready_wants : FaultsRise m d0 mid → (e : CarryError) → EndsReady m folders tracks made mid d1 f0 f1 j0 j1 (Some e) → carry_cause e ≡ causes.Memory
    ready_wants kept carry.Track r = absurd (track_well made.before is.before r r.ready)
    ready_wants kept carry.Disk r = absurd (can.disk_well (rose_later (m.faults d0) (m.faults mid) (m.faults d1) kept.faults r.ends.0))
    ready_wants kept (carry.TooLong bytes) r = absurd (fits_always m hooks request ids d0 mid p0 p1 is.replica is.opened d1 made.ready is.decided bytes r.ends.0 can)
    ready_wants kept (carry.Open e) r = absurd r.ends
    ready_wants kept (carry.Input e) r = absurd r.ends
    ready_wants kept (carry.Refused e) r = absurd r.ends
    ready_wants kept (carry.Hook e) r = absurd r.ends
    ready_wants kept carry.Memory r = absurd r.ends
    ready_wants kept (carry.Load e) r = absurd r.ends
    ready_wants kept (carry.HoursTooLong bytes) r = absurd r.ends

    pub failed_wants : FaultsRise m d0 mid → (e : CarryError) → EndsUnready m folders tracks made mid d1 f0 f1 j0 j1 e ⊎ EndsReady m folders tracks made mid d1 f0 f1 j0 j1 (Some e) → carry_cause e ≡ causes.Memory
    failed_wants kept e (inl u) =
        let b = before_drives made.before is.before made.at.seconds (prepared_state made.ready.prepared).tasks e u.refused in
        refused_wants e b.0 b.2 (subst (HoursCanIf folders tracks can f0 f1 j0 j1) b.1 well) b.3
    failed_wants kept e (inr r) = ready_wants kept e r
