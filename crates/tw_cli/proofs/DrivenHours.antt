-- The hours of a command: as they were, or driven.
use Rattle.std.specs.Prelude.{not}
use Rattle.std.proofs.Common.{◌≡◌, ◌≢◌, ◌==◌, ◌⊎◌, inl, inr, ◌∙◌, ap, sym, subst, ℕ, Bool, true, false, length, Option, Some, None}
use Rattle.std.proofs.lemmas.Bool.Decides.{eqb_tells}
use Rattle.tw_world.specs.Disk.{DiskModel, Rose, FaultsRise}
use Rattle.tw_world.specs.Crash as crash
use Rattle.tw_world.specs.Folder.{FolderModel}
use Rattle.tw_model.specs.Ops.{TasksValue}
use Rattle.tw_state.specs.State.{State}
use Rattle.tw_replica.specs.declared.step.write.Prepared.{Prepared}
use Rattle.tw_replica.specs.declared.error.OpenError.{OpenError}
use Rattle.tw_replica.specs.declared.error.OpenError.TheVariants as opening
use Rattle.tw_changes.specs.declared.request.Request.{Request}
use Rattle.tw_changes.specs.declared.refusal.Refusal.{Refusal}
use Rattle.tw_changes.specs.declared.refusal.Refusal.TheVariants as refusal
use Rattle.tw_hooks.specs.declared.error.HookError.{HookError}
use Rattle.tw_hooks.specs.declared.error.HookError.TheVariants as hook
use Rattle.timew_store.specs.Loading.{Stays as HoursStay}
use Rattle.timew_store.specs.Store.{intervals_of}
use Rattle.timew_store.specs.declared.prepare.PreparedChange.{PreparedChange}
use Rattle.timew_store.proofs.Stays.{MayStay, DiskMayStay}
use Rattle.timew_bridge.specs.Known.{AreDrivers}
use Rattle.tw_cli.specs.Cause.{open_cause, input_cause, refusal_cause, hook_cause, carry_cause}
use Rattle.tw_cli.specs.Driving.{driven, has_moved, MayBeLoaded, AreUnopened, AreDriven, AreDrivenIf, AreKept, AreUndriven}
use Rattle.tw_cli.specs.Ready.{IsBefore, SparesHours, AreReady, HoursRefused, HoursEnd, WriteEnds, LeavesLoaded}
use Rattle.tw_cli.specs.declared.carry.CarryError.{CarryError}
use Rattle.tw_cli.specs.declared.carry.CarryError.TheVariants as carry
use Rattle.tw_cli.specs.declared.hours.Before.{Before}
use Rattle.tw_cli.specs.declared.input.InputError.{InputError}
use Rattle.tw_cli.specs.declared.input.InputError.TheVariants as input
use Rattle.tw_cli.proofs.LoadedHours.{unopened_kept, loaded_alike, left_unloaded, may_be_loaded, loaded_stays, have_become}
use Rattle.tw_cli.proofs.Openings.{rose_later}

moves : (a b : ℕ) → (a ≡ b → ⊥) → not (a == b) ≡ true
moves a b apart = by (eqb_tells a b)
  where
    by : ((a == b ≡ true) × (a ≡ b)) ⊎ ((a == b ≡ false) × (a ≢ b)) → not (a == b) ≡ true
    by (inl e) = absurd (apart e.1)
    by (inr e) = ap not e.0

rests : (a b : ℕ) → a ≡ b → not (a == b) ≡ false
rests a b same = by (eqb_tells a b)
  where
    by : ((a == b ≡ true) × (a ≡ b)) ⊎ ((a == b ≡ false) × (a ≢ b)) → not (a == b) ≡ false
    by (inl e) = ap not e.0
    by (inr e) = absurd (e.1 same)

module _ {F J : Type 0} (folders : FolderModel F) (tracks : DiskModel J) where
  module _ (f0 f1 : F) (j0 j1 : J) where
    left_opening : (e : OpenError) → AreUnopened folders tracks f0 f1 j0 j1 → AreUndriven folders tracks f0 f1 j0 j1 (open_cause e)
    left_opening opening.Disk u = unopened_kept folders tracks f0 f1 j0 j1 u
    left_opening (opening.Damaged offset) u = u
    left_opening opening.Memory u = unopened_kept folders tracks f0 f1 j0 j1 u
    left_opening (opening.TooLong bytes) u = unopened_kept folders tracks f0 f1 j0 j1 u

    left_taking : (e : InputError) → AreUnopened folders tracks f0 f1 j0 j1 → AreUndriven folders tracks f0 f1 j0 j1 (input_cause e)
    left_taking input.Fault u = u
    left_taking input.TooLong u = u
    left_taking input.Memory u = unopened_kept folders tracks f0 f1 j0 j1 u

    left_refused : (r : Refusal) → AreUnopened folders tracks f0 f1 j0 j1 → AreUndriven folders tracks f0 f1 j0 j1 (refusal_cause r)
    left_refused refusal.NoMatch u = u
    left_refused refusal.NothingToUndo u = u
    left_refused (refusal.BadWords word kind) u = u
    left_refused (refusal.IdTaken uuid) u = u
    left_refused (refusal.Cycle uuid) u = u
    left_refused (refusal.BadInput index name) u = u

    left_hooked : (e : HookError) → AreUnopened folders tracks f0 f1 j0 j1 → AreUndriven folders tracks f0 f1 j0 j1 (hook_cause e)
    left_hooked (hook.Refused name status) u = u
    left_hooked (hook.Answer name) u = u
    left_hooked hook.Fault u = u
    left_hooked hook.Memory u = unopened_kept folders tracks f0 f1 j0 j1 u

    -- nothing is made, and the hours are as they were
    pub left_unopened : (e : CarryError) → SparesHours e → AreUnopened folders tracks f0 f1 j0 j1 → AreUndriven folders tracks f0 f1 j0 j1 (carry_cause e)
    left_unopened (carry.Open e) spares u = left_opening e u
    left_unopened (carry.Input e) spares u = left_taking e u
    left_unopened (carry.Refused r) spares u = left_refused r u
    left_unopened (carry.Hook e) spares u = left_hooked e u
    left_unopened (carry.TooLong bytes) spares u = unopened_kept folders tracks f0 f1 j0 j1 u
    left_unopened carry.Disk spares u = unopened_kept folders tracks f0 f1 j0 j1 u
    left_unopened carry.Memory spares u = unopened_kept folders tracks f0 f1 j0 j1 u
    left_unopened (carry.Load e) spares u = absurd spares
    left_unopened (carry.HoursTooLong bytes) spares u = absurd spares
    left_unopened carry.Track spares u = absurd spares

    -- they were not ready
    pub left_unready : (before : Option Before) (now : ℕ) (tasks : TasksValue) (e : CarryError) → LeavesLoaded folders tracks f0 f1 j0 j1 → HoursRefused folders tracks f0 f1 j0 j1 now before tasks e → AreUndriven folders tracks f0 f1 j0 j1 (carry_cause e)
    left_unready None now tasks e loaded r = absurd r
    left_unready (Some b) now tasks (carry.Load e) loaded r = left_unloaded folders tracks f0 f1 j0 j1 e r.0 r.1 (loaded_alike folders tracks f0 f1 j0 j1 loaded)
    left_unready (Some b) now tasks (carry.HoursTooLong bytes) loaded r = record { stays = r.stays; any_moment = loaded_alike folders tracks f0 f1 j0 j1 loaded }
    left_unready (Some b) now tasks carry.Memory loaded r = record { stays = r; any_moment = loaded_alike folders tracks f0 f1 j0 j1 loaded }
    left_unready (Some b) now tasks (carry.Open e) loaded r = absurd r
    left_unready (Some b) now tasks (carry.Input e) loaded r = absurd r
    left_unready (Some b) now tasks (carry.Refused e) loaded r = absurd r
    left_unready (Some b) now tasks (carry.Hook e) loaded r = absurd r
    left_unready (Some b) now tasks (carry.TooLong bytes) loaded r = absurd r
    left_unready (Some b) now tasks carry.Disk loaded r = absurd r
    left_unready (Some b) now tasks carry.Track loaded r = absurd r

    -- they were ready, and then left alone
    pub ready_stays : MayStay folders → DiskMayStay tracks → (before : Option Before) (now : ℕ) (new : State) (hours : Option PreparedChange) → AreReady folders tracks now before new f0 f1 j0 j1 hours → HoursStay folders tracks f0 f1 j0 j1
    ready_stays folder_stays disk_stays None now new None ready = (unopened_kept folders tracks f0 f1 j0 j1 ready).stays
    ready_stays folder_stays disk_stays None now new (Some change) ready = absurd ready
    ready_stays folder_stays disk_stays (Some b) now new None ready = (unopened_kept folders tracks f0 f1 j0 j1 ready.1).stays
    ready_stays folder_stays disk_stays (Some b) now new (Some change) ready = loaded_stays folders tracks ready.1.store f0 f1 j0 j1 ready.1.loads folder_stays disk_stays

    -- a change that is ready is one of hours that were loaded
    ready_loaded : (before : Option Before) (now : ℕ) (new : State) (change : PreparedChange) → AreReady folders tracks now before new f0 f1 j0 j1 (Some change) → MayBeLoaded folders tracks f0 j0
    ready_loaded None now new change ready = absurd ready
    ready_loaded (Some b) now new change ready = may_be_loaded folders tracks ready.1.store f0 f1 j0 j1 ready.1.loads

  pub both_unopened : (f0 f1 f2 : F) (j0 j1 j2 : J) → AreUnopened folders tracks f0 f1 j0 j1 → AreUnopened folders tracks f1 f2 j1 j2 → AreUnopened folders tracks f0 f2 j0 j2
  both_unopened f0 f1 f2 j0 j1 j2 one two = (two.0 ∙ one.0, two.1 ∙ one.1)

  -- what is so of hours that are left alone after they were ready
  pub then_alone : (f0 f1 f2 : F) (j0 j1 j2 : J) → AreKept folders tracks f0 f1 j0 j1 → AreUnopened folders tracks f1 f2 j1 j2 → AreKept folders tracks f0 f2 j0 j2
  then_alone f0 f1 f2 j0 j1 j2 kept same = subst (λ (f : F). AreKept folders tracks f0 f j0 j2) (sym same.0) (subst (λ (j : J). AreKept folders tracks f0 f1 j0 j) (sym same.1) kept)

  module _ (f0 f1 f2 : F) (j0 j1 j2 : J) (folder_kept : crash.FaultsRise folders f0 f1) (track_kept : FaultsRise tracks j0 j1) where
    rose_since : Rose (folders.faults f1) (folders.faults f2) ⊎ Rose (tracks.faults j1) (tracks.faults j2) → Rose (folders.faults f0) (folders.faults f2) ⊎ Rose (tracks.faults j0) (tracks.faults j2)
    rose_since (inl folder) = inl (rose_later (folders.faults f0) (folders.faults f1) (folders.faults f2) folder_kept.faults folder)
    rose_since (inr track) = inr (rose_later (tracks.faults j0) (tracks.faults j1) (tracks.faults j2) track_kept.faults track)

    pub failed_since : (hours : Option PreparedChange) → HoursEnd folders tracks f1 f2 j1 j2 hours false → Rose (folders.faults f0) (folders.faults f2) ⊎ Rose (tracks.faults j0) (tracks.faults j2)
    failed_since None ends = absurd (let e : false ≡ true = ends.0 in cc)
    failed_since (Some change) ends = rose_since ends

    -- and they were loaded before
    pub failed_loaded : (before : Option Before) (now : ℕ) (new : State) (hours : Option PreparedChange) → AreReady folders tracks now before new f0 f1 j0 j1 hours → HoursEnd folders tracks f1 f2 j1 j2 hours false → MayBeLoaded folders tracks f0 j0
    failed_loaded before now new None ready ends = absurd (let e : false ≡ true = ends.0 in cc)
    failed_loaded before now new (Some change) ready ends = ready_loaded f0 f1 j0 j1 before now new change ready

  -- the hours after a command that was carried out
  module _ (f0 f1 f2 : F) (j0 j1 j2 : J) (request : Request) (old new : State) where
    abbrev Drives : Type 0
    Drives = AreDriven folders tracks f0 f2 j0 j2 request old new

    if_off : AreUnopened folders tracks f0 f2 j0 j2 → (moved : Bool) → AreDrivenIf folders tracks f0 f2 j0 j2 false moved old.tasks new.tasks request.at.seconds
    if_off u moved = u

    pub are_driven : (before : Option Before) (hours : Option PreparedChange) (at : ℕ) → at ≡ request.at.seconds → IsBefore request old before → AreReady folders tracks at before new f0 f1 j0 j1 hours → HoursEnd folders tracks f1 f2 j1 j2 hours true → Drives
    are_driven None None at same is ready ends =
        subst (λ (drives : Bool). AreDrivenIf folders tracks f0 f2 j0 j2 drives (has_moved old new) old.tasks new.tasks request.at.seconds) (sym is) (both_unopened f0 f1 f2 j0 j1 j2 ready ends.1)
    are_driven None (Some change) at same is ready ends = absurd ready
    are_driven (Some b) None at same is ready ends =
        subst (λ (drives : Bool). AreDrivenIf folders tracks f0 f2 j0 j2 drives (has_moved old new) old.tasks new.tasks request.at.seconds) (sym is.0)
        (subst (λ (moved : Bool). AreDrivenIf folders tracks f0 f2 j0 j2 true moved old.tasks new.tasks request.at.seconds) (sym (rests (length old.pending) (length new.pending) (sym is.2 ∙ ready.0))) (both_unopened f0 f1 f2 j0 j1 j2 ready.1 ends.1))
    are_driven (Some b) (Some change) at same is ready ends =
        subst (λ (drives : Bool). AreDrivenIf folders tracks f0 f2 j0 j2 drives (has_moved old new) old.tasks new.tasks request.at.seconds) (sym is.0)
        (subst (λ (moved : Bool). AreDrivenIf folders tracks f0 f2 j0 j2 true moved old.tasks new.tasks request.at.seconds) (sym (moves (length old.pending) (length new.pending) (λ e. ready.0 (is.2 ∙ e))))
        (λ held opens. have_become folders tracks ready.1.store f0 f1 j0 j1 ready.1.loads held opens ready.1.edit change ready.1.prepared (λ rows. driven old.tasks new.tasks rows request.at.seconds)
        (ready.1.rows old.tasks (subst (λ (s : ℕ). AreDrivers old.tasks s b.drivers) (sym same) is.1) ∙ ap (λ (s : ℕ). driven old.tasks new.tasks (intervals_of ready.1.store) s) same) f2 j2 ends))

-- where no change is to be written, the hours are left alone
pub alone_after : {D F J : Type 0} (m : DiskModel D) (folders : FolderModel F) (tracks : DiskModel J) (p : Prepared) (d0 d1 : D) (f0 f1 : F) (j0 j1 : J) (error : Option CarryError) → WriteEnds m folders tracks p d0 d1 f0 f1 j0 j1 None error → AreUnopened folders tracks f0 f1 j0 j1
alone_after m folders tracks p d0 d1 f0 f1 j0 j1 None e = e.1.1
alone_after m folders tracks p d0 d1 f0 f1 j0 j1 (Some carry.Track) e = e.1.1
alone_after m folders tracks p d0 d1 f0 f1 j0 j1 (Some carry.Disk) e = e.1
alone_after m folders tracks p d0 d1 f0 f1 j0 j1 (Some (carry.TooLong bytes)) e = e.1
alone_after m folders tracks p d0 d1 f0 f1 j0 j1 (Some (carry.Open x)) e = absurd e
alone_after m folders tracks p d0 d1 f0 f1 j0 j1 (Some (carry.Input x)) e = absurd e
alone_after m folders tracks p d0 d1 f0 f1 j0 j1 (Some (carry.Refused x)) e = absurd e
alone_after m folders tracks p d0 d1 f0 f1 j0 j1 (Some (carry.Hook x)) e = absurd e
alone_after m folders tracks p d0 d1 f0 f1 j0 j1 (Some carry.Memory) e = absurd e
alone_after m folders tracks p d0 d1 f0 f1 j0 j1 (Some (carry.Load x)) e = absurd e
alone_after m folders tracks p d0 d1 f0 f1 j0 j1 (Some (carry.HoursTooLong bytes)) e = absurd e
