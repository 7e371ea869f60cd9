-- Hours that were loaded, seen from before the loading.
use Rattle.std.proofs.Common.{◌≡◌, ◌⊎◌, inl, inr, ℕ, List, ◌++◌, true, false, Result, Option, Some, None, Ok, Err, refl, sym, ap, subst, ◌∙◌, length}
use Rattle.tw_world.specs.Disk.{DiskModel, Rose}
use Rattle.tw_world.specs.Folder.{Files, FolderModel}
use Rattle.tw_world.specs.Crash.{IsStable}
use Rattle.tw_world.specs.Turns.{InTurns, crash_of}
use Rattle.tw_world.specs.Turns.InTurns.{at_rest}
use Rattle.tw_journal.specs.Record.{rows as row_of_records}
use Rattle.tw_journal.specs.declared.error.JournalError.TheVariants as fault
use Rattle.tw_journal.proofs.Offsets.{open_records}
use Rattle.tw_model.specs.Ops.{TasksValue}
use Rattle.tw_state.specs.State.{State}
use Rattle.timew_month.specs.Changes.{changes_to}
use Rattle.timew_interval.specs.Edit.{edited}
use Rattle.timew_store.specs.Held.{magic, Held, OpensTo, IfTheyOpen, IsAtRest, held_by}
use Rattle.timew_store.specs.Loading.{Stays, OpensAlike, LeavesAlike}
use Rattle.timew_store.specs.Prepared.{IsPreparedChange, OnPrepared, PrepareRefused, WriteFailed}
use Rattle.timew_month.specs.Rows.{rows_of}
use Rattle.timew_store.specs.Store.{IsStoreOn, IsLoadedStore, LoadsStore, LoadRefused, LoadSparesDisk, IsLoadFault, LeavesChange, IsChangedTo, OpensToChanged, OnFolders, intervals_of, rows_after, changed, change_bodies}
use Rattle.timew_interval.specs.declared.edit.Edit.{Edit}
use Rattle.timew_interval.specs.declared.interval.Interval.{Interval}
use Rattle.timew_store.specs.declared.store.Store.{Store}
use Rattle.timew_store.specs.declared.prepare.PreparedChange.{PreparedChange}
use Rattle.timew_store.specs.declared.error.LoadError.{LoadError}
use Rattle.timew_store.specs.declared.error.LoadError.TheVariants as load
use Rattle.timew_store.specs.declared.error.PrepareError.TheVariants as prepares
use Rattle.timew_store.specs.declared.error.WriteError.{WriteError}
use Rattle.timew_store.specs.declared.error.WriteError.TheVariants as writes
use Rattle.timew_store.proofs.AfterLoading.{all_finished}
use Rattle.timew_store.proofs.LoadedStore.{loaded_on, loaded_files, loaded_held}
use Rattle.timew_store.proofs.Prepares.{opens_here}
use Rattle.timew_store.proofs.Stays.{MayStay, DiskMayStay}
use Rattle.timew_bridge.specs.declared.drivers.Drivers.{Drivers}
use Rattle.timew_bridge.specs.Known.{AreDrivers}
use Rattle.tw_cli.specs.Cause.{load_cause}
use Rattle.tw_cli.specs.Driving.{driven, Opens, MayBeLoaded, AreUnopened, HaveBecome, AreKept, AreUndriven}
use Rattle.tw_cli.specs.Ready.{CanBeWritten, AreReady, ChangeEnds, PassesHours, LeavesLoaded}
use Rattle.tw_cli.specs.declared.hours.Before.{Before}
use Rattle.tw_cli.specs.declared.cause.Cause.TheVariants as causes

same_rows : (found : Result (List Interval) (List ℕ × ℕ)) (a b : List Interval) → found ≡ Ok a → found ≡ Ok b → a ≡ b
same_rows found a b x y = let e = sym x ∙ y in cc

not_bad : (found : Result (List Interval) (List ℕ × ℕ)) (rows : List Interval) (line : List ℕ × ℕ) → found ≡ Ok rows → found ≡ Err line → ⊥
not_bad found rows line x y = absurd (let e = sym x ∙ y in cc)

module _ {F J : Type 0} (m : FolderModel F) (n : DiskModel J) where
  stays_same : (f : F) (j : J) → Stays m n f f j j
  stays_same f j = record { opens = λ told settled tells held opens. opens; files = λ told tells. inl refl; journal = λ tells. inl refl }

  -- what rests opens to what it does
  pub alike_here : (f : F) (j : J) → IsStable m f → (x : Files) (y : List ℕ) → m.leaves f x → n.leaves j y → OpensAlike m n f j x y
  alike_here f j settled x y left left' = record {
    before = y;
    left = left';
    alike = λ held opens. subst (λ (files : Files). OpensTo files y held) (sym (settled x left)) opens;
    files_stay = inl (settled x left);
    journal_stays = inl refl;
  }

  kept_same : (f : F) (j : J) → AreKept m n f f j j
  kept_same f j = record { stays = stays_same f j; any_moment = λ told settled tells. at_rest f j (alike_here f j settled) }

  -- what is as it was opens to what it did
  pub unopened_kept : (f0 f1 : F) (j0 j1 : J) → AreUnopened m n f0 f1 j0 j1 → AreKept m n f0 f1 j0 j1
  unopened_kept f0 f1 j0 j1 same = subst (λ (f : F). AreKept m n f0 f j0 j1) (sym same.0) (subst (λ (j : J). AreKept m n f0 f0 j0 j) (sym same.1) (kept_same f0 j0))

  -- hours that are ready were loaded, or left alone
  pub loaded_alike : (f0 f1 : F) (j0 j1 : J) → LeavesLoaded m n f0 f1 j0 j1 → LeavesAlike m n f0 f1 j0 j1
  loaded_alike f0 f1 j0 j1 (inl same) = (unopened_kept f0 f1 j0 j1 same).any_moment
  loaded_alike f0 f1 j0 j1 (inr alike) = alike

  -- ---- where nothing was loaded

  module _ (f0 f1 : F) (j0 j1 : J) where
    pub left_unloaded : (e : LoadError) → LoadRefused m n f0 f1 j0 j1 e → (LoadSparesDisk e → Stays m n f0 f1 j0 j1) → LeavesAlike m n f0 f1 j0 j1 → AreUndriven m n f0 f1 j0 j1 (load_cause e)
    left_unloaded load.Folder r stays alike = (inl r, inl (record { stays = inr (stays tt); any_moment = alike }))
    left_unloaded (load.Journal fault.Disk) r stays alike = (inr r.1, inl (record { stays = inl r.0; any_moment = alike }))
    left_unloaded (load.Journal fault.Memory) r stays alike = record { stays = stays tt; any_moment = alike }
    left_unloaded (load.Journal (fault.Damaged offset)) r stays alike = (r.0, r.1, record { stays = stays tt; any_moment = alike })
    left_unloaded (load.Journal (fault.TooLong bytes)) r stays alike = absurd r.1
    left_unloaded (load.Journal fault.Closed) r stays alike = absurd r.1
    left_unloaded (load.BadLine file line) r stays alike = (r.0, r.1, record { stays = stays tt; any_moment = alike })
    left_unloaded load.Memory r stays alike = record { stays = stays tt; any_moment = alike }

    -- hours that can be driven are not loaded for want of memory alone
    pub unloaded_wants : (e : LoadError) → LoadRefused m n f0 f1 j0 j1 e → IfTheyOpen m n f0 j0 (IsLoadFault e) → (held : Held) → Opens m n f0 j0 held → (rows : List Interval) → rows_of held.files ≡ Ok rows
        → (Rose (m.faults f0) (m.faults f1) → ⊥) → (Rose (n.faults j0) (n.faults j1) → ⊥) → load_cause e ≡ causes.Memory
    unloaded_wants load.Folder r sound held opens rows read folder_well track_well = absurd (folder_well r)
    unloaded_wants (load.Journal fault.Disk) r sound held opens rows read folder_well track_well = absurd (track_well r.1)
    unloaded_wants (load.Journal fault.Memory) r sound held opens rows read folder_well track_well = refl
    unloaded_wants (load.Journal (fault.Damaged offset)) r sound held opens rows read folder_well track_well = absurd (sound held opens.tells opens.opens)
    unloaded_wants (load.Journal (fault.TooLong bytes)) r sound held opens rows read folder_well track_well = absurd r.1
    unloaded_wants (load.Journal fault.Closed) r sound held opens rows read folder_well track_well = absurd r.1
    unloaded_wants (load.BadLine file line) r sound held opens rows read folder_well track_well =
        absurd (not_bad (rows_of held.files) rows (file, line) read (r.1 opens.told opens.settled opens.tells held opens.opens).0)
    unloaded_wants load.Memory r sound held opens rows read folder_well track_well = refl

  -- ---- where they were loaded

  module _ (store : Store) (f0 f1 : F) (j0 j1 : J) (loads : LoadsStore m n f0 f1 j0 j1 store) where
    module _ (held : Held) (opens : Opens m n f0 j0 held) where
      abbrev is_loaded : IsLoadedStore m n f0 f1 j0 j1 store
      is_loaded = loads opens.tells

      on : IsStoreOn m n store f1 j1 is_loaded.bodies opens.opens.history
      on = loaded_on m n store f0 f1 j0 j1 is_loaded held opens.told opens.settled opens.opens

      files_same : m.seen f1 ≡ held.files
      files_same = loaded_files m n store f0 f1 j0 j1 is_loaded held opens.told opens.settled opens.opens

      held_same : held_by m f1 opens.opens.history ≡ held
      held_same = loaded_held m n store f0 f1 j0 j1 is_loaded held opens.told opens.settled opens.opens

      pub rows_read : rows_of held.files ≡ Ok (intervals_of store)
      rows_read = ap rows_of (sym files_same) ∙ on.months.rows_are

      -- whatever a crash leaves now opens to what was held
      pub opens_now : (x : Files) (y : List ℕ) → m.leaves f1 x → n.leaves j1 y → OpensTo x y held
      opens_now x y left left' = subst (OpensTo x y) held_same (opens_here m n store.journal f1 j1 is_loaded.bodies opens.opens.history x y on.rest left left')

      -- ---- a change

      module _ (edit : Edit) (change : PreparedChange) (prepared : IsPreparedChange store edit change) (make : List Interval → List Interval) (made : edited edit (intervals_of store) ≡ make (intervals_of store)) where
        pub have_become : (f2 : F) (j2 : J) → ChangeEnds m n f1 f2 j1 j2 change true → HaveBecome m n f0 f2 j0 j2 make held
        have_become f2 j2 ends =
            let new : Store = ends.0 in
            let moved = subst (λ (rows : List Interval). IsChangedTo m n store new f1 f2 j1 j2 rows) made (ends.1 store edit prepared) is_loaded.bodies opens.opens.history on in
            record {
              rows = intervals_of store;
              read = rows_read;
              bodies = is_loaded.bodies;
              had = is_loaded.records;
              journal = new.journal;
              history = moved.history;
              rest = subst (λ (files : Files). IsAtRest m n new.journal f2 j2 (is_loaded.bodies ++ change_bodies (changes_to files (make (intervals_of store)))) moved.history) files_same moved.on.rest;
              holds = moved.holds ∙ ap (λ (h : Held). changed h (make (intervals_of store))) held_same;
              are = moved.on.months.rows_are ∙ ap (λ (rows : List Interval). Ok rows) (ends.2 store edit prepared ∙ made);
            }

        -- a crash of it
        pub change_leaves : (f2 : F) (j2 : J) → OnPrepared change (λ old rows. LeavesChange m n old f1 f2 j1 j2 rows) → InTurns m (crash_of n) (OpensToChanged held (make (intervals_of store))) f1 j1 f2 j2
        change_leaves f2 j2 leaves =
            subst (λ (h : Held). InTurns m (crash_of n) (OpensToChanged h (make (intervals_of store))) f1 j1 f2 j2) held_same
            (subst (λ (rows : List Interval). LeavesChange m n store f1 f2 j1 j2 rows) made (leaves store edit prepared) is_loaded.bodies opens.opens.history on)

      -- a record that is too long
      size_is : (bytes : ℕ) (after : List Interval) → OnFolders store.months (λ files. bytes ≡ length (row_of_records (change_bodies (changes_to files after))))
          → bytes ≡ length (row_of_records (change_bodies (changes_to held.files after)))
      size_is bytes after size = subst (λ (files : Files). bytes ≡ length (row_of_records (change_bodies (changes_to files after)))) files_same (size (m.seen f1) (is_loaded.months opens.told))

    -- what was loaded can be
    pub may_be_loaded : MayBeLoaded m n f0 j0
    may_be_loaded told tells =
        let is = loads tells in
        record {
          bodies = is.bodies;
          records = is.records;
          last = is.last;
          last_is = is.last_is;
          rows = intervals_of store;
          read = ap rows_of (sym (is.finished_now told)) ∙ (is.months told).rows_are;
        }

    -- what was loaded, and not changed, opens to what it did
    pub loaded_stays : MayStay m → DiskMayStay n → Stays m n f0 f1 j0 j1
    loaded_stays folder_stays disk_stays = record {
      opens = λ told settled tells held opens.
          let o : Opens m n f0 j0 held = record { told = told; settled = settled; tells = tells; opens = opens } in
          opens_now held o (m.seen f1) (n.seen j1) (folder_stays f1 (on held o).rest.tells) (disk_stays j1 (on held o).rest.open_on.rest.tells);
      files = λ told tells.
          let is = loads tells in
          inr (record { bodies = is.bodies; records = is.records; last = is.last; last_is = is.last_is; partly = all_finished is.last (m.seen f0) (m.seen f1) (is.finished_now told) });
      journal = λ tells.
          let is = loads tells in
          inr (record { bodies = is.bodies; had = is.records; has = open_records n magic store.journal j1 is.bodies is.open_on; offsets = is.offsets });
    }

    -- the record of a change passes its limit
    pub passes_hours : MayStay m → DiskMayStay n → (now : ℕ) (before : Drivers) (after : TasksValue) (edit : Edit) (bytes : ℕ)
        → ((tasks : TasksValue) → AreDrivers tasks now before → edited edit (intervals_of store) ≡ driven tasks after (intervals_of store) now)
        → PrepareRefused store (rows_after edit store) (prepares.TooLong bytes) → PassesHours m n f0 f1 j0 j1 now before after bytes
    passes_hours folder_stays disk_stays now before after edit bytes rows_are refused = record {
      above = refused.0;
      loads = may_be_loaded;
      stays = loaded_stays folder_stays disk_stays;
      size = λ held opens rows read tasks are.
          let same : intervals_of store ≡ rows = same_rows (rows_of held.files) (intervals_of store) rows (rows_read held opens) read in
          size_is held opens bytes (edited edit (intervals_of store)) refused.1
          ∙ ap (λ (l : List Interval). length (row_of_records (change_bodies (changes_to held.files l)))) (rows_are tasks are ∙ ap (λ (l : List Interval). driven tasks after l now) same);
    }

  -- ---- a change that is ready

  -- it can be written
  pub ready_written : (before : Option Before) (now : ℕ) (new : State) (f0 f1 : F) (j0 j1 : J) (hours : Option PreparedChange) → AreReady m n now before new f0 f1 j0 j1 hours → CanBeWritten n j1 hours
  ready_written None now new f0 f1 j0 j1 None ready = tt
  ready_written None now new f0 f1 j0 j1 (Some change) ready = absurd ready
  ready_written (Some b) now new f0 f1 j0 j1 None ready = tt
  ready_written (Some b) now new f0 f1 j0 j1 (Some change) ready = ((ready.1.store, ready.1.edit, ready.1.prepared), ready.1.length)

  -- it is not written
  module _ (f0 f1 : F) (j0 j1 : J) (old : Store) (edit : Edit) (change : PreparedChange) (prepared : IsPreparedChange old edit change) where
    failed_by : (e : WriteError) → WriteFailed m n f0 f1 j0 j1 e old (edited edit (intervals_of old)) → Rose (m.faults f0) (m.faults f1) ⊎ Rose (n.faults j0) (n.faults j1)
    failed_by writes.Folder failed = inl failed.0
    failed_by writes.Disk failed = inr failed.0

    pub change_failed : (e : WriteError) → OnPrepared change (WriteFailed m n f0 f1 j0 j1 e) → ChangeEnds m n f0 f1 j0 j1 change false
    change_failed e failed = failed_by e (failed old edit prepared)
