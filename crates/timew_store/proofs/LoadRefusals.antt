-- Why a store is not loaded, and what it holds if it is.
use Rattle.std.proofs.Common.{◌≡◌, inl, inr, ℕ, ◌+◌, true, false, List, [], ◌∷◌, ◌++◌, length, take, Some, None, refl, sym, ap, subst, ◌∙◌, arith}
use Rattle.std.specs.Prelude.{slice_index_or, Result, Ok, Err, IsErrAnd, IfErr}
use Rattle.std.proofs.lemmas.List.{length-append, length-take, take_all, take_more}
use Rattle.tw_world.specs.Disk.{DiskModel}
use Rattle.tw_world.specs.Disk as disk
use Rattle.tw_world.specs.Crash.{Tells, Reads, FaultsRise}
use Rattle.tw_world.specs.Folder.{Files, FolderModel}
use Rattle.tw_world.proofs.Crashes.{still_settled}
use Rattle.tw_journal.specs.Form.{offset_in}
use Rattle.tw_journal.specs.Open.{IsFault, OpenRefused}
use Rattle.tw_journal.specs.Journal.{IsOpenOn, IsOpened, ReadRefused}
use Rattle.tw_journal.specs.declared.journal.Journal.{Journal}
use Rattle.tw_journal.specs.Errors.{open_in_all, read_in_all}
use Rattle.tw_journal.specs.declared.error.OpenError.{OpenError}
use Rattle.tw_journal.specs.declared.error.OpenError.TheVariants as opening
use Rattle.tw_journal.specs.declared.error.ReadError.{ReadError}
use Rattle.tw_journal.specs.declared.error.ReadError.TheVariants.{Disk, Closed, Damaged, Memory as NoMemory}
use Rattle.tw_journal.proofs.Offsets.{still_open, same_offset}
use Rattle.tw_journal.proofs.Unique.{one_records}
use Rattle.timew_month.specs.Body.{FileChange, step_of}
use Rattle.timew_store.specs.History.{History, Stands}
use Rattle.timew_store.specs.Held.{magic, Held, OpensTo, IsAtRest, held_by, finished}
use Rattle.timew_store.specs.Loading.{IsLoaded, EndsInNoStep, IsNoStep, StepRefused, LastRefused, OpeningRefused, FinishRefused, IsJournalFault, IsStoreFault, files_or, last_of}
use Rattle.timew_month.specs.Gathered.{RowsRefused, files_of, months_in, lines_in}
use Rattle.timew_month.specs.Rows.{judged, rows_of}
use Rattle.timew_store.specs.Store.{HoldMonths, IsLoadedStore, not_read, not_loaded, MonthsRefused, LoadRefused, IsLoadFault}
use Rattle.timew_month.specs.declared.months.MonthFile.{MonthFile}
use Rattle.timew_store.specs.declared.store.Store.{Store}
use Rattle.timew_month.specs.declared.read.rows.RowsError.{RowsError}
use Rattle.timew_month.specs.declared.read.rows.RowsError.TheVariants as read
use Rattle.timew_store.specs.declared.error.StoreError.{StoreError}
use Rattle.timew_store.specs.declared.error.StoreError.TheVariants as store
use Rattle.timew_store.specs.declared.error.LoadError.{LoadError}
use Rattle.timew_store.specs.declared.error.LoadError.TheVariants.{Folder, Journal as OfJournal, BadLine, Memory}
use Rattle.timew_store.proofs.AfterLoading.{last_stands, same_last}
use Rattle.timew_store.proofs.FilesRead.{judged_files}

-- what holds of the error that is passed on
pub passed_on : {T E : Type 0} (r : Result T E) (e : E) (P : E → Type 0) → IsErrAnd r (λ x. x ≡ e) → P e → IfErr r P
passed_on (Ok v) e P is has = tt
passed_on (Err x) e P is has = subst P (sym is) has

-- ---- the last record

last_of-push : (front : List (List ℕ)) (body : List ℕ) → last_of (front ++ body ∷ []) ≡ files_or (step_of body)
last_of-push [] body = refl
last_of-push (b ∷ []) body = refl
last_of-push (b ∷ next ∷ front) body = last_of-push (next ∷ front) body

ends_in_none : (file : List ℕ) (bodies : List (List ℕ)) (k offset : ℕ) → length bodies ≡ k + 1 → IsNoStep file bodies k offset → EndsInNoStep file bodies offset
ends_in_none file bodies k offset long is = record {
  front = take k bodies;
  body = slice_index_or bodies k [];
  split = sym (take_all (k + 1) bodies (omega (arith, long))) ∙ take_more bodies k [] (omega (arith, long));
  none = is.0;
  offset_is = is.1 ∙ ap (offset_in magic file bodies) (omega (arith, long, length-take k bodies));
}

module _ {D : Type 0} (n : DiskModel D) where
  pub body_refused : (k : ℕ) (d0 d1 : D) (journal : Journal) (e : ReadError) → ReadRefused n d0 d1 journal e → StepRefused n d0 d1 journal k e
  body_refused k d0 d1 journal Disk r = r
  body_refused k d0 d1 journal NoMemory r = tt
  body_refused k d0 d1 journal (Damaged offset) r = λ tells bodies on. absurd (r tells magic bodies on)
  body_refused k d0 d1 journal Closed r = r

  pub offset_refused : (k : ℕ) (d0 d1 d2 : D) (journal : Journal) (e : ReadError) → disk.Untouched n d0 d1 → ReadRefused n d1 d2 journal e → StepRefused n d0 d2 journal k e
  offset_refused k d0 d1 d2 journal Disk untouched r = omega (arith, untouched.kept.faults, r)
  offset_refused k d0 d1 d2 journal NoMemory untouched r = tt
  offset_refused k d0 d1 d2 journal (Damaged offset) untouched r = λ tells bodies on. absurd (r (untouched.kept.tells ∙ tells) magic bodies (still_open n magic journal d0 d1 bodies untouched on))
  offset_refused k d0 d1 d2 journal Closed untouched r = r

  pub last_refused : (d0 d1 : D) (journal : Journal) (k : ℕ) (e : ReadError) → journal.count ≡ k + 1 → StepRefused n d0 d1 journal k e → LastRefused n d0 d1 journal e
  last_refused d0 d1 journal k Disk count r = r
  last_refused d0 d1 journal k NoMemory count r = tt
  last_refused d0 d1 journal k (Damaged offset) count r = λ tells bodies on. ends_in_none (n.seen d0) bodies k offset (omega (arith, on.count, count)) (r tells bodies on)
  last_refused d0 d1 journal k Closed count r = r

  no_end : (file : List ℕ) (bodies : List (List ℕ)) (offset : ℕ) (changes : List FileChange) → EndsInNoStep file bodies offset → last_of bodies ≡ Some changes → ⊥
  no_end file bodies offset changes end last =
      let none : last_of bodies ≡ None = ap last_of end.split ∙ last_of-push end.front end.body ∙ ap files_or end.none in
      some_none (sym last ∙ none)
    where
      some_none : Some changes ≡ None → ⊥
      some_none e = cc

  last_fault : (d1 d2 : D) (journal : Journal) (bodies : List (List ℕ)) (changes : List FileChange) (e : ReadError) → disk.Tells n d1 → IsOpenOn n magic journal d1 bodies → last_of bodies ≡ Some changes → LastRefused n d1 d2 journal e → IsJournalFault (read_in_all e)
  last_fault d1 d2 journal bodies changes Disk tells on last r = tt
  last_fault d1 d2 journal bodies changes NoMemory tells on last r = tt
  last_fault d1 d2 journal bodies changes (Damaged offset) tells on last r = no_end (n.seen d1) bodies offset changes (r tells bodies on) last
  last_fault d1 d2 journal bodies changes Closed tells on last r = apart r on.open_now
    where
      apart : journal.closed ≡ true → journal.closed ≡ false → ⊥
      apart e f = cc

-- an opening that is refused by a fault
pub open_fault : (e : OpenError) → IsFault e → IsJournalFault (open_in_all e)
open_fault opening.Disk fault = tt
open_fault (opening.Damaged offset) fault = fault
open_fault opening.Memory fault = tt

-- why a journal is not opened with its last step
module _ {D : Type 0} (n : DiskModel D) where
  pub not_opened : (d0 d1 : D) (e : OpenError) → OpenRefused n d0 d1 magic e → OpeningRefused n d0 d1 (open_in_all e)
  not_opened d0 d1 opening.Disk r = r
  not_opened d0 d1 (opening.Damaged offset) r = λ tells. inl (r tells)
  not_opened d0 d1 opening.Memory r = tt

  -- the last record is where it was before the journal was opened
  ended_before : (d0 mid : D) (journal : Journal) (o : IsOpened n magic d0 mid journal) (offset : ℕ) → EndsInNoStep (n.seen mid) o.bodies offset → EndsInNoStep (n.seen d0) o.bodies offset
  ended_before d0 mid journal o offset end = record {
    front = end.front;
    body = end.body;
    split = end.split;
    none = end.none;
    offset_is = end.offset_is ∙ same_offset n magic d0 mid journal o (length end.front) (omega (arith, ap length end.split, length-append end.front (end.body ∷ [])));
  }

  pub last_not_read : (d0 mid d1 : D) (journal : Journal) (e : ReadError) → disk.FaultsRise n d0 mid → journal.closed ≡ false → (disk.Tells n d0 → IsOpened n magic d0 mid journal) → LastRefused n mid d1 journal e → OpeningRefused n d0 d1 (read_in_all e)
  last_not_read d0 mid d1 journal Disk kept live opened r = omega (arith, kept.faults, r)
  last_not_read d0 mid d1 journal NoMemory kept live opened r = tt
  last_not_read d0 mid d1 journal (Damaged offset) kept live opened r = λ tells.
      let o = opened tells in
      inr (record { bodies = o.bodies; records = o.records; end = ended_before d0 mid journal o offset (r (kept.tells ∙ tells) o.bodies o.now) })
  last_not_read d0 mid d1 journal Closed kept live opened r = absurd (apart r live)
    where
      apart : journal.closed ≡ true → journal.closed ≡ false → ⊥
      apart e f = cc

-- if the records lead to a history, the last one is read
pub last_sound : {F D : Type 0} (m : FolderModel F) (n : DiskModel D) (f0 : F) (d0 d1 d2 : D) (journal : Journal) (held : Held) (e : ReadError) → disk.Tells n d1 → IsOpened n magic d0 d1 journal → OpensTo (m.seen f0) (n.seen d0) held → LastRefused n d1 d2 journal e → IsJournalFault (read_in_all e)
last_sound m n f0 d0 d1 d2 journal held e tells opened opens r =
    let same = one_records magic (n.seen d0) opened.bodies opens.bodies opened.records opens.records in
    last_fault n d1 d2 journal opened.bodies opens.history.last e tells opened.now (ap last_of same ∙ last_stands opens.bodies opens.history opens.stands) r

-- ---- the month files

module _ {F : Type 0} (m : FolderModel F) where
  pub rows_refused : (f0 f1 : F) (files : List MonthFile) (e : RowsError) → (Tells m f0 → files_of files ≡ months_in (m.seen f0)) → RowsRefused e (judged (lines_in (files_of files))) → MonthsRefused m f0 f1 (not_read e)
  rows_refused f0 f1 files (read.BadLine file line) are r = λ tells. sym (judged_files (m.seen f0) files (are tells)) ∙ r
  rows_refused f0 f1 files read.Memory are r = tt

  pub months_fault : (f0 f1 : F) (e : LoadError) → MonthsRefused m f0 f1 e → IsLoadFault e
  months_fault f0 f1 Folder r = tt
  months_fault f0 f1 (OfJournal e) r = absurd r
  months_fault f0 f1 (BadLine file line) r = tt
  months_fault f0 f1 Memory r = tt

-- ---- both

pub store_fault : (e : StoreError) → IsStoreFault e → IsLoadFault (not_loaded e)
store_fault store.Folder r = tt
store_fault (store.Journal e) r = r
store_fault store.Memory r = tt

module _ {F D : Type 0} (m : FolderModel F) (n : DiskModel D) where
  pub finish_refused : (f0 f1 : F) (d0 d1 : D) (e : StoreError) → FinishRefused m n f0 f1 d0 d1 e → LoadRefused m n f0 f1 d0 d1 (not_loaded e)
  finish_refused f0 f1 d0 d1 store.Folder r = r
  finish_refused f0 f1 d0 d1 (store.Journal e) r = r
  finish_refused f0 f1 d0 d1 store.Memory r = tt

  -- what was loaded is what the folder and the journal open to
  module _ (f0 f1 : F) (d0 d1 : D) (journal : Journal) (loaded : IsLoaded m n f0 f1 d0 d1 journal) (told : Tells m f0) (held : Held) (opens : OpensTo (m.seen f0) (n.seen d0) held) where
    pub stands : Stands loaded.bodies opens.history
    stands = subst (λ (b : List (List ℕ)). Stands b opens.history) (one_records magic (n.seen d0) opens.bodies loaded.bodies opens.records loaded.records) opens.stands

    loaded_files : m.seen f1 ≡ held.files
    loaded_files = loaded.finished_now told ∙ ap (finished (m.seen f0)) (sym (same_last loaded.bodies loaded.last opens.history loaded.last_is stands)) ∙ opens.files_are

    pub loaded_held : held_by m f1 opens.history ≡ held
    loaded_held =
        ap (λ (s : Files). let h : Held = record { files = s; undoable = opens.history.undoable } in h) loaded_files
        ∙ ap (λ (u : List (List FileChange)). let h : Held = record { files = held.files; undoable = u } in h) opens.undoable_are

    -- and, if it was read, what it is then
    pub held_read : (f2 : F) → m.seen f2 ≡ m.seen f1 → held_by m f2 opens.history ≡ held
    held_read f2 same = ap (λ (s : Files). let h : Held = record { files = s; undoable = opens.history.undoable } in h) same ∙ loaded_held

  -- a read leaves at rest what rests
  pub rest_kept : (journal : Journal) (f1 f2 : F) (d : D) (bodies : List (List ℕ)) (history : History) → Reads m f1 f2 → IsAtRest m n journal f1 d bodies history → IsAtRest m n journal f2 d bodies history
  rest_kept journal f1 f2 d bodies history reads rest = record {
    tells = reads.steps.tells ∙ rest.tells;
    stable = still_settled m f1 f2 rest.tells rest.stable reads;
    open_on = rest.open_on;
    stands = rest.stands;
    whole = ap (λ (s : Files). finished s history.last) (reads.seen rest.tells) ∙ rest.whole ∙ sym (reads.seen rest.tells);
  }

  pub months_refused : (f0 f1 f2 : F) (d0 d1 : D) (journal : Journal) (e : LoadError) → FaultsRise m f0 f1 → Reads m f1 f2 → (disk.Tells n d0 → IsLoaded m n f0 f1 d0 d1 journal) → MonthsRefused m f1 f2 e → LoadRefused m n f0 f2 d0 d1 e
  months_refused f0 f1 f2 d0 d1 journal Folder kept reads loaded r = omega (arith, kept.faults, r)
  months_refused f0 f1 f2 d0 d1 journal (OfJournal e) kept reads loaded r = absurd r
  months_refused f0 f1 f2 d0 d1 journal (BadLine file line) kept reads loaded r = (
    λ told tells.
        let is = loaded tells in
        record { bodies = is.bodies; records = is.records; last = is.last; last_is = is.last_is; bad = ap rows_of (sym (is.finished_now told)) ∙ r (kept.tells ∙ told) },
    λ told settled tells held opens.
        let is = loaded tells in
        let now = kept.tells ∙ told in (
          ap rows_of (sym (loaded_files f0 f1 d0 d1 journal is told held opens)) ∙ r now,
          record {
            bodies = is.bodies;
            had = is.records;
            journal = journal;
            history = opens.history;
            rest = rest_kept journal f1 f2 d1 is.bodies opens.history reads (is.rest told settled opens.history (stands f0 f1 d0 d1 journal is told held opens));
            holds = ap (λ (s : Files). let h : Held = record { files = s; undoable = opens.history.undoable } in h) (reads.seen now) ∙ loaded_held f0 f1 d0 d1 journal is told held opens;
          },
        ),
  )
  months_refused f0 f1 f2 d0 d1 journal Memory kept reads loaded r = tt

  pub store_loaded : (f0 f1 f2 : F) (d0 d1 : D) (store : Store) → FaultsRise m f0 f1 → Reads m f1 f2 → IsLoaded m n f0 f1 d0 d1 store.journal → (Tells m f1 → HoldMonths (m.seen f1) store.months) → IsLoadedStore m n f0 f2 d0 d1 store
  store_loaded f0 f1 f2 d0 d1 store kept reads loaded months = record {
    bodies = loaded.bodies;
    records = loaded.records;
    offsets = loaded.offsets;
    open_on = loaded.open_on;
    last = loaded.last;
    last_is = loaded.last_is;
    finished_now = λ told. reads.seen (kept.tells ∙ told) ∙ loaded.finished_now told;
    months = months_now;
    on = λ told settled history stands. record { rest = rest_kept store.journal f1 f2 d1 loaded.bodies history reads (loaded.rest told settled history stands); months = months_now told };
  }
    where
      months_now : Tells m f0 → HoldMonths (m.seen f2) store.months
      months_now told = subst (λ (s : Files). HoldMonths s store.months) (sym (reads.seen (kept.tells ∙ told))) (months (kept.tells ∙ told))
