-- A store that has taken its last change back.
use Rattle.std.specs.Prelude.{cond, slice_get, option_map, IfSome}
use Rattle.std.proofs.Common.{◌≡◌, inl, inr, ℕ, ◌+◌, ◌<◌, ◌^◌, Bool, true, List, [], ◌∷◌, ◌++◌, length, Option, Some, None, Result, Ok, Err, refl, sym, ap, subst, ◌∙◌, arith}
use Rattle.tw_world.specs.Disk.{DiskModel}
use Rattle.tw_world.specs.Disk as disk
use Rattle.tw_world.proofs.Moments as moments
use Rattle.tw_world.specs.Crash.{LeavesOnly}
use Rattle.tw_world.specs.Turns.{InTurns, crash_of}
use Rattle.tw_world.specs.Turns.InTurns.{second}
use Rattle.tw_world.specs.Folder.{Files, FolderModel}
use Rattle.tw_world.proofs.Crashes.{CountsNow}
use Rattle.tw_world.proofs.TurnRules.{disk_run, ends_second, turns_weaker}
use Rattle.tw_journal.specs.Errors.{read_in_all}
use Rattle.tw_journal.specs.declared.error.ReadError.{ReadError}
use Rattle.tw_journal.specs.declared.error.ReadError.TheVariants as reads
use Rattle.tw_journal.specs.declared.journal.Journal.{Journal}
use Rattle.tw_journal.specs.declared.error.JournalError.{JournalError}
use Rattle.tw_journal.specs.declared.error.JournalError.TheVariants as cause
use Rattle.tw_journal.proofs.Offsets.{still_open}
use Rattle.timew_month.specs.Body.{FileChange, Step, AreMonths, body_of, names_rise, ◌>>=◌}
use Rattle.timew_month.specs.Body.Step.{Undo}
use Rattle.timew_month.specs.Gathered.{RowsRefused, files_of, months_in, lines_in}
use Rattle.timew_store.specs.Held.{magic, Held, OpensTo, OpensToEither, IsAtRest, held_by}
use Rattle.timew_month.specs.Files.{replaced}
use Rattle.timew_store.specs.History.{History, applied, stepped, undone, exchanged}
use Rattle.timew_month.specs.Rows.{judged, rows_of}
use Rattle.timew_store.specs.Undo.{NoUndo, first_edited, undone_held, unless_edited, unless_unread, taken_back}
use Rattle.timew_store.specs.Undo.NoUndo.{Nothing, EditedFile, Bad}
use Rattle.timew_store.specs.Store.{HoldMonths, IsStoreOn}
use Rattle.timew_store.specs.StoreUndo.{undo_bodies, IsTakenBack, OpensToEitherOf, not_read_back, not_written, WalkRefused, BackRefused, IsUndoBody, JournalRead, UndoJournalRefused, UndoRefused}
use Rattle.timew_store.specs.Writing.{IsReadyFor, RecordRefused, WriteRefused}
use Rattle.timew_month.specs.declared.months.MonthFile.{MonthFile}
use Rattle.timew_month.specs.declared.read.rows.RowsError.{RowsError}
use Rattle.timew_month.specs.declared.read.rows.RowsError.TheVariants as read
use Rattle.timew_store.specs.declared.error.StoreError.{StoreError}
use Rattle.timew_store.specs.declared.error.StoreError.TheVariants as write
use Rattle.timew_store.specs.declared.error.UndoError.{UndoError}
use Rattle.timew_store.specs.declared.error.UndoError.TheVariants as undo
use Rattle.timew_interval.specs.declared.interval.Interval.{Interval}
use Rattle.timew_store.specs.declared.store.Store.{Store}
use Rattle.timew_month.specs.declared.months.Months.{Months}
use Rattle.timew_store.proofs.AfterLoading.{rise_apart}
use Rattle.timew_store.proofs.FilesRead.{judged_files}
use Rattle.timew_store.proofs.Prepares.{opens_here}
use Rattle.timew_store.proofs.StepAgain.{step_again}
use Rattle.timew_store.proofs.ExchangedFiles.{exchanged_rise, exchanged_months, same_itself, edited_none}

-- ---- an undo

pub top_of : (stack : List (List FileChange)) (change : List FileChange) → Some change ≡ slice_get stack 0 → (earlier : List (List FileChange)) × (stack ≡ change ∷ earlier)
top_of [] change is = absurd (cc)
top_of (c ∷ earlier) change is = (earlier, ap (λ (d : List FileChange). d ∷ earlier) (some_both is))
  where
    some_both : Some change ≡ Some c → c ≡ change
    some_both e = cc

none_of : (stack : List (List FileChange)) → None ≡ slice_get stack 0 → stack ≡ []
none_of [] is = refl
none_of (c ∷ earlier) is = absurd (cc)

module _ {F D : Type 0} (m : FolderModel F) (n : DiskModel D) where
  -- reading the journal leaves at rest what rests
  pub rest_read : (journal : Journal) (f : F) (d0 d1 : D) (bodies : List (List ℕ)) (history : History) → disk.Untouched n d0 d1 → IsAtRest m n journal f d0 bodies history → IsAtRest m n journal f d1 bodies history
  rest_read journal f d0 d1 bodies history untouched rest = record {
    tells = rest.tells;
    stable = rest.stable;
    open_on = still_open n magic journal d0 d1 bodies untouched rest.open_on;
    stands = rest.stands;
    whole = rest.whole;
  }

  -- and every image opens to what the store holds
  pub read_turns : (journal : Journal) (f : F) (d0 d1 : D) (bodies : List (List ℕ)) (history : History) (P : Files → List ℕ → Type 0) → disk.Untouched n d0 d1 → IsAtRest m n journal f d0 bodies history
      → ((x : Files) (y : List ℕ) → OpensTo x y (held_by m f history) → P x y) → LeavesOnly (crash_of n) d0 d1 (λ y. (x : Files) → m.leaves f x → P x y)
  read_turns journal f d0 d1 bodies history P untouched rest wide =
      disk_run n d0 d1 _ (moments.weaker n d0 d1 (n.leaves d0) (λ y. (x : Files) → m.leaves f x → P x y) (untouched.run rest.open_on.rest.tells) (λ y left' x left. wide x y (opens_here m n journal f d0 bodies history x y rest left left')))

  -- if there was a change to take back
  module _ (store : Store) (f0 : F) (d0 : D) (bodies : List (List ℕ)) (history : History) (on : IsStoreOn m n store f0 d0 bodies history) where
    pub nothing_left : None ≡ slice_get history.undoable 0 → undone_held (held_by m f0 history) ≡ Err Nothing
    nothing_left none = of_stack history.undoable (none_of history.undoable none)
      where
        of_stack : (stack : List (List FileChange)) → stack ≡ [] → undone_held (record { files = m.seen f0; undoable = stack }) ≡ Err Nothing
        of_stack [] is = refl
        of_stack (c ∷ earlier) is = absurd (cc)

    module _ (change : List FileChange) (top : Some change ≡ slice_get history.undoable 0) where
      abbrev pub earlier : List (List FileChange)
      earlier = (top_of history.undoable change top).0

      stack_is : history.undoable ≡ change ∷ earlier
      stack_is = (top_of history.undoable change top).1

      with_stack : (stack : List (List FileChange)) → Held
      with_stack stack = record { files = m.seen f0; undoable = stack }

      pub edited_is : (file : List ℕ) → first_edited (m.seen f0) change ≡ Some file → undone_held (held_by m f0 history) ≡ Err (EditedFile file)
      edited_is file is =
          ap (λ (s : List (List FileChange)). undone_held (record { files = m.seen f0; undoable = s })) stack_is
          ∙ ap (unless_edited (taken_back (record { files = m.seen f0; undoable = change ∷ earlier }) change earlier)) is

      pub bad_is : (line : List ℕ × ℕ) → first_edited (m.seen f0) change ≡ None → rows_of (replaced (m.seen f0) (exchanged change)) ≡ Err line → undone_held (held_by m f0 history) ≡ Err (Bad line)
      bad_is line none bad =
          ap (λ (s : List (List FileChange)). undone_held (record { files = m.seen f0; undoable = s })) stack_is
          ∙ ap (unless_edited (taken_back (record { files = m.seen f0; undoable = change ∷ earlier }) change earlier)) none
          ∙ ap (unless_unread (taken_back (record { files = m.seen f0; undoable = change ∷ earlier }) change earlier)) bad

      abbrev pub back : Held
      back = record { files = replaced (m.seen f0) (exchanged change); undoable = earlier }

      pub back_is : (rows : List Interval) → first_edited (m.seen f0) change ≡ None → rows_of (replaced (m.seen f0) (exchanged change)) ≡ Ok rows → undone_held (held_by m f0 history) ≡ Ok back
      back_is rows none good =
          ap (λ (s : List (List FileChange)). undone_held (record { files = m.seen f0; undoable = s })) stack_is
          ∙ ap (unless_edited (taken_back (record { files = m.seen f0; undoable = change ∷ earlier }) change earlier)) none
          ∙ ap (unless_unread (taken_back (record { files = m.seen f0; undoable = change ∷ earlier }) change earlier)) good

      pub bodies_are : undo_bodies history.undoable ≡ body_of (Undo (exchanged change)) ∷ []
      bodies_are = ap undo_bodies stack_is

      abbrev pub after : History
      after = record { undoable = earlier; last = exchanged change }

      applied_is : applied history (Undo (exchanged change)) ≡ Some after
      applied_is = ap (undone (exchanged change)) stack_is ∙ ap (λ (b : Bool). cond b (Some after) None) (same_itself (exchanged change))

      pub undo_ready : (d1 : D) (body : List ℕ) (changes : List FileChange) → disk.Untouched n d0 d1 → changes ≡ exchanged change → body ≡ body_of (Undo changes) → AreMonths change → names_rise change ≡ true → first_edited (m.seen f0) change ≡ None
          → IsReadyFor m n store.journal f0 d1 bodies history after body changes
      undo_ready d1 body changes untouched are body_is named rise none =
          let whole : body ≡ body_of (Undo (exchanged change)) = body_is ∙ ap (λ (c : List FileChange). body_of (Undo c)) are in
          subst (IsReadyFor m n store.journal f0 d1 bodies history after body) (sym are)
          (record {
            rest = rest_read store.journal f0 d0 d1 bodies history untouched on.rest;
            step = λ short.
                ap (λ (b : List ℕ). stepped history b) whole
                ∙ ap (λ (o : Option Step). o >>= applied history) (step_again (Undo (exchanged change)) (exchanged_months change named) (exchanged_rise change ∙ rise) (subst (λ (b : List ℕ). length b < 2 ^ 32) whole short))
                ∙ applied_is;
            last = refl;
            old = edited_none (m.seen f0) change none;
            apart = rise_apart (exchanged change) (exchanged_rise change ∙ rise);
          })

      pub taken_back_to : (new : Store) (f1 : F) (d1 : D) (body : List ℕ) (changes : List FileChange) → changes ≡ exchanged change → body ≡ body_of (Undo changes) → first_edited (m.seen f0) change ≡ None
          → HoldMonths (replaced (m.seen f0) changes) new.months → m.seen f1 ≡ replaced (m.seen f0) changes → IsAtRest m n new.journal f1 d1 (bodies ++ body ∷ []) after → IsTakenBack m n new f0 f1 d1 bodies history
      taken_back_to new f1 d1 body changes are body_is none months seen rest =
          let whole : body ≡ body_of (Undo (exchanged change)) = body_is ∙ ap (λ (c : List FileChange). body_of (Undo c)) are in
          let months_back : HoldMonths (replaced (m.seen f0) (exchanged change)) new.months = subst (λ (c : List FileChange). HoldMonths (replaced (m.seen f0) c) new.months) are months in
          let seen_back : m.seen f1 ≡ replaced (m.seen f0) (exchanged change) = seen ∙ ap (replaced (m.seen f0)) are in
          record {
            back = back;
            is = back_is new.months.rows none months_back.rows_are;
            moved = record {
              history = after;
              on = record {
                rest = subst (λ (b : List (List ℕ)). IsAtRest m n new.journal f1 d1 (bodies ++ b) after) (ap (λ (b : List ℕ). b ∷ []) whole ∙ sym bodies_are) rest;
                months = subst (λ (s : Files). HoldMonths s new.months) (sym seen_back) months_back;
              };
              holds = ap (λ (s : Files). let h : Held = record { files = s; undoable = earlier } in h) seen_back;
            };
          }

      pub either_back : (x : Files) (y : List ℕ) (rows : List Interval) (changes : List FileChange) → changes ≡ exchanged change → first_edited (m.seen f0) change ≡ None → rows_of (replaced (m.seen f0) changes) ≡ Ok rows
          → OpensToEither (held_by m f0 history) (record { files = replaced (m.seen f0) changes; undoable = earlier }) x y → OpensToEitherOf (held_by m f0 history) (undone_held (held_by m f0 history)) x y
      either_back x y rows changes are none good opens =
          subst (λ (r : Result Held NoUndo). OpensToEitherOf (held_by m f0 history) r x y) (sym (back_is rows none (ap (λ (c : List FileChange). rows_of (replaced (m.seen f0) c)) (sym are) ∙ good)))
          (subst (λ (c : List FileChange). OpensToEither (held_by m f0 history) (record { files = replaced (m.seen f0) c; undoable = earlier }) x y) are opens)

-- the state before is among those that a crash may leave
pub stays_among : (held : Held) (r : Result Held NoUndo) (x : Files) (y : List ℕ) → OpensTo x y held → OpensToEitherOf held r x y
stays_among held (Ok back) x y opens = inl opens
stays_among held (Err why) x y opens = opens

-- ---- what calls returned

pub none_found : {A B : Type 0} (f : A → B) (o : Option A) (s : Option B) → o ≡ None → option_map f o ≡ s → None ≡ s
none_found f o s is found = ap (option_map f) (sym is) ∙ found

pub some_found : {A B : Type 0} (f : A → B) (o : Option A) (x : A) (s : Option B) → o ≡ Some x → option_map f o ≡ s → Some (f x) ≡ s
some_found f o x s is found = ap (option_map f) (sym is) ∙ found

pub some_holds : {A : Type 0} (P : A → Type 0) (o : Option A) (x : A) → o ≡ Some x → IfSome o P → P x
some_holds P o x is holds = subst (λ v. IfSome v P) is holds

pub back_refused : (months : Months) (after : List MonthFile) (change changes : List FileChange) (e : RowsError)
    → ((files : Files) → HoldMonths files months → (first_edited files change ≡ None) × (files_of after ≡ months_in (replaced files changes))) → changes ≡ exchanged change
    → RowsRefused e (judged (lines_in (files_of after))) → BackRefused months change (not_read_back e)
back_refused months after change changes (read.BadLine file line) known are r = λ files hold. (
  (known files hold).0,
  ap (λ (c : List FileChange). rows_of (replaced files c)) (sym are) ∙ sym (judged_files (replaced files changes) after (known files hold).1) ∙ r,
)
back_refused months after change changes read.Memory known are r = tt

module _ {F D : Type 0} (m : FolderModel F) (n : DiskModel D) where
  -- an undo that only reads
  pub undo_reads : CountsNow (crash_of n) → (store : Store) (f0 : F) (d0 d1 : D) (bodies : List (List ℕ)) (history : History) → IsStoreOn m n store f0 d0 bodies history → disk.Untouched n d0 d1
      → InTurns m (crash_of n) (OpensToEitherOf (held_by m f0 history) (undone_held (held_by m f0 history))) f0 d0 f0 d1
  undo_reads counts_now store f0 d0 d1 bodies history on untouched =
      let P = OpensToEitherOf (held_by m f0 history) (undone_held (held_by m f0 history)) in
      ends_second m (crash_of n) counts_now P f0 d0 d1 (read_turns m n store.journal f0 d0 d1 bodies history P untouched on.rest (λ x y opens. stays_among (held_by m f0 history) (undone_held (held_by m f0 history)) x y opens))

  -- a closed store is not read
  pub undo_closed : (store : Store) (f0 : F) (d0 : D) → disk.Untouched n d0 d0 → store.journal.closed ≡ true → UndoRefused m n store store f0 f0 d0 d0 (undo.Journal cause.Closed)
  undo_closed store f0 d0 untouched closed = (refl, refl, ((refl, untouched), closed))

  -- one that writes
  pub undo_writes : (store : Store) (f0 f1 : F) (d0 d1 d2 : D) (bodies : List (List ℕ)) (history : History) (on : IsStoreOn m n store f0 d0 bodies history) (change : List FileChange) (top : Some change ≡ slice_get history.undoable 0)
      (rows : List Interval) (changes : List FileChange) → changes ≡ exchanged change → first_edited (m.seen f0) change ≡ None → rows_of (replaced (m.seen f0) changes) ≡ Ok rows → disk.Untouched n d0 d1
      → InTurns m (crash_of n) (OpensToEither (held_by m f0 history) (record { files = replaced (m.seen f0) changes; undoable = (top_of history.undoable change top).0 })) f0 d1 f1 d2
      → InTurns m (crash_of n) (OpensToEitherOf (held_by m f0 history) (undone_held (held_by m f0 history))) f0 d0 f1 d2
  undo_writes store f0 f1 d0 d1 d2 bodies history on change top rows changes are none good untouched run =
      let P = OpensToEitherOf (held_by m f0 history) (undone_held (held_by m f0 history)) in
      second f0 d0 d1 f1 d2 (read_turns m n store.journal f0 d0 d1 bodies history P untouched on.rest (λ x y opens. stays_among (held_by m f0 history) (undone_held (held_by m f0 history)) x y opens))
      (turns_weaker m (crash_of n) (OpensToEither (held_by m f0 history) (record { files = replaced (m.seen f0) changes; undoable = (top_of history.undoable change top).0 })) P
      (λ x y has. either_back m n store f0 d0 bodies history on change top x y rows changes are none good has) f0 d1 f1 d2 run)

  pub walk_undo_refused : (old new : Store) (f0 : F) (d0 d1 : D) (e : ReadError) → JournalRead n old new d0 d1 → WalkRefused n d0 d1 old.journal e → UndoJournalRefused m n old new f0 d0 d1 (read_in_all e)
  walk_undo_refused old new f0 d0 d1 reads.Disk read r = (r, inl read)
  walk_undo_refused old new f0 d0 d1 reads.Memory read r = read
  walk_undo_refused old new f0 d0 d1 (reads.Damaged offset) read r = (read, r)
  walk_undo_refused old new f0 d0 d1 reads.Closed read r = (read, r)

  -- nothing but the journal may differ
  abbrev pub Keeps : (old new : Store) → Type 0
  Keeps old new = (new.months ≡ old.months) × (new.before ≡ old.before)

  same_store : (old new : Store) → new.journal ≡ old.journal → Keeps old new → new ≡ old
  same_store old new journals same = λ i. record { journal = journals i; months = same.0 i; before = same.1 i }

  -- the undo leads back
  abbrev pub Leads : Store → F → D → Type 0
  Leads old f0 d0 = (bodies : List (List ℕ)) (history : History) → IsStoreOn m n old f0 d0 bodies history → (back : Held) × (undone_held (held_by m f0 history) ≡ Ok back)

  append_undo_refused : (old new : Store) (f0 : F) (d0 d1 d2 : D) (body : List ℕ) (e : JournalError) → disk.Untouched n d0 d1 → IsUndoBody m n old f0 d0 body → Leads old f0 d0 → Keeps old new
      → RecordRefused n old.journal new.journal d1 d2 (length body + 5) e → UndoJournalRefused m n old new f0 d0 d2 e
  append_undo_refused old new f0 d0 d1 d2 body cause.Disk untouched is leads same r = (
    omega (arith, untouched.kept.faults, r.0),
    inr (record { body = body; is = is; size = r.3; was_open = r.2; closed = r.1 }),
  )
  append_undo_refused old new f0 d0 d1 d2 body cause.Memory untouched is leads same r = absurd r
  append_undo_refused old new f0 d0 d1 d2 body (cause.Damaged offset) untouched is leads same r = absurd r
  append_undo_refused old new f0 d0 d1 d2 body (cause.TooLong bytes) untouched is leads same r = (
    omega (arith, r.0, r.1),
    (same_store old new r.3 same, subst (λ (d : D). disk.Untouched n d0 d) (sym r.4) untouched),
    λ bodies history on. let to = leads bodies history on in record { back = to.0; is = to.1; body = body; one = is bodies history on; size = r.0 },
  )
  append_undo_refused old new f0 d0 d1 d2 body cause.Closed untouched is leads same r = ((same_store old new r.1 same, subst (λ (d : D). disk.Untouched n d0 d) (sym r.2) untouched), r.0)

  pub write_undo_refused : (old new : Store) (f0 f1 : F) (d0 d1 d2 : D) (body : List ℕ) (e : StoreError) → disk.Untouched n d0 d1 → IsUndoBody m n old f0 d0 body → Leads old f0 d0 → Keeps old new
      → WriteRefused m n old.journal new.journal f0 f1 d1 d2 body e → UndoRefused m n old new f0 f1 d0 d2 (not_written e)
  write_undo_refused old new f0 f1 d0 d1 d2 body write.Folder untouched is leads same r = (r.0, (body, is, λ bodies on. r.1 bodies (still_open n magic old.journal d0 d1 bodies untouched on)))
  write_undo_refused old new f0 f1 d0 d1 d2 body (write.Journal e) untouched is leads same r = (r.1, same.0, append_undo_refused old new f0 d0 d1 d2 body e untouched is leads same r.0)
  write_undo_refused old new f0 f1 d0 d1 d2 body write.Memory untouched is leads same r = absurd r

  -- why the old bytes are not put back
  pub back_undo_refused : (old : Store) (f0 : F) (d0 d1 : D) (change : List FileChange) (e : UndoError) → disk.Untouched n d0 d1
      → ((bodies : List (List ℕ)) (history : History) → IsStoreOn m n old f0 d0 bodies history → Some change ≡ slice_get history.undoable 0)
      → BackRefused old.months change e → UndoRefused m n old old f0 f0 d0 d1 e
  back_undo_refused old f0 d0 d1 change undo.Folder untouched top r = absurd r
  back_undo_refused old f0 d0 d1 change (undo.Journal e) untouched top r = absurd r
  back_undo_refused old f0 d0 d1 change (undo.BadLine file line) untouched top r =
      ((refl, refl, untouched), λ bodies history on. let why = r (m.seen f0) on.months in bad_is m n old f0 d0 bodies history on change (top bodies history on) (file, line) why.0 why.1)
  back_undo_refused old f0 d0 d1 change (undo.Edited file) untouched top r =
      ((refl, refl, untouched), λ bodies history on. edited_is m n old f0 d0 bodies history on change (top bodies history on) file (r (m.seen f0) on.months))
  back_undo_refused old f0 d0 d1 change undo.NothingToUndo untouched top r = absurd r
  back_undo_refused old f0 d0 d1 change undo.Memory untouched top r = (refl, refl, untouched)
