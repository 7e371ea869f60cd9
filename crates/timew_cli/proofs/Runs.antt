-- What is known of a run of words.
use Rattle.std.proofs.Common.{◌≡◌, ◌⊎◌, inl, inr, ℕ, ◌+◌, ◌^◌, List, Result, Ok, Err, refl, sym, subst, arith}
use Rattle.tw_time.specs.Moments.{TimeZone}
use Rattle.tw_world.specs.Disk.{DiskModel, Rose}
use Rattle.tw_world.specs.Disk as disk
use Rattle.tw_world.specs.Crash.{IsStable, FaultsRise}
use Rattle.tw_world.proofs.Moments.{OnlyNow}
use Rattle.tw_world.specs.Folder.{Files, FolderModel}
use Rattle.tw_world.specs.Turns.InTurns.{at_rest}
use Rattle.tw_ending.specs.Ending.{EndsPrinting}
use Rattle.tw_ending.specs.Ending.End.{Failed}
use Rattle.tw_journal.specs.declared.error.JournalError.{JournalError}
use Rattle.tw_journal.specs.declared.error.JournalError.TheVariants as journal
use Rattle.timew_store.specs.Held.{OpensTo}
use Rattle.timew_store.specs.Loading.{OpensAlike}
use Rattle.timew_store.specs.declared.error.LoadError.{LoadError}
use Rattle.timew_store.specs.declared.error.LoadError.TheVariants as load
use Rattle.timew_store.specs.declared.error.StoreError.{StoreError}
use Rattle.timew_store.specs.declared.error.StoreError.TheVariants as store
use Rattle.timew_store.specs.declared.error.UndoError.{UndoError}
use Rattle.timew_store.specs.declared.error.UndoError.TheVariants as undo
use Rattle.timew_cli.specs.Carried.{carried_out}
use Rattle.timew_cli.proofs.Growth.{nothing_grown}
use Rattle.timew_cli.proofs.Loaded.{still_among}
use Rattle.tw_world.specs.Sink.{SinkModel}
use Rattle.timew_words.specs.declared.command.Command.{Command}
use Rattle.timew_words.specs.declared.error.BadWord.{BadWord}
use Rattle.timew_cmd.specs.declared.error.TimewError.{TimewError}
use Rattle.timew_cmd.specs.declared.error.TimewError.TheVariants as plan
use Rattle.timew_words.specs.declared.error.WordsError.{WordsError}
use Rattle.timew_words.specs.declared.error.WordsError.TheVariants as words
use Rattle.timew_words.specs.Reading.{Refuses}
use Rattle.timew_cli.specs.Cause.{end_of, word_cause, words_cause, journal_cause, load_cause, plan_cause, change_cause, undo_cause, carry_cause}
use Rattle.timew_cli.specs.Run.{Outside, went, CarriedOut, NotCarried, GivesBy, Gives, CanEnd, IsDoneOrWant, LeavesStates, GrowsByRecord, IsRun}
use Rattle.timew_cli.specs.declared.carry.CarryError.{CarryError}
use Rattle.timew_cli.specs.declared.carry.CarryError.TheVariants as carry
use Rattle.timew_cli.specs.declared.cause.Cause.{Cause}
use Rattle.timew_cli.specs.declared.cause.Cause.TheVariants as causes

-- ---- an error ends a run as one that failed

journal_fails : (e : JournalError) → end_of (journal_cause e) ≡ Failed
journal_fails journal.Disk = refl
journal_fails journal.Closed = refl
journal_fails (journal.Damaged offset) = refl
journal_fails (journal.TooLong bytes) = refl
journal_fails journal.Memory = refl

load_fails : (e : LoadError) → end_of (load_cause e) ≡ Failed
load_fails load.Folder = refl
load_fails (load.Journal e) = journal_fails e
load_fails (load.BadLine file line) = refl
load_fails load.Memory = refl

plan_fails : (e : TimewError) → end_of (plan_cause e) ≡ Failed
plan_fails (plan.Overlap id) = refl
plan_fails plan.NoOpen = refl
plan_fails (plan.AlreadyOpen id) = refl
plan_fails (plan.NoInterval id) = refl
plan_fails (plan.Range word) = refl
plan_fails plan.Memory = refl

change_fails : (e : StoreError) → end_of (change_cause e) ≡ Failed
change_fails store.Folder = refl
change_fails (store.Journal e) = journal_fails e
change_fails store.Memory = refl

undo_fails : (e : UndoError) → end_of (undo_cause e) ≡ Failed
undo_fails undo.Folder = refl
undo_fails (undo.Journal e) = journal_fails e
undo_fails (undo.BadLine file line) = refl
undo_fails (undo.Edited file) = refl
undo_fails undo.NothingToUndo = refl
undo_fails undo.Memory = refl

carry_fails : (e : CarryError) → end_of (carry_cause e) ≡ Failed
carry_fails (carry.Load e) = load_fails e
carry_fails (carry.Refused e) = plan_fails e
carry_fails (carry.Change e) = change_fails e
carry_fails (carry.Undo e) = undo_fails e
carry_fails carry.NotTracking = refl
carry_fails carry.Memory = refl

module _ {F D O : Type 0} (m : FolderModel F) (n : DiskModel D) (s : SinkModel O) where
  module _ (command : Command) (now : ℕ) (zone : TimeZone) (w : Outside F D) (o0 : O) where
    -- a command that is not carried out
    pub failed_gives : (e : CarryError) (cause : Cause) → cause ≡ carry_cause e → NotCarried m n command now zone w e → Gives m n command now zone w s o0 o0 cause
    failed_gives e cause is why = subst (Gives m n command now zone w s o0 o0) (sym is) (subst (GivesBy m n command now zone w s o0 o0 (carry_cause e)) (sym (carry_fails e)) (why, refl))

    -- one that is printed
    pub printed_gives : (o1 : O) (text : List ℕ) (cause : Cause) → EndsPrinting s o0 o1 text causes.Done causes.OutFault cause → CarriedOut m n command now zone w text → Gives m n command now zone w s o0 o1 cause
    printed_gives o1 text cause (inl done) does = subst (Gives m n command now zone w s o0 o1) (sym done.0) (text, does, done.1)
    printed_gives o1 text cause (inr failed) does = subst (Gives m n command now zone w s o0 o1) (sym failed.0) (text, does, failed.1, failed.2)

    pub printed_ends : (o1 : O) (text : List ℕ) (cause : Cause) → EndsPrinting s o0 o1 text causes.Done causes.OutFault cause → CanEnd m n command now zone w s o0 o1 → IsDoneOrWant cause
    printed_ends o1 text cause (inl done) can = inl done.0
    printed_ends o1 text cause (inr failed) can = absurd (can.out_well failed.2)

  -- words that ask for a command, and words that do not
  pub command_is_run : (asked : Result Command BadWord) (command : Command) (now : ℕ) (zone : TimeZone) (w : Outside F D) (o0 o1 : O) (cause : Cause) → asked ≡ Ok command → Gives m n command now zone w s o0 o1 cause
      → (CanEnd m n command now zone w s o0 o1 → IsDoneOrWant cause) → LeavesStates m n command now zone w → GrowsByRecord n w.d0 w.d1 → FaultsRise m w.f0 w.f1 → disk.FaultsRise n w.d0 w.d1 → IsRun m n s asked now zone w o0 o1 cause
  command_is_run asked command now zone w o0 o1 cause is gives ends leaves grows folder kept = subst (λ (a : Result Command BadWord). IsRun m n s a now zone w o0 o1 cause) (sym is)
      (record { gives = gives; complete = ends; any_moment = leaves; growth = grows; folder = folder; disk = kept })

  refused_is_run : OnlyNow n → (bad : BadWord) (now : ℕ) (zone : TimeZone) (f : F) (d : D) (o : O) (cause : Cause) → (cause ≡ word_cause bad) ⊎ (cause ≡ causes.Memory) → FaultsRise m f f → disk.FaultsRise n d d → IsRun m n s (Err bad) now zone (went f f d d) o o cause
  refused_is_run only_now bad now zone f d o cause is folder kept = record { gives = (is, refl, refl, refl); complete = tt; any_moment = (refl, refl); growth = λ tells. nothing_grown n only_now d (2 ^ 30 + 29); folder = folder; disk = kept }

  folder_kept : (f : F) → FaultsRise m f f
  folder_kept f = record { faults = omega arith; tells = refl }

  disk_kept : (d : D) → disk.FaultsRise n d d
  disk_kept d = record { faults = omega arith; tells = refl }

  -- nothing was done for want of memory
  alike_here : (f : F) (d : D) (settled : IsStable m f) (x : Files) (y : List ℕ) → m.leaves f x → n.leaves d y → OpensAlike m n f d x y
  alike_here f d settled x y left left' = record {
    before = y;
    left = left';
    alike = λ h o. subst (λ (files : Files). OpensTo files y h) (sym (settled x left)) o;
    files_stay = inl (settled x left);
    journal_stays = inl refl;
  }

  want_is_run : OnlyNow n → (asked : Result Command BadWord) (now : ℕ) (zone : TimeZone) (f : F) (d : D) (o : O) → IsRun m n s asked now zone (went f f d d) o o causes.Memory
  want_is_run only_now (Ok command) now zone f d o = record {
    gives = (
      record {
        stays = record { opens = λ told settled tells held opens. opens; files = λ told tells. inl refl; journal = λ tells. inl refl };
        any_moment = λ told settled tells. at_rest f d (λ x y left left'. alike_here f d settled x y left left');
      },
      refl,
    );
    complete = λ can. inr refl;
    any_moment = λ held opens. at_rest f d (λ x y left left'. still_among m n command now zone (went f f d d) held (carried_out command held now zone) x y (alike_here f d opens.settled x y left left'));
    growth = λ tells. nothing_grown n only_now d (2 ^ 30 + 29);
    folder = folder_kept f;
    disk = disk_kept d;
  }
  want_is_run only_now (Err bad) now zone f d o = refused_is_run only_now bad now zone f d o causes.Memory (inr refl) (folder_kept f) (disk_kept d)

  pub error_is_run : OnlyNow n → (asked : Result Command BadWord) (error : WordsError) (now : ℕ) (zone : TimeZone) (f : F) (d : D) (o : O) (cause : Cause) → Refuses error asked → cause ≡ words_cause error → IsRun m n s asked now zone (went f f d d) o o cause
  error_is_run only_now asked (words.Bad bad) now zone f d o cause is same =
      subst (λ (a : Result Command BadWord). IsRun m n s a now zone (went f f d d) o o cause) (sym is) (refused_is_run only_now bad now zone f d o cause (inl same) (folder_kept f) (disk_kept d))
  error_is_run only_now asked words.Memory now zone f d o cause is same = subst (λ (c : Cause). IsRun m n s asked now zone (went f f d d) o o c) (sym same) (want_is_run only_now asked now zone f d o)
