-- What a cause says, and the cause that each error becomes.
use Rattle.tw_ending.specs.Ending.{End}
use Rattle.tw_ending.specs.Ending.End.{Well, Output, Failed}
use Rattle.tw_journal.specs.declared.error.JournalError.{JournalError}
use Rattle.tw_journal.specs.declared.error.JournalError.TheVariants as journal
use Rattle.timew_store.specs.declared.error.LoadError.{LoadError}
use Rattle.timew_store.specs.declared.error.LoadError.TheVariants as load
use Rattle.timew_store.specs.declared.error.StoreError.{StoreError}
use Rattle.timew_store.specs.declared.error.StoreError.TheVariants as store
use Rattle.timew_store.specs.declared.error.UndoError.{UndoError}
use Rattle.timew_store.specs.declared.error.UndoError.TheVariants as undo
use Rattle.timew_store.specs.Undo.{NoUndo}
use Rattle.timew_store.specs.Undo.NoUndo.{Nothing, EditedFile, Bad}
use Rattle.timew_words.specs.declared.error.BadWord.{BadWord}
use Rattle.timew_words.specs.declared.error.WordsError.{WordsError}
use Rattle.timew_words.specs.declared.error.WordsError.TheVariants as words
use Rattle.timew_cmd.specs.declared.error.TimewError.{TimewError}
use Rattle.timew_cmd.specs.declared.error.TimewError.TheVariants as plan
use Rattle.timew_cli.specs.declared.carry.CarryError.{CarryError}
use Rattle.timew_cli.specs.declared.carry.CarryError.TheVariants as carry
use Rattle.timew_cli.specs.declared.cause.Cause.{Cause}
use Rattle.timew_cli.specs.declared.cause.Cause.TheVariants.{Done, NotTracking, NothingToUndo, Edited, BadWords, NoInterval, NoOpen, AlreadyOpen, Range}
use Rattle.timew_cli.specs.declared.cause.Cause.TheVariants.{Overlap, BadLine, DiskFault, RecordTooLong, Damaged, FolderFault, Memory, OutFault}

-- how a run ends with this cause
abbrev pub end_of : Cause → End
end_of Done = Well
end_of OutFault = Output
end_of cause = Failed

-- of words that are no command
abbrev pub word_cause : BadWord → Cause
word_cause bad = BadWords bad.word bad.kind

abbrev pub words_cause : WordsError → Cause
words_cause (words.Bad bad) = word_cause bad
words_cause words.Memory = Memory

-- of a journal
abbrev pub journal_cause : JournalError → Cause
journal_cause journal.Disk = DiskFault
journal_cause journal.Closed = DiskFault
journal_cause (journal.Damaged offset) = Damaged offset
journal_cause (journal.TooLong bytes) = RecordTooLong bytes
journal_cause journal.Memory = Memory

-- of a store that is not loaded
abbrev pub load_cause : LoadError → Cause
load_cause load.Folder = FolderFault
load_cause (load.Journal e) = journal_cause e
load_cause (load.BadLine file line) = BadLine file line
load_cause load.Memory = Memory

-- of a change that is not made
abbrev pub change_cause : StoreError → Cause
change_cause store.Folder = FolderFault
change_cause (store.Journal e) = journal_cause e
change_cause store.Memory = Memory

-- of one that is not taken back
abbrev pub undo_cause : UndoError → Cause
undo_cause undo.Folder = FolderFault
undo_cause (undo.Journal e) = journal_cause e
undo_cause (undo.BadLine file line) = BadLine file line
undo_cause (undo.Edited file) = Edited file
undo_cause undo.NothingToUndo = NothingToUndo
undo_cause undo.Memory = Memory

abbrev pub no_undo_cause : NoUndo → Cause
no_undo_cause Nothing = NothingToUndo
no_undo_cause (EditedFile file) = Edited file
no_undo_cause (Bad line) = BadLine line.0 line.1

-- of a command that the intervals refuse
abbrev pub plan_cause : TimewError → Cause
plan_cause (plan.Overlap id) = Overlap id
plan_cause plan.NoOpen = NoOpen
plan_cause (plan.AlreadyOpen id) = AlreadyOpen id
plan_cause (plan.NoInterval id) = NoInterval id
plan_cause (plan.Range word) = Range word
plan_cause plan.Memory = Memory

-- of a command that is not carried out
abbrev pub carry_cause : CarryError → Cause
carry_cause (carry.Load e) = load_cause e
carry_cause (carry.Refused e) = plan_cause e
carry_cause (carry.Change e) = change_cause e
carry_cause (carry.Undo e) = undo_cause e
carry_cause carry.NotTracking = NotTracking
carry_cause carry.Memory = Memory
