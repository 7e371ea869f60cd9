-- What an error is in the words of another call.
use Rattle.std.specs.Prelude.{Option, Some, None}
use Rattle.tw_journal.specs.Errors.{append_in_all}
use Rattle.tw_journal.specs.declared.error.OpenError.{OpenError as JournalOpenError}
use Rattle.tw_journal.specs.declared.error.OpenError.TheVariants as opening
use Rattle.tw_journal.specs.declared.error.ReadError.{ReadError}
use Rattle.tw_journal.specs.declared.error.ReadError.TheVariants as reads
use Rattle.tw_journal.specs.declared.error.AppendError.{AppendError}
use Rattle.tw_journal.specs.declared.error.AppendError.TheVariants as appends
use Rattle.tw_journal.specs.declared.error.JournalError.{JournalError}
use Rattle.tw_journal.specs.declared.error.JournalError.TheVariants as journal
use Rattle.tw_replica.specs.declared.error.RecordError.{RecordError}
use Rattle.tw_replica.specs.declared.error.RecordError.TheVariants as records
use Rattle.tw_replica.specs.declared.keeping.commit.NextError.{NextError}
use Rattle.tw_replica.specs.declared.keeping.commit.NextError.TheVariants as prepares
use Rattle.tw_replica.specs.declared.error.OpenError.{OpenError}
use Rattle.tw_replica.specs.declared.error.OpenError.TheVariants as opens
use Rattle.tw_replica.specs.declared.error.WriteError.{WriteError}
use Rattle.tw_replica.specs.declared.error.WriteError.TheVariants as writes
use Rattle.tw_replica.specs.declared.error.CommitError.{CommitError}
use Rattle.tw_replica.specs.declared.error.CommitError.TheVariants as commits
use Rattle.tw_replica.specs.declared.error.UndoError.{UndoError}
use Rattle.tw_replica.specs.declared.error.UndoError.TheVariants as undos
use Rattle.tw_replica.specs.declared.error.ReplicaError.{ReplicaError}
use Rattle.tw_replica.specs.declared.error.ReplicaError.TheVariants as errors

-- the causes for which a record of an open journal is not read
abbrev pub IsReadCause : ReadError → Type 0
IsReadCause reads.Closed = ⊥
IsReadCause e = Unit {0}

-- the cause that it was of a record that is not read. No record that is read is too long
abbrev pub of_open : OpenError → Option ReadError
of_open opens.Disk = Some reads.Disk
of_open (opens.Damaged offset) = Some (reads.Damaged offset)
of_open opens.Memory = Some reads.Memory
of_open (opens.TooLong bytes) = None

-- the same cause of a journal that is not opened
abbrev pub journal_in_open : JournalOpenError → OpenError
journal_in_open opening.Disk = opens.Disk
journal_in_open (opening.Damaged offset) = opens.Damaged offset
journal_in_open opening.Memory = opens.Memory

-- the same cause of a record that is not added
abbrev pub append_in_write : AppendError → WriteError
append_in_write appends.Disk = writes.Disk
append_in_write appends.Closed = writes.Closed
append_in_write (appends.TooLong bytes) = writes.TooLong bytes

-- the journal's error that it was
abbrev pub of_write : WriteError → JournalError
of_write writes.Disk = journal.Disk
of_write writes.Closed = journal.Closed
of_write (writes.TooLong bytes) = journal.TooLong bytes

-- the same cause, as a commit reports it
abbrev pub record_in_commit : RecordError → CommitError
record_in_commit (records.Journal e) = commits.Journal e
record_in_commit records.Memory = commits.Memory

abbrev pub next_in_commit : NextError → CommitError
next_in_commit (prepares.Invalid index) = commits.Invalid index
next_in_commit prepares.Memory = commits.Memory

-- as an undo reports it
abbrev pub record_in_undo : RecordError → UndoError
record_in_undo (records.Journal e) = undos.Journal e
record_in_undo records.Memory = undos.Memory

-- as one of several calls reports it
abbrev pub commit_in_all : CommitError → ReplicaError
commit_in_all (commits.Journal e) = errors.Journal (append_in_all e)
commit_in_all (commits.Invalid index) = errors.Invalid index
commit_in_all commits.Memory = errors.Memory

abbrev pub undo_in_all : UndoError → ReplicaError
undo_in_all (undos.Journal e) = errors.Journal (append_in_all e)
undo_in_all undos.NothingToUndo = errors.NothingToUndo
undo_in_all undos.Memory = errors.Memory

abbrev pub open_in_all : OpenError → ReplicaError
open_in_all opens.Disk = errors.Journal journal.Disk
open_in_all (opens.Damaged offset) = errors.Journal (journal.Damaged offset)
open_in_all opens.Memory = errors.Memory
open_in_all (opens.TooLong bytes) = errors.Journal (journal.TooLong bytes)

abbrev pub write_in_all : WriteError → ReplicaError
write_in_all e = errors.Journal (of_write e)
