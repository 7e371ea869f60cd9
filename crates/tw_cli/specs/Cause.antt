-- What a cause says, and the cause that each error becomes.
use Rattle.std.specs.Prelude.{Bool, true, false, Result, Ok, Err}
use Rattle.tw_ending.specs.Ending.{End}
use Rattle.tw_ending.specs.Ending.End.{Well, Output, Failed}
use Rattle.tw_journal.specs.declared.error.AppendError.{AppendError}
use Rattle.tw_journal.specs.declared.error.AppendError.TheVariants as journal
use Rattle.tw_journal.specs.declared.error.JournalError.{JournalError}
use Rattle.tw_journal.specs.declared.error.JournalError.TheVariants as hours
use Rattle.timew_store.specs.declared.error.LoadError.{LoadError}
use Rattle.timew_store.specs.declared.error.LoadError.TheVariants as load
use Rattle.tw_sync.specs.declared.error.SyncError.{SyncError}
use Rattle.tw_sync.specs.declared.error.SyncError.TheVariants as syncs
use Rattle.tw_settings.specs.declared.word_error.WordError.TheVariants as wrong
use Rattle.tw_hooks.specs.declared.error.HookError.{HookError}
use Rattle.tw_hooks.specs.declared.error.HookError.TheVariants as hook
use Rattle.tw_changes.specs.declared.refusal.Refusal.{Refusal}
use Rattle.tw_changes.specs.declared.refusal.Refusal.TheVariants as refusal
use Rattle.tw_cli.specs.declared.asked.LineError.{LineError}
use Rattle.tw_cli.specs.declared.asked.LineError.TheVariants as line
use Rattle.tw_replica.specs.declared.error.OpenError.{OpenError}
use Rattle.tw_replica.specs.declared.error.OpenError.TheVariants as opening
use Rattle.tw_cli.specs.declared.input.InputError.{InputError}
use Rattle.tw_cli.specs.declared.input.InputError.TheVariants as input
use Rattle.tw_cli.specs.declared.carry.CarryError.{CarryError}
use Rattle.tw_cli.specs.declared.carry.CarryError.TheVariants as carry
use Rattle.tw_cli.specs.declared.syncing.SyncFailure.{SyncFailure}
use Rattle.tw_cli.specs.declared.syncing.SyncFailure.TheVariants as failure
use Rattle.tw_cli.specs.declared.cause.Cause.{Cause}
use Rattle.tw_cli.specs.declared.cause.Cause.TheVariants.{Done, NoMatch, NothingToUndo, BadWords, BadSetting, NoServer, IdTaken, Cycle}
use Rattle.tw_cli.specs.declared.cause.Cause.TheVariants.{DiskFault, RecordTooLong, Memory, LinkFault, BadReply, Gone, Busy, OutOfSync}
use Rattle.tw_cli.specs.declared.cause.Cause.TheVariants.{BadSegment, SegmentTooLong, PullTooLong, OutFault, Damaged, InFault, InputTooLong, BadInput}
use Rattle.tw_cli.specs.declared.cause.Cause.TheVariants.{HookRefused, HookAnswer, HookFault, TrackFault, TrackBad, TrackDamaged}

-- how a run ends with this cause
abbrev pub end_of : Cause → End
end_of Done = Well
end_of OutFault = Output
end_of cause = Failed

-- whether the record may be there after it: a sync that is stopped may write one, of what it read and sent
abbrev pub may_write : Cause → Bool
may_write Done = true
may_write OutFault = true
may_write DiskFault = true
may_write TrackFault = true
may_write LinkFault = true
may_write (BadReply kind) = true
may_write (Gone base) = true
may_write (Busy parent) = true
may_write (OutOfSync base parent) = true
may_write (BadSegment version) = true
may_write (SegmentTooLong bytes) = true
may_write (PullTooLong bytes) = true
may_write cause = false

-- the cause that an error becomes: of words that ask for nothing
abbrev pub line_cause : LineError → Cause
line_cause (line.Words (wrong.Setting n)) = BadSetting n
line_cause (line.Words (wrong.Bad bad)) = BadWords bad.word bad.kind
line_cause (line.Words wrong.Memory) = Memory
line_cause line.NoServer = NoServer

-- of a replica that is not opened
abbrev pub open_cause : OpenError → Cause
open_cause opening.Disk = DiskFault
open_cause (opening.Damaged offset) = Damaged offset
open_cause opening.Memory = Memory
open_cause (opening.TooLong bytes) = RecordTooLong bytes

-- of an input that is not read
abbrev pub input_cause : InputError → Cause
input_cause input.Fault = InFault
input_cause input.TooLong = InputTooLong
input_cause input.Memory = Memory

-- of a command that does nothing
abbrev pub refusal_cause : Refusal → Cause
refusal_cause refusal.NoMatch = NoMatch
refusal_cause refusal.NothingToUndo = NothingToUndo
refusal_cause (refusal.BadWords word kind) = BadWords word kind
refusal_cause (refusal.IdTaken uuid) = IdTaken uuid
refusal_cause (refusal.Cycle uuid) = Cycle uuid
refusal_cause (refusal.BadInput index name) = BadInput index name

-- of hooks that do not let tasks become so
abbrev pub hook_cause : HookError → Cause
hook_cause (hook.Refused name status) = HookRefused name status
hook_cause (hook.Answer name) = HookAnswer name
hook_cause hook.Fault = HookFault
hook_cause hook.Memory = Memory

-- of a journal of hours that refuses
abbrev pub track_cause : JournalError → Cause
track_cause hours.Disk = TrackFault
track_cause hours.Closed = TrackFault
track_cause (hours.Damaged offset) = TrackDamaged offset
track_cause (hours.TooLong bytes) = RecordTooLong bytes
track_cause hours.Memory = Memory

-- of hours that are not loaded
abbrev pub load_cause : LoadError → Cause
load_cause load.Folder = TrackFault
load_cause (load.Journal e) = track_cause e
load_cause (load.BadLine file line) = TrackBad file line
load_cause load.Memory = Memory

-- of a command that is not carried out
abbrev pub carry_cause : CarryError → Cause
carry_cause (carry.Open e) = open_cause e
carry_cause (carry.Input e) = input_cause e
carry_cause (carry.Refused refusal) = refusal_cause refusal
carry_cause (carry.Hook e) = hook_cause e
carry_cause (carry.TooLong bytes) = RecordTooLong bytes
carry_cause (carry.Load e) = load_cause e
carry_cause (carry.HoursTooLong bytes) = RecordTooLong bytes
carry_cause carry.Disk = DiskFault
carry_cause carry.Track = TrackFault
carry_cause carry.Memory = Memory

-- of a record that is not written: a journal is closed by a fault of the disk alone
abbrev pub journal_cause : AppendError → Cause
journal_cause journal.Disk = DiskFault
journal_cause journal.Closed = DiskFault
journal_cause (journal.TooLong bytes) = RecordTooLong bytes

-- of a sync that was refused
abbrev pub sync_cause : SyncError → Cause
sync_cause (syncs.Journal e) = journal_cause e
sync_cause syncs.Link = LinkFault
sync_cause (syncs.Reply kind) = BadReply kind
sync_cause (syncs.Gone base) = Gone base
sync_cause (syncs.Busy parent) = Busy parent
sync_cause (syncs.OutOfSync base parent) = OutOfSync base parent
sync_cause (syncs.Segment version) = BadSegment version
sync_cause (syncs.SegmentTooLong bytes) = SegmentTooLong bytes
sync_cause (syncs.PullTooLong bytes) = PullTooLong bytes
sync_cause syncs.Memory = Memory

-- of a sync that is not done
abbrev pub failure_cause : SyncFailure → Cause
failure_cause (failure.Open e) = open_cause e
failure_cause (failure.Sync e) = sync_cause e

-- the cause of a call's end
abbrev pub ended : {A E : Type 0} → (E → Cause) → Result A E → Cause
ended cause_of (Ok a) = Done
ended cause_of (Err e) = cause_of e
