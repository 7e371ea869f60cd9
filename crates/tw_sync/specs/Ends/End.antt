-- Where a sync ends (TaskChampion book, "Synchronization Model").
use Rattle.std.specs.Prelude.{◌≡◌}
use Rattle.tw_state.specs.State.{State}
use Rattle.tw_outcome.specs.End.{ServerChain, Counts, starts_at, Answer, End}
use Rattle.tw_outcome.specs.End.Answer.{Done, Stopped, Unwritten}
use Rattle.tw_sync.specs.Start.{Start, from_state}
use Rattle.tw_sync.specs.declared.report.SyncReport.{SyncReport}
use Rattle.tw_sync.specs.declared.error.SyncError.{SyncError}
use Rattle.tw_sync.specs.declared.error.SyncError.TheVariants as errors

-- what a report counts
abbrev pub counts_of : SyncReport → Counts
counts_of report = record { pulled = report.pulled; dropped = report.dropped; pushed = report.pushed; base = report.base }

-- the end of a sync that starts from this
abbrev pub EndFrom : Answer → (start : Start) (old new : State) (before after : ServerChain) → Type 0
EndFrom answer start old new before after = End answer old (starts_at (from_state start old)) new before after

-- the end of a sync that is not refused
abbrev pub SyncEnd : (start : Start) (old new : State) (before after : ServerChain) (report : SyncReport) → Type 0
SyncEnd start old new before after report = EndFrom (Done (counts_of report)) start old new before after

-- what a refusal answers: its record was not written, or the sync was stopped by the link or the server
abbrev pub answer_to : SyncError → Answer
answer_to (errors.Journal e) = Unwritten
answer_to errors.Memory = Unwritten
answer_to errors.Link = Stopped
answer_to (errors.Reply kind) = Stopped
answer_to (errors.Gone base) = Stopped
answer_to (errors.Busy parent) = Stopped
answer_to (errors.OutOfSync base parent) = Stopped
answer_to (errors.Segment version) = Stopped
answer_to (errors.SegmentTooLong bytes) = Stopped
answer_to (errors.PullTooLong bytes) = Stopped

-- it was stopped
abbrev pub IsStopping : SyncError → Type 0
IsStopping e = answer_to e ≡ Stopped
