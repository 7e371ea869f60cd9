-- The causes of the inner calls, as causes of a sync.
use Rattle.tw_http.specs.declared.link.LinkError.{LinkError}
use Rattle.tw_http.specs.declared.link.LinkError.TheVariants.{Failed, Memory}
use Rattle.tw_replica.specs.declared.error.RecordError.{RecordError}
use Rattle.tw_replica.specs.declared.error.RecordError.TheVariants as records
use Rattle.tw_sync.specs.declared.error.AskError.{AskError}
use Rattle.tw_sync.specs.declared.error.AskError.TheVariants as asking
use Rattle.tw_sync.specs.declared.error.TakeError.{TakeError}
use Rattle.tw_sync.specs.declared.error.TakeError.TheVariants as taking
use Rattle.tw_sync.specs.declared.error.SendError.{SendError}
use Rattle.tw_sync.specs.declared.error.SendError.TheVariants as sending
use Rattle.tw_sync.specs.declared.error.SyncError.{SyncError}
use Rattle.tw_sync.specs.declared.error.SyncError.TheVariants as errors

abbrev pub of_link : LinkError → AskError
of_link Failed = asking.Link
of_link Memory = asking.Memory

abbrev pub of_ask : AskError → SyncError
of_ask asking.Link = errors.Link
of_ask (asking.Reply kind) = errors.Reply kind
of_ask asking.Memory = errors.Memory

abbrev pub of_take : TakeError → SyncError
of_take (taking.Segment version) = errors.Segment version
of_take (taking.TooLong bytes) = errors.PullTooLong bytes
of_take taking.Memory = errors.Memory

abbrev pub of_send : SendError → SyncError
of_send (sending.TooLong bytes) = errors.SegmentTooLong bytes
of_send sending.Memory = errors.Memory

abbrev pub of_record : RecordError → SyncError
of_record (records.Journal e) = errors.Journal e
of_record records.Memory = errors.Memory
