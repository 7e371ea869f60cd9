-- When a segment is refused.
use Rattle.std.specs.Prelude.{◌≡◌, ℕ, Option, Some, ◌<◌, ◌≤◌, List, length}
use Rattle.tw_model.specs.declared.SyncOp.{SyncOp}
use Rattle.tw_segment.specs.declared.error.SegmentError.{SegmentError}
use Rattle.tw_segment.specs.declared.error.SegmentError.TheVariants.{NotJson, Shape, TooLong, Memory}
use Rattle.tw_segment.specs.Segment.{max_len, segment_text, IsNoJson, IsMisshaped}

-- why operations are not written
abbrev pub IsUnwritten : List SyncOp → SegmentError → Type 0
IsUnwritten ops NotJson = ⊥
IsUnwritten ops (Shape index) = ⊥
IsUnwritten ops (TooLong bytes) = (bytes ≡ length (segment_text ops)) × (max_len < bytes)
IsUnwritten ops Memory = Unit {0}

-- why bytes are not read, in this order
abbrev pub IsUnread : List ℕ → SegmentError → Type 0
IsUnread bytes (TooLong len) = (len ≡ length bytes) × (max_len < len)
IsUnread bytes NotJson = (length bytes ≤ max_len) × IsNoJson bytes
IsUnread bytes (Shape index) = (length bytes ≤ max_len) × IsMisshaped bytes index
IsUnread bytes Memory = Unit {0}

-- why a list of items is no list of operations
abbrev pub IsUnshaped : Option ℕ → SegmentError → Type 0
IsUnshaped place (TooLong len) = ⊥
IsUnshaped place NotJson = ⊥
IsUnshaped place (Shape index) = place ≡ Some index
IsUnshaped place Memory = Unit {0}

-- why bytes are not read as JSON
abbrev pub IsUnparsed : List ℕ → SegmentError → Type 0
IsUnparsed bytes (TooLong len) = ⊥
IsUnparsed bytes NotJson = IsNoJson bytes
IsUnparsed bytes (Shape index) = ⊥
IsUnparsed bytes Memory = Unit {0}
