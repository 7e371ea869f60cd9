-- How long the segment of operations is.
use Rattle.std.specs.Prelude.{◌≡◌, ℕ, ◌+◌, ◌≤◌, nat_le, List, [], ◌∷◌, ◌++◌, length}
use Rattle.serde_json.specs.Written.{compact_text}
use Rattle.tw_model.specs.declared.SyncOp.{SyncOp}
use Rattle.tw_segment.specs.Segment.{op_data, segment_text}
use Rattle.tw_groups.specs.Cut.{IsLimit}
use Rattle.tw_path.specs.Path.{is_batch}

-- how long the text of an operation is, with the comma after it
abbrev pub op_len : SyncOp → ℕ
op_len op = length (compact_text (op_data op)) + 1

abbrev pub ops_len : List SyncOp → ℕ
ops_len [] = 0
ops_len (op ∷ ops) = op_len op + ops_len ops

-- a segment is as long as its operations, and the brackets around them
abbrev pub SegmentLength : Type 0
SegmentLength = (op : SyncOp) (ops : List SyncOp) → length (segment_text (op ∷ ops)) + 1 ≡ length (segment_text []) + ops_len (op ∷ ops)

-- with more operations it is no shorter
abbrev pub SegmentGrows : Type 0
SegmentGrows = (ops more : List SyncOp) → length (segment_text ops) ≤ length (segment_text (ops ++ more))

-- the most that the lengths of a batch's operations add up to
abbrev pub max_sum : ℕ
max_sum = 1_048_560

-- whether operations are a batch is a sum
abbrev pub BatchIsSum : Type 0
BatchIsSum = (ops : List SyncOp) → is_batch ops ≡ nat_le (ops_len ops) max_sum

-- so what is sent as one version is the longest row within the limit
abbrev pub BatchIsLimit : Type 0
BatchIsLimit = IsLimit is_batch
