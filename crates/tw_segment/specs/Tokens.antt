-- The tokens of a segment's text.
use Rattle.std.specs.Prelude.{◌≡◌, ◌≤◌, ℕ, List, ◌∷◌, ◌++◌, codes, map, Some}
use Rattle.json.specs.Token.{Token, key, string}
use Rattle.json.specs.Json as json
use Rattle.json.specs.Tree.{json_tokens, items_tokens, members_tokens, depth, items_depth, members_depth}
use Rattle.serde_json.specs.Data.{Data, Items}
use Rattle.serde_json.specs.Read.{of_json, of_items}
use Rattle.serde_json.specs.View.{items_of}
use Rattle.serde_json.specs.Written.{outline, items_outline}
use Rattle.uuid.specs.Text.{parsed}
use Rattle.tw_world.specs.declared.Moment.{Moment}
use Rattle.tw_model.specs.declared.SyncOp.{SyncOp}
use Rattle.tw_segment.specs.Timestamp.{timestamp_moment}
use Rattle.tw_segment.specs.Segment.{op_data, one, op_of, ops_of}

-- ---- as they are written

-- the tokens of a value
abbrev pub data_tokens : Data → List Token
data_tokens d = json_tokens (outline d)

-- those of operations, with the bracket that closes their list
abbrev pub ops_tokens : List SyncOp → List Token
ops_tokens ops = items_tokens (items_outline (items_of (map op_data ops)))

-- ---- as they are read: the tokens begin with something, and the others follow it

-- a uuid under its key
abbrev pub UuidAt : List Token → List ℕ → List Token → Type 0
UuidAt all uuid rest = (text : List ℕ) × (all ≡ key (codes "uuid") ∷ string text ∷ rest) × (parsed text ≡ Some uuid)

-- a moment under the key of the timestamp
abbrev pub MomentAt : List Token → Moment → List Token → Type 0
MomentAt all at rest = (text : List ℕ) × (all ≡ key (codes "timestamp") ∷ string text ∷ rest) × (timestamp_moment text ≡ Some at)

-- the members of an object that is an operation under a name, with their brace
abbrev pub NamedAt : List ℕ → List Token → SyncOp → List Token → Type 0
NamedAt name all op rest =
    (ms : json.Members) × (d : Data)
    × (all ≡ members_tokens ms ++ rest) × (of_json (json.object ms) ≡ Some d) × (op_of (one name d) ≡ Some op) × (members_depth ms ≤ 0)

-- the JSON value of an operation
abbrev pub OpAt : List Token → SyncOp → List Token → Type 0
OpAt all op rest =
    (j : json.Json) × (d : Data) × (all ≡ json_tokens j ++ rest) × (of_json j ≡ Some d) × (op_of d ≡ Some op) × (depth j ≤ 2)

-- the JSON values of operations, with the bracket that closes their list
abbrev pub OpsAt : List Token → List SyncOp → List Token → Type 0
OpsAt all ops rest =
    (js : json.Items) × (ds : Items) × (all ≡ items_tokens js ++ rest) × (of_items js ≡ Some ds) × (ops_of ds ≡ Some ops) × (items_depth js ≤ 2)
