-- What a segment is: the JSON value of its operations, and the operations of a JSON value
-- (the TaskChampion book, "Synchronization Protocol", under "History Segment").
use Rattle.std.specs.Prelude.{◌≡◌, ℕ, suc, Bool, true, false, List, [], ◌∷◌, Option, Some, None, option_map, if◌then◌else◌, codes, map, IsUtf8}
use Rattle.serde_json.specs.Data.{Data, null, boolean, number, string, array, object, Items, no_items, item, Members, no_members, member}
use Rattle.serde_json.specs.Find.{get, as_str, as_array}
use Rattle.serde_json.specs.Read.{read}
use Rattle.serde_json.specs.View.{items_of}
use Rattle.serde_json.specs.Written.{compact_text}
use Rattle.uuid.specs.Text.{parsed, hyphenated_text, lower}
use Rattle.tw_world.specs.declared.Moment.{Moment}
use Rattle.tw_model.specs.declared.SyncOp.{SyncOp}
use Rattle.tw_model.specs.declared.SyncOp.TheVariants.{Create, Delete, Update}
use Rattle.tw_time.specs.Basic.{◌>>=◌}
use Rattle.tw_segment.specs.Timestamp.{timestamp, timestamp_moment}

-- the most bytes of a segment
abbrev pub max_len : ℕ
max_len = 16_777_216

-- ---- as it is written

-- an object of one member
abbrev pub one : List ℕ → Data → Data
one key d = object (member key d no_members)

-- a uuid is written with hyphens and in lower case
abbrev pub uuid_data : List ℕ → Data
uuid_data uuid = string (hyphenated_text lower uuid)

-- a value that is absent is null
abbrev pub value_data : Option (List ℕ) → Data
value_data None = null
value_data (Some value) = string value

-- the keys of an update, in byte order
abbrev pub update_data : List ℕ → List ℕ → Option (List ℕ) → Moment → Data
update_data uuid property value at =
    object (member (codes "property") (string property)
    (member (codes "timestamp") (string (timestamp at))
    (member (codes "uuid") (uuid_data uuid)
    (member (codes "value") (value_data value) no_members))))

-- the JSON value of an operation: an object whose one key says what it does
abbrev pub op_data : SyncOp → Data
op_data (Create uuid) = one (codes "Create") (one (codes "uuid") (uuid_data uuid))
op_data (Delete uuid) = one (codes "Delete") (one (codes "uuid") (uuid_data uuid))
op_data (Update uuid property value at) = one (codes "Update") (update_data uuid property value at)

-- the JSON value of a segment
abbrev pub segment_data : List SyncOp → Data
segment_data ops = one (codes "operations") (array (items_of (map op_data ops)))

-- the one text of the operations
abbrev pub segment_text : List SyncOp → List ℕ
segment_text ops = compact_text (segment_data ops)

-- ---- as it is read

-- the text under a key
abbrev pub text_in : List ℕ → Data → Option (List ℕ)
text_in key d = get key d >>= as_str

-- the uuid under its key
abbrev pub uuid_in : Data → Option (List ℕ)
uuid_in d = text_in (codes "uuid") d >>= parsed

-- the moment under the key of the timestamp
abbrev pub moment_in : Data → Option Moment
moment_in d = text_in (codes "timestamp") d >>= timestamp_moment

-- a text, or null
abbrev pub text_or_null : Data → Option (Option (List ℕ))
text_or_null null = Some None
text_or_null (boolean b) = None
text_or_null (number n) = None
text_or_null (string s) = Some (Some s)
text_or_null (array ds) = None
text_or_null (object ms) = None

-- and what is missing is null
abbrev pub value_of : Option Data → Option (Option (List ℕ))
value_of None = Some None
value_of (Some d) = text_or_null d

-- what is made, of the value of a Create
unfoldable pub create_in : Data → Option SyncOp
create_in d = do
  uuid ← uuid_in d
  Some (Create uuid)

-- what is taken away, of the value of a Delete
unfoldable pub delete_in : Data → Option SyncOp
delete_in d = do
  uuid ← uuid_in d
  Some (Delete uuid)

-- what is set, of the value of an Update
unfoldable pub update_in : Data → Option SyncOp
update_in d = do
  uuid ← uuid_in d
  property ← text_in (codes "property") d
  value ← value_of (get (codes "value") d)
  at ← moment_in d
  Some (Update uuid property value at)

-- there is one member
abbrev pub one_member : Members → Bool
one_member no_members = false
one_member (member k d no_members) = true
one_member (member k d (member l e ms)) = false

-- the value is an object with exactly one key
abbrev pub has_one_key : Data → Bool
has_one_key null = false
has_one_key (boolean b) = false
has_one_key (number n) = false
has_one_key (string s) = false
has_one_key (array ds) = false
has_one_key (object ms) = one_member ms

-- what is read under a key, or else another
abbrev pub keyed : (Data → Option SyncOp) → Option SyncOp → Option Data → Option SyncOp
keyed read others None = others
keyed read others (Some d) = read d

-- the operation under the key that says what it does
abbrev pub keyed_op : Data → Option SyncOp
keyed_op d = keyed create_in (keyed delete_in (keyed update_in None (get (codes "Update") d)) (get (codes "Delete") d)) (get (codes "Create") d)

-- the operation of a value: an object with one key
unfoldable pub op_of : Data → Option SyncOp
op_of d = if has_one_key d then keyed_op d else None

-- an operation that is read as it was written
abbrev pub IsReadBack : SyncOp → Type 0
IsReadBack op = op_of (op_data op) ≡ Some op

-- the operations of a list, if each item is one
abbrev pub ops_of : Items → Option (List SyncOp)
ops_of no_items = Some []
ops_of (item d ds) = op_of d >>= λ op. option_map (λ ops. op ∷ ops) (ops_of ds)

-- the index of the first that is none, given the first and the index in the rest
abbrev pub index_with : Option SyncOp → Option ℕ → Option ℕ
index_with None rest = Some 0
index_with (Some op) rest = option_map suc rest

-- the index of the first item that is none
abbrev pub bad_index : Items → Option ℕ
bad_index no_items = None
bad_index (item d ds) = index_with (op_of d) (bad_index ds)

-- the list of a value's operations
abbrev pub list_of : Data → Option Items
list_of d = get (codes "operations") d >>= as_array

-- the value has the shape of a segment, and stands for these operations
abbrev pub IsSegmentOf : Data → List SyncOp → Type 0
IsSegmentOf d ops = (list_of d >>= ops_of) ≡ Some ops

-- the index of the first operation of a value that is none, or 0 if there is no list
abbrev pub odd_index : Option Items → Option ℕ
odd_index None = Some 0
odd_index (Some ds) = bad_index ds

-- the bytes are the JSON text of that value
abbrev pub IsJsonOf : List ℕ → Data → Type 0
IsJsonOf bytes d = IsUtf8 bytes × (read bytes ≡ Some d)

-- the bytes are no JSON text that is read
abbrev pub IsNoJson : List ℕ → Type 0
IsNoJson bytes = (d : Data) → ¬ (IsJsonOf bytes d)

-- the bytes are a segment of these operations
abbrev pub IsSegment : List ℕ → List SyncOp → Type 0
IsSegment bytes ops = (d : Data) × IsJsonOf bytes d × IsSegmentOf d ops

-- the bytes are the JSON text of a value whose first bad operation has that index
abbrev pub IsMisshaped : List ℕ → ℕ → Type 0
IsMisshaped bytes index = (d : Data) × IsJsonOf bytes d × (odd_index (list_of d) ≡ Some index)
