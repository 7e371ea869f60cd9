-- What a member of an object means for the task: task(1), under "import".
use Rattle.std.specs.Prelude.{ℕ, cond, ◌==◌, List, [], ◌∷◌, Option, Some, None}
use Rattle.std.specs.Prelude.{option_map, option_and_then, unwrap_or, codes}
use Rattle.std.specs.List.{slice_split}
use Rattle.std.specs.Fmt.{decimal}
use Rattle.uuid.specs.Text.{parsed}
use Rattle.serde_json.specs.Data.{Data, null, boolean, number, string, array, object, Items, no_items, item, Members}
use Rattle.serde_json.specs.Find.{get_member, as_str, as_u64}
use Rattle.tw_time.specs.Basic.{basic_moment}
use Rattle.tw_time.specs.Tables.{look_up}
use Rattle.tw_model.specs.Maps.{same_bytes}
use Rattle.tw_import.specs.declared.kind.Kind.{Kind}
use Rattle.tw_import.specs.declared.kind.Kind.TheVariants.{Passed, Identity, Description, Moment, Depends, Tags, Annotations, Status, Plain}

-- the names that are read in a way of their own
abbrev pub kinds : List (List ℕ × Kind)
kinds =
    (codes "id", Passed) ∷ (codes "urgency", Passed)
    ∷ (codes "due", Moment) ∷ (codes "end", Moment) ∷ (codes "entry", Moment) ∷ (codes "modified", Moment)
    ∷ (codes "scheduled", Moment) ∷ (codes "start", Moment) ∷ (codes "until", Moment) ∷ (codes "wait", Moment)
    ∷ (codes "uuid", Identity) ∷ (codes "description", Description) ∷ (codes "depends", Depends)
    ∷ (codes "tags", Tags) ∷ (codes "annotations", Annotations) ∷ (codes "status", Status) ∷ []

-- how the value of a name is read
unfoldable pub kind_of : List ℕ → Kind
kind_of name = unwrap_or (look_up name kinds) Plain

-- an item of a list that a member may be
pub data Item : Type 0 where
  tag : List ℕ → Item
  dependency : List ℕ → Item
  annotation : ℕ → List ℕ → Item

-- what the value of a member means
pub data Meaning : Type 0 where
  nothing : Meaning
  bad : Meaning
  identity : List ℕ → Meaning
  value : List ℕ → Meaning
  items : List Item → Meaning

-- a value that is neither null, a text, a whole number nor a list
abbrev pub odd_by_kind : Kind → Meaning
odd_by_kind Passed = nothing
odd_by_kind _ = bad

abbrev pub number_meaning : Option ℕ → Meaning
number_meaning None = bad
number_meaning (Some n) = value (decimal n)

-- a number, which is whole and below 2^64 or not
abbrev pub number_by_kind : Kind → Option ℕ → Meaning
number_by_kind Passed n = nothing
number_by_kind Status n = number_meaning n
number_by_kind Plain n = number_meaning n
number_by_kind _ n = bad

abbrev pub uuid_meaning : Option (List ℕ) → Meaning
uuid_meaning None = bad
uuid_meaning (Some u) = identity u

abbrev pub moment_meaning : Option ℕ → Meaning
moment_meaning None = bad
moment_meaning (Some at) = value (decimal at)

abbrev pub items_meaning : Option (List Item) → Meaning
items_meaning None = bad
items_meaning (Some is) = items is

-- a text that is not empty
abbrev pub some_text : List ℕ → Meaning
some_text [] = bad
some_text (c ∷ text) = value (c ∷ text)

-- the parts of a text between its commas
abbrev pub comma_parts : List ℕ → List (List ℕ)
comma_parts text = slice_split (λ b. b == 44) text

-- an item with those after it, if each is one
abbrev pub item_before : Option Item → Option (List Item) → Option (List Item)
item_before None rest = None
item_before (Some i) rest = option_map (λ is. i ∷ is) rest

abbrev pub dependency_of : List ℕ → Option Item
dependency_of text = option_map dependency (parsed text)

-- the dependencies on uuids, if each text is one
abbrev pub dependencies_of : List (List ℕ) → Option (List Item)
dependencies_of [] = Some []
dependencies_of (text ∷ texts) = item_before (dependency_of text) (dependencies_of texts)

-- a status as it is stored
abbrev pub stored_status : List ℕ → List ℕ
stored_status word = cond (same_bytes word (codes "waiting")) (codes "pending") word

-- a text
abbrev pub text_by_kind : Kind → List ℕ → Meaning
text_by_kind Passed s = nothing
text_by_kind Identity s = uuid_meaning (parsed s)
text_by_kind Description s = some_text s
text_by_kind Moment s = moment_meaning (basic_moment s)
text_by_kind Depends s = items_meaning (dependencies_of (comma_parts s))
text_by_kind Tags s = bad
text_by_kind Annotations s = bad
text_by_kind Status s = value (stored_status s)
text_by_kind Plain s = value s

abbrev pub annotated : Option ℕ → Option (List ℕ) → Option Item
annotated None text = None
annotated (Some at) None = None
annotated (Some at) (Some text) = Some (annotation at text)

-- the moment and the text of an annotation's object
abbrev pub entry_in : Members → Option ℕ
entry_in ms = option_and_then basic_moment (option_and_then as_str (get_member (codes "entry") ms))

abbrev pub text_in : Members → Option (List ℕ)
text_in ms = option_and_then as_str (get_member (codes "description") ms)

-- an item that is a text
abbrev pub item_text : Kind → List ℕ → Option Item
item_text Depends s = dependency_of s
item_text Tags s = Some (tag s)
item_text _ s = None

-- an item that is an object
abbrev pub item_object : Kind → Members → Option Item
item_object Annotations ms = annotated (entry_in ms) (text_in ms)
item_object _ ms = None

-- an item of a list
abbrev pub item_of : Kind → Data → Option Item
item_of kind null = None
item_of kind (boolean b) = None
item_of kind (number n) = None
item_of kind (string s) = item_text kind s
item_of kind (array ds) = None
item_of kind (object ms) = item_object kind ms

-- the items, if each is one
abbrev pub items_of : Kind → Items → Option (List Item)
items_of kind no_items = Some []
items_of kind (item d ds) = item_before (item_of kind d) (items_of kind ds)

-- a list
abbrev pub list_by_kind : Kind → Items → Meaning
list_by_kind Passed ds = nothing
list_by_kind Depends ds = items_meaning (items_of Depends ds)
list_by_kind Tags ds = items_meaning (items_of Tags ds)
list_by_kind Annotations ds = items_meaning (items_of Annotations ds)
list_by_kind _ ds = bad

-- a member's value
abbrev pub value_by_kind : Kind → Data → Meaning
value_by_kind kind null = nothing
value_by_kind kind (boolean b) = odd_by_kind kind
value_by_kind kind (number n) = number_by_kind kind (as_u64 n)
value_by_kind kind (string s) = text_by_kind kind s
value_by_kind kind (array ds) = list_by_kind kind ds
value_by_kind kind (object ms) = odd_by_kind kind

-- what the value of a name means
abbrev pub named_value : (name : List ℕ) → Data → Meaning
named_value name d = value_by_kind (kind_of name) d
