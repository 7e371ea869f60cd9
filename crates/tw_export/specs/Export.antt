-- The JSON text of tasks: task(1) under "export".
use Rattle.std.specs.Prelude.{ℕ, suc, Bool, cond, false, ◌&&◌, ◌||◌, nat_eq, nat_lt, List, [], ◌∷◌, ◌++◌, codes, map, flat_map, drop}
use Rattle.std.specs.Prelude.{slice_index_or, Option, Some, None, is_some, option_map, ℤ}
use Rattle.std.specs.List.{list_any, starts_with}
use Rattle.std.specs.Fmt.{decimal}
use Rattle.std.specs.Ordering.{is_lt, nat_cmp, ordering_then}
use Rattle.std.specs.declared.cmp.Ordering.{Ordering}
use Rattle.std.specs.BTreeSet.{insert_key}
use Rattle.std.specs.FinMap.{entries, keys, values}
use Rattle.json.specs.Token.{Token, begin_object, end_object, begin_array, end_array, key, string, number}
use Rattle.json.specs.Print.{print}
use Rattle.uuid.specs.Text.{hyphenated_text, lower}
use Rattle.tw_text.specs.Natural.{natural}
use Rattle.tw_text.specs.Decimal.{decimal3}
use Rattle.tw_time.specs.Basic.{basic}
use Rattle.tw_model.specs.Maps.{bytes_cmp, same_bytes}
use Rattle.tw_model.specs.Ops.{TaskValue, TasksValue}
use Rattle.tw_terms.specs.Chosen.{chosen}
use Rattle.tw_urgency.specs.Stored.{in_years, annotated, is_annotation}
use Rattle.tw_urgency.specs.Status.{status_of}
use Rattle.tw_urgency.specs.Dependencies.{dependency_in}
use Rattle.tw_urgency.specs.Urgency.{urgency}
use Rattle.tw_urgency.specs.declared.coefficients.Coefficients.{Coefficients}
use Rattle.tw_urgency.specs.declared.status.Status.{Status}
use Rattle.tw_urgency.specs.declared.status.Status.TheVariants as status

abbrev pub is_among : List (List ℕ) → List ℕ → Bool
is_among names name = list_any (same_bytes name) names

-- the properties whose values are moments, in Unix seconds
abbrev pub moment_names : List (List ℕ)
moment_names = codes "due" ∷ codes "end" ∷ codes "entry" ∷ codes "modified" ∷ codes "scheduled" ∷ codes "start" ∷ codes "until" ∷ codes "wait" ∷ []

-- the names that the export keeps for itself: a property of such a name is left out
abbrev pub own_names : List (List ℕ)
own_names = codes "annotations" ∷ codes "depends" ∷ codes "id" ∷ codes "tags" ∷ codes "urgency" ∷ codes "uuid" ∷ []

-- ---- properties

-- the basic text of a second before the year 9999, and the value as it is without one
abbrev pub moment_or : List ℕ → Option ℕ → List ℕ
moment_or value None = value
moment_or value (Some at) = basic at

-- a status as it is shown: waiting where the task waits
abbrev pub status_word : List ℕ → Status → List ℕ
status_word word status.Pending = word
status_word word status.Waiting = codes "waiting"
status_word word status.Completed = word
status_word word status.Deleted = word
status_word word status.Recurring = word
status_word word status.Other = word

-- a number of at most nine digits that is written as `decimal` writes it
abbrev pub is_small_number : List ℕ → Option ℕ → Bool
is_small_number text None = false
is_small_number text (Some n) = nat_lt n 1_000_000_000 && same_bytes (decimal n) text

-- a number as it is printed, and a text if it is none
abbrev pub number_or : List ℕ → Token
number_or text = cond (is_small_number text (natural text)) (number text) (string text)

-- the token of a property's value
unfoldable pub value_token : TaskValue → ℕ → List ℕ → List ℕ → Token
value_token task now name value =
    cond (is_among moment_names name) (string (moment_or value (in_years (natural value))))
    (cond (same_bytes name (codes "status")) (string (status_word value (status_of task now)))
    (cond (same_bytes name (codes "imask")) (number_or value) (string value)))

abbrev pub text_tokens : Option (List ℕ) → List Token
text_tokens None = []
text_tokens (Some text) = string text ∷ []

-- what a property with an empty value names
abbrev pub if_empty : List ℕ → Option (List ℕ) → Option (List ℕ)
if_empty [] named = named
if_empty (c ∷ value) named = None

-- the tag that a property is, if it is one
abbrev pub tag_in : List ℕ → Option (List ℕ)
tag_in name = cond (starts_with nat_eq name (codes "tag_")) (Some (drop 4 name)) None

unfoldable pub tag_of : List ℕ × List ℕ → Option (List ℕ)
tag_of e = if_empty e.1 (tag_in e.0)

-- the uuid of the dependency that a property is, if it is one
unfoldable pub dependency_of : List ℕ × List ℕ → Option (List ℕ)
dependency_of e = if_empty e.1 (option_map (hyphenated_text lower) (dependency_in e.0))

-- whether a property stands among the tags or the dependencies
abbrev pub is_listed : List ℕ × List ℕ → Bool
is_listed e = is_some (tag_of e) || is_some (dependency_of e)

-- whether a property has no member of its own
unfoldable pub is_left_out : List ℕ × List ℕ → Bool
is_left_out e = is_among own_names e.0 || is_listed e || is_annotation e.0

-- the tokens of a property's member
abbrev pub property_tokens : TaskValue → ℕ → List ℕ × List ℕ → List Token
property_tokens task now e = cond (is_left_out e) [] (key e.0 ∷ value_token task now e.0 e.1 ∷ [])

-- ---- members of the export's own

-- a list as a member, if there is something to list
abbrev pub list_tokens : List ℕ → Bool → List Token → List Token
list_tokens name is_there ts = cond is_there (key name ∷ begin_array ∷ (ts ++ end_array ∷ [])) []

-- the texts of properties as a list
abbrev pub texts_tokens : List ℕ → (List ℕ × List ℕ → Option (List ℕ)) → List (List ℕ × List ℕ) → List Token
texts_tokens name f es = list_tokens name (list_any (λ e. is_some (f e)) es) (flat_map (λ e. text_tokens (f e)) es)

-- by which annotations stand in order: the second, and the number of the property
abbrev pub AnnotationRank : Type 0
AnnotationRank = ℕ × ℕ

abbrev pub annotation_cmp : AnnotationRank → AnnotationRank → Ordering
annotation_cmp a b = ordering_then (nat_cmp a.0 b.0) (nat_cmp a.1 b.1)

abbrev pub with_annotation : List AnnotationRank → ℕ → Option ℕ → List AnnotationRank
with_annotation ranks n None = ranks
with_annotation ranks n (Some at) = insert_key annotation_cmp ranks (at, n)

-- ranks with those of the properties from number n on
abbrev pub with_annotations : List AnnotationRank → ℕ → List (List ℕ) → List AnnotationRank
with_annotations ranks n [] = ranks
with_annotations ranks n (name ∷ names) = with_annotations (with_annotation ranks n (annotated name)) (suc n) names

-- an annotation's object
abbrev pub annotation_tokens : TaskValue → AnnotationRank → List Token
annotation_tokens task rank =
    begin_object ∷ key (codes "description") ∷ string (slice_index_or (values task) rank.1 []) ∷ key (codes "entry") ∷ string (basic rank.0) ∷ end_object ∷ []

abbrev pub annotations_tokens : TaskValue → List AnnotationRank → List Token
annotations_tokens task [] = []
annotations_tokens task (r ∷ rs) = key (codes "annotations") ∷ begin_array ∷ (flat_map (annotation_tokens task) (r ∷ rs) ++ end_array ∷ [])

-- the urgency, if it is to be printed
abbrev pub urgency_tokens : Option ℤ → List Token
urgency_tokens None = []
urgency_tokens (Some z) = key (codes "urgency") ∷ number (decimal3 z) ∷ []

-- a member of the export's own: its name and its tokens, none if it is left out
abbrev pub Own : Type 0
Own = List ℕ × List Token

unfoldable pub own_members : List ℕ → TaskValue → Option ℤ → List Own
own_members u task z =
    (codes "annotations", annotations_tokens task (with_annotations [] 0 (keys task)))
    ∷ (codes "depends", texts_tokens (codes "depends") dependency_of (entries task))
    ∷ (codes "tags", texts_tokens (codes "tags") tag_of (entries task))
    ∷ (codes "urgency", urgency_tokens z)
    ∷ (codes "uuid", key (codes "uuid") ∷ string (hyphenated_text lower u) ∷ []) ∷ []

-- ---- a task's object

abbrev pub own_tokens : List Own → List Token
own_tokens own = flat_map (λ m. m.1) own

-- the first members whose names are below a name, and those after them
abbrev pub own_below : List ℕ → List Own → List Own
own_below name [] = []
own_below name (m ∷ ms) = cond (is_lt (bytes_cmp m.0 name)) (m ∷ own_below name ms) []

abbrev pub own_from : List ℕ → List Own → List Own
own_from name [] = []
own_from name (m ∷ ms) = cond (is_lt (bytes_cmp m.0 name)) (own_from name ms) (m ∷ ms)

-- members of the export's own and those of properties, in byte order of their names
abbrev pub in_order : TaskValue → ℕ → List Own → List (List ℕ × List ℕ) → List Token
in_order task now own [] = own_tokens own
in_order task now own (e ∷ es) = own_tokens (own_below e.0 own) ++ (property_tokens task now e ++ in_order task now (own_from e.0 own) es)

-- the members of a task's object
abbrev pub member_tokens : List ℕ → TaskValue → ℕ → Option ℤ → List Token
member_tokens u task now z = in_order task now (own_members u task z) (entries task)

-- a task as compact JSON, with its urgency if that is to be printed
unfoldable pub task_text : List ℕ → TaskValue → ℕ → Option ℤ → List ℕ
task_text u task now z = print (begin_object ∷ (member_tokens u task now z ++ end_object ∷ []))

-- ---- the whole text

-- texts after a first one: each after a comma and a newline, and a newline after the last
abbrev pub more_lines : List (List ℕ) → List ℕ
more_lines [] = codes "\n"
more_lines (text ∷ texts) = codes ",\n" ++ text ++ more_lines texts

-- texts parted by a comma and a newline, with a newline after the last
abbrev pub lines : List (List ℕ) → List ℕ
lines [] = []
lines (text ∷ texts) = text ++ more_lines texts

-- the text of a task with its urgency
abbrev pub entry_text : TasksValue → ℕ → Coefficients → List ℕ × TaskValue → List ℕ
entry_text tasks now w e = task_text e.0 e.1 now (Some (urgency tasks e.0 now w))

-- the export of the rows
abbrev pub export_text : List (List ℕ) → TasksValue → ℕ → Coefficients → List ℕ
export_text rows tasks now w = codes "[\n" ++ lines (map (entry_text tasks now w) (chosen rows tasks)) ++ codes "]\n"
