-- What modification words ask for: task(1), under "MODIFICATIONS".
use Rattle.std.specs.Prelude.{ℕ, ◌+◌, ◌==◌, not, Bool, cond, is_some, List, [], ◌∷◌, ◌++◌, Option, Some, None, Result, Ok, Err, codes, drop, length}
use Rattle.std.specs.List.{list_any}
use Rattle.std.specs.Fmt.{decimal}
use Rattle.std.specs.FinMap.{get}
use Rattle.uuid.specs.Text.{hyphenated_text, lower}
use Rattle.tw_model.specs.Ops.{TasksValue}
use Rattle.tw_model.specs.Places.{uuid_of}
use Rattle.tw_time.specs.Moments.{moment}
use Rattle.tw_time.specs.declared.error.DateError.{DateError}
use Rattle.tw_terms.specs.Cuts.{parts}
use Rattle.tw_terms.specs.Scenes.{Scene}
use Rattle.tw_terms.specs.Tags.{is_virtual}
use Rattle.tw_terms.specs.declared.bad_word.BadWord.{BadWord}
use Rattle.tw_terms.specs.declared.bad_word.WordKind.{WordKind}
use Rattle.tw_terms.specs.declared.bad_word.WordKind.TheVariants as bad
use Rattle.tw_words.specs.Lines.{Parts}
use Rattle.tw_words.specs.Modifications.{Clock, field_named, item_in, takes_out, are_items, is_plain, is_add, tag_of, pair_of}
use Rattle.tw_words.specs.Modifications.{unless, moment_fault, full_fault, field_fault, word_fault, tally_of, rest_words, number_at}
use Rattle.tw_words.specs.declared.changes.field.Field.{Field}
use Rattle.tw_words.specs.declared.changes.field.Field.TheVariants as field
use Rattle.tw_words.specs.declared.changes.depends_part.Named.{Named}
use Rattle.tw_words.specs.declared.changes.depends_part.Named.TheVariants.{Task, Number}
use Rattle.tw_words.specs.declared.changes.modification.Modification.{Modification}
use Rattle.tw_words.specs.declared.changes.modification.Modification.TheVariants.{Word, Description, Property, Independent}

-- ---- dependencies

-- the property of a dependency
abbrev pub dependency_on : List ℕ → List ℕ
dependency_on u = codes "dep_" ++ hyphenated_text lower u

abbrev pub if_task : TasksValue → Option (List ℕ) → Option (List ℕ)
if_task tasks None = None
if_task tasks (Some u) = cond (is_some (get tasks u)) (Some u) None

-- the task that is named, if it is there
abbrev pub task_named : Scene → Named → Option (List ℕ)
task_named scene (Task u) = if_task scene.tasks (Some u)
task_named scene (Number n) = if_task scene.tasks (uuid_of n scene.places)

abbrev pub task_in : Scene → Option Named → Option (List ℕ)
task_in scene None = None
task_in scene (Some named) = task_named scene named

-- the dependency that is taken out: by a uuid also on a task that is gone
abbrev pub named_out : Scene → Named → Option (List ℕ)
named_out scene (Task u) = Some u
named_out scene (Number n) = task_named scene (Number n)

abbrev pub dependency_out : Scene → Option Named → Option (List ℕ)
dependency_out scene None = None
dependency_out scene (Some named) = named_out scene named

-- the task that a part of `depends:` is about
abbrev pub part_task : Scene → List ℕ → Option (List ℕ)
part_task scene text = cond (takes_out text) (dependency_out scene (item_in text)) (task_in scene (item_in text))

-- these modifications, and one more
abbrev pub with_one : List Modification → Modification → List Modification
with_one ms m = ms ++ m ∷ []

-- a property that gets an empty value, or none
abbrev pub set_to : (wanted : Bool) → List ℕ → Modification
set_to wanted name = Property name (cond wanted (Some []) None)

abbrev pub going_on : Option (List ℕ) → (List ℕ → Result (List Modification) WordKind) → Result (List Modification) WordKind
going_on None on = Err bad.Id
going_on (Some u) on = on u

-- dependencies that are put in or taken out
abbrev pub with_items : Scene → List Modification → List (List ℕ) → Result (List Modification) WordKind
with_items scene ms [] = Ok ms
with_items scene ms (text ∷ texts) =
    going_on (part_task scene text) (λ u. with_items scene (with_one ms (set_to (not (takes_out text)) (dependency_on u))) texts)

-- ---- one word

abbrev pub dated : List Modification → List ℕ → Result ℕ DateError → Result (List Modification) WordKind
dated ms name (Ok at) = Ok (with_one ms (Property name (Some (decimal at))))
dated ms name (Err e) = Err bad.Date

-- the moment that a value says
abbrev pub with_date : Scene → List Modification → (name value : List ℕ) → Result (List Modification) WordKind
with_date scene ms name value = dated ms name (moment value scene.now scene.tz)

abbrev pub with_value : Scene → List Modification → Field → (name value : List ℕ) → Result (List Modification) WordKind
with_value scene ms field.Description name value = Ok (with_one ms (Description value))
with_value scene ms field.Moment name value = with_date scene ms name value
with_value scene ms field.Depends name value = with_items scene ms (parts 44 value)
with_value scene ms _ name value = Ok (with_one ms (Property name (Some value)))

abbrev pub without_value : Field → List ℕ → Modification
without_value field.Depends name = Independent
without_value _ name = Property name None

abbrev pub with_pair : Scene → List Modification → Option Field → (name value : List ℕ) → Result (List Modification) WordKind
with_pair scene ms None name value = Err bad.Attribute
with_pair scene ms (Some field) name [] = Ok (with_one ms (without_value field name))
with_pair scene ms (Some field) name (b ∷ bs) = with_value scene ms field name (b ∷ bs)

abbrev pub pair_or_text : Scene → (adding : Bool) → List Modification → List ℕ → Option (List ℕ × List ℕ) → Result (List Modification) WordKind
pair_or_text scene adding ms word None = Ok (with_one ms (Word word))
pair_or_text scene adding ms word (Some x) = with_pair scene ms (field_named adding x.0) x.0 x.1

abbrev pub tag_or_pair : Scene → (adding plain : Bool) → List Modification → List ℕ → Option (Bool × List ℕ) → Result (List Modification) WordKind
tag_or_pair scene adding plain ms word None = pair_or_text scene adding ms word (pair_of plain word)
tag_or_pair scene adding plain ms word (Some x) = Ok (with_one ms (set_to x.0 (codes "tag_" ++ x.1)))

abbrev pub unless_wrong : {X : Type 0} → Option WordKind → Result X WordKind → Result X WordKind
unless_wrong None made = made
unless_wrong (Some kind) made = Err kind

-- the moment and the zone of what is looked at
abbrev pub clock_in : Scene → Clock
clock_in scene = Some (scene.now, scene.tz)

-- the same of a tag, of a moment, of dependencies, of a value that is not empty, and of a field and its value
abbrev pub taken_tag : List Modification → Bool → List ℕ → Result (List Modification) WordKind
taken_tag ms wanted tag = unless_wrong (unless (not (is_virtual tag)) bad.Attribute) (Ok (with_one ms (set_to wanted (codes "tag_" ++ tag))))

abbrev pub taken_date : Scene → List Modification → (name value : List ℕ) → Result (List Modification) WordKind
taken_date scene ms name value = unless_wrong (moment_fault (clock_in scene) value) (with_date scene ms name value)

abbrev pub taken_items : Scene → List Modification → List (List ℕ) → Result (List Modification) WordKind
taken_items scene ms texts = unless_wrong (unless (are_items texts) bad.Value) (with_items scene ms texts)

abbrev pub taken_value : Scene → List Modification → Field → (name value : List ℕ) → Result (List Modification) WordKind
taken_value scene ms field name value = unless_wrong (full_fault (clock_in scene) field value) (with_value scene ms field name value)

abbrev pub taken_pair : Scene → List Modification → Option Field → (name value : List ℕ) → Result (List Modification) WordKind
taken_pair scene ms field name value = unless_wrong (field_fault (clock_in scene) field value) (with_pair scene ms field name value)

-- what is asked for after one more word, or why it is wrong
abbrev pub with_word : Scene → (adding sole plain : Bool) → List Modification → List ℕ → Result (List Modification) WordKind
with_word scene adding sole plain ms word =
    unless_wrong (word_fault (clock_in scene) adding sole plain word) (tag_or_pair scene adding plain ms word (tag_of plain word))

-- ---- all words

abbrev pub going_on_behind : {X Y : Type 0} → Parts → ℕ → Result X WordKind → (X → Result Y BadWord) → Result Y BadWord
going_on_behind line n (Ok x) on = on x
going_on_behind line n (Err kind) on = Err (record { word = number_at line n; kind = kind })

abbrev pub with_words : Scene → (sole : Bool) → Parts → List Modification → ℕ → List (List ℕ) → Result (List Modification) BadWord
with_words scene sole line ms n [] = Ok ms
with_words scene sole line ms n (word ∷ words) =
    going_on_behind line n (with_word scene (is_add line.command) sole (is_plain line n) ms word) (λ read. with_words scene sole line read (n + 1) words)

-- whether one of these words is empty
abbrev pub has_empty : List (List ℕ) → Bool
has_empty words = list_any (λ word. length word == 0) words

-- what the words of a line from a number on ask for, after these
abbrev pub with_words_from : Scene → (sole : Bool) → Parts → List Modification → ℕ → Result (List Modification) BadWord
with_words_from scene sole line ms n = with_words scene sole line ms n (drop n line.words)

-- what the modification words of a line ask for, or the first that is wrong
abbrev pub modifications : Scene → Parts → Result (List Modification) BadWord
modifications scene line = with_words scene ((tally_of line).texts == 1) line [] line.rest_from (rest_words line)

abbrev pub bad_of : {X : Type 0} → Result X BadWord → Option BadWord
bad_of (Ok x) = None
bad_of (Err b) = Some b

-- the first modification word that is wrong, tasks considered
abbrev pub first_bad : Scene → Parts → Option BadWord
first_bad scene line = bad_of (modifications scene line)

abbrev pub or_none : Result (List Modification) BadWord → List Modification
or_none (Ok ms) = ms
or_none (Err b) = []

-- what they ask for, if none is wrong
abbrev pub taken : Scene → Parts → List Modification
taken scene line = or_none (modifications scene line)
