-- Modification words, and what is wrong with them: task(1), under "MODIFICATIONS" and "ATTRIBUTES AND METADATA".
use Rattle.std.specs.Prelude.{ℕ, ◌+◌, ◌==◌, ◌&&◌, ◌||◌, not, nat_eq, nat_le, Bool, true, false, cond, is_some, List, [], ◌∷◌, Option, Some}
use Rattle.std.specs.Prelude.{None, Result, Ok, Err, length, drop, slice_index, codes}
use Rattle.std.specs.List.{list_all, starts_with}
use Rattle.tw_time.specs.Moments.{TimeZone}
use Rattle.tw_model.specs.Maps.{same_bytes}
use Rattle.tw_time.specs.Moments.{moment}
use Rattle.tw_time.specs.Lengths.{duration}
use Rattle.tw_time.specs.Tables.{look_up}
use Rattle.tw_time.specs.declared.error.DateError.{DateError}
use Rattle.tw_time.specs.declared.length.Length.{Length}
use Rattle.tw_terms.specs.Attributes.{is_priority, pair_in}
use Rattle.tw_terms.specs.Cuts.{parts}
use Rattle.tw_terms.specs.IdWords.{uuid_of_36, number_in}
use Rattle.tw_terms.specs.Tags.{tag_in, is_virtual}
use Rattle.tw_terms.specs.declared.bad_word.BadWord.{BadWord}
use Rattle.tw_terms.specs.declared.bad_word.WordKind.{WordKind}
use Rattle.tw_terms.specs.declared.bad_word.WordKind.TheVariants as bad
use Rattle.tw_words.specs.Lines.{Parts}
use Rattle.tw_words.specs.Commands.{rest_of}
use Rattle.tw_words.specs.declared.command.AnyCommand.{AnyCommand}
use Rattle.tw_words.specs.declared.command.AnyCommand.TheVariants.{Tasks}
use Rattle.tw_words.specs.declared.command.Command.TheVariants.{Add}
use Rattle.tw_words.specs.declared.command.Rest.{Rest}
use Rattle.tw_words.specs.declared.command.Rest.TheVariants as rest
use Rattle.tw_words.specs.declared.judging.tally.Tally.{Tally}
use Rattle.tw_words.specs.declared.changes.field.Field.{Field}
use Rattle.tw_words.specs.declared.changes.field.Field.TheVariants as field
use Rattle.tw_words.specs.declared.changes.depends_part.Named.{Named}
use Rattle.tw_words.specs.declared.changes.depends_part.Named.TheVariants.{Task, Number}

-- ---- words

-- the fields, by their names
abbrev pub fields : List (List ℕ × Field)
fields =
    (codes "description", field.Description)
    ∷ (codes "project", field.Project)
    ∷ (codes "priority", field.Priority)
    ∷ (codes "due", field.Moment)
    ∷ (codes "wait", field.Moment)
    ∷ (codes "scheduled", field.Moment)
    ∷ (codes "until", field.Moment)
    ∷ (codes "entry", field.Moment)
    ∷ (codes "depends", field.Depends)
    ∷ (codes "recur", field.Recur)
    ∷ []

abbrev pub is_recur : Field → Bool
is_recur field.Recur = true
is_recur _ = false

-- a new task alone may recur
abbrev pub set_by : Bool → Option Field → Option Field
set_by adding None = None
set_by adding (Some f) = cond (is_recur f && not adding) None (Some f)

-- the field that words set by a name
unfoldable pub field_named : Bool → List ℕ → Option Field
field_named adding name = set_by adding (look_up name fields)

abbrev pub named_number : Option ℕ → Option Named
named_number None = None
named_number (Some n) = Some (Number n)

abbrev pub named_by : Option (List ℕ) → List ℕ → Option Named
named_by (Some u) text = Some (Task u)
named_by None text = named_number (number_in text)

-- the task that a text names, by its uuid or its number
abbrev pub named_in : List ℕ → Option Named
named_in text = named_by (uuid_of_36 text) text

-- whether a part of `depends:` takes a dependency out
abbrev pub takes_out : List ℕ → Bool
takes_out text = starts_with nat_eq text (codes "-")

-- the task that a part of `depends:` names
abbrev pub item_in : List ℕ → Option Named
item_in text = named_in (cond (takes_out text) (drop 1 text) text)

abbrev pub are_items : List (List ℕ) → Bool
are_items texts = list_all (λ text. is_some (item_in text)) texts

-- whether a word is plain text: after `--`, and where the rest is a text
abbrev pub is_text_rest : Rest → Bool
is_text_rest rest.Text = true
is_text_rest _ = false

abbrev pub is_plain : Parts → ℕ → Bool
is_plain line n = is_text_rest (rest_of line.command) || nat_le line.plain_from n

abbrev pub is_add : AnyCommand → Bool
is_add (Tasks Add) = true
is_add _ = false

abbrev pub if_not_plain : {X : Type 0} → Bool → Option X → Option X
if_not_plain plain o = cond plain None o

-- the tag that a word sets or removes
abbrev pub tag_of : Bool → List ℕ → Option (Bool × List ℕ)
tag_of plain word = if_not_plain plain (tag_in word)

-- the name and the value of a word that sets a field
abbrev pub pair_of : Bool → List ℕ → Option (List ℕ × List ℕ)
pair_of plain word = if_not_plain plain (pair_in word)

-- ---- faults that need no task

-- a moment and a zone, where dates are judged
abbrev pub Clock : Type 0
Clock = Option (ℕ × TimeZone)

abbrev pub unless : Bool → WordKind → Option WordKind
unless right kind = cond right None (Some kind)

abbrev pub date_fault : Result ℕ DateError → Option WordKind
date_fault (Ok at) = None
date_fault (Err e) = Some bad.Date

abbrev pub moment_fault : Clock → List ℕ → Option WordKind
moment_fault None value = None
moment_fault (Some c) value = date_fault (moment value c.0 c.1)

abbrev pub length_is_wrong : Result Length DateError → Option WordKind
length_is_wrong (Ok length) = None
length_is_wrong (Err e) = Some bad.Value

abbrev pub length_fault : Clock → List ℕ → Option WordKind
length_fault None value = None
length_fault (Some c) value = length_is_wrong (duration value)

unfoldable pub full_fault : Clock → Field → List ℕ → Option WordKind
full_fault clock field.Description value = None
full_fault clock field.Project value = None
full_fault clock field.Priority value = unless (is_priority value) bad.Value
full_fault clock field.Moment value = moment_fault clock value
full_fault clock field.Depends value = unless (are_items (parts 44 value)) bad.Value
full_fault clock field.Recur value = length_fault clock value

abbrev pub empty_fault : Field → Option WordKind
empty_fault field.Description = Some bad.Value
empty_fault _ = None

abbrev pub value_fault : Clock → Field → List ℕ → Option WordKind
value_fault clock field [] = empty_fault field
value_fault clock field (b ∷ bs) = full_fault clock field (b ∷ bs)

abbrev pub field_fault : Clock → Option Field → List ℕ → Option WordKind
field_fault clock None value = Some bad.Attribute
field_fault clock (Some field) value = value_fault clock field value

abbrev pub pair_fault : Clock → Bool → (name value : List ℕ) → Option WordKind
pair_fault clock adding name value = field_fault clock (field_named adding name) value

-- a text that is to be a description must not be empty
abbrev pub text_fault : (sole : Bool) → List ℕ → Option WordKind
text_fault sole word = unless (not sole || not (length word == 0)) bad.Value

abbrev pub untagged_fault : Clock → (adding sole : Bool) → List ℕ → Option (List ℕ × List ℕ) → Option WordKind
untagged_fault clock adding sole word None = text_fault sole word
untagged_fault clock adding sole word (Some x) = pair_fault clock adding x.0 x.1

abbrev pub tagged_fault : Clock → (adding sole plain : Bool) → List ℕ → Option (Bool × List ℕ) → Option WordKind
tagged_fault clock adding sole plain word None = untagged_fault clock adding sole word (pair_of plain word)
tagged_fault clock adding sole plain word (Some x) = unless (not (is_virtual x.1)) bad.Attribute

-- what is wrong with a modification word
abbrev pub word_fault : Clock → (adding sole plain : Bool) → List ℕ → Option WordKind
word_fault clock adding sole plain word = tagged_fault clock adding sole plain word (tag_of plain word)

-- ---- what all of them give

abbrev pub with_text : Tally → Tally
with_text g = record { texts = g.texts + 1; described = g.described; recurs = g.recurs; due = g.due }

abbrev pub with_pair : Tally → (name value : List ℕ) → Tally
with_pair g name value = record {
  texts = g.texts;
  described = g.described || same_bytes name (codes "description");
  recurs = cond (same_bytes name (codes "recur")) (not (length value == 0)) g.recurs;
  due = cond (same_bytes name (codes "due")) (not (length value == 0)) g.due;
}

abbrev pub tally_pair : Tally → Option (List ℕ × List ℕ) → Tally
tally_pair g None = with_text g
tally_pair g (Some x) = with_pair g x.0 x.1

abbrev pub tally_tag : Tally → Bool → List ℕ → Option (Bool × List ℕ) → Tally
tally_tag g plain word None = tally_pair g (pair_of plain word)
tally_tag g plain word (Some x) = g

abbrev pub tally_from : Parts → Tally → ℕ → List (List ℕ) → Tally
tally_from line g n [] = g
tally_from line g n (word ∷ words) = tally_from line (tally_tag g (is_plain line n) word (tag_of (is_plain line n) word)) (n + 1) words

abbrev pub no_tally : Tally
no_tally = record { texts = 0; described = false; recurs = false; due = false }

abbrev pub rest_words : Parts → List (List ℕ)
rest_words line = drop line.rest_from line.words

abbrev pub tally_of : Parts → Tally
tally_of line = tally_from line no_tally line.rest_from (rest_words line)

-- the number of a word among the words taken
abbrev pub number_at : Parts → ℕ → ℕ
number_at line n = slice_index line.word_numbers n

abbrev pub at_word : Parts → ℕ → Option WordKind → Option BadWord
at_word line n None = None
at_word line n (Some kind) = Some (record { word = number_at line n; kind = kind })

abbrev pub first_of : Option BadWord → Option BadWord → Option BadWord
first_of None o = o
first_of (Some b) o = Some b

-- the first modification word that is wrong
abbrev pub first_fault : Clock → (sole : Bool) → Parts → ℕ → List (List ℕ) → Option BadWord
first_fault clock sole line n [] = None
first_fault clock sole line n (word ∷ words) =
    first_of (at_word line n (word_fault clock (is_add line.command) sole (is_plain line n) word)) (first_fault clock sole line (n + 1) words)
