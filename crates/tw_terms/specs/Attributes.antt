-- Attributes, and the words that begin with the name of one: task(1), under "attributes" and "attribute modifiers".
use Rattle.std.specs.Prelude.{ℕ, ◌||◌, Bool, List, [], ◌∷◌, Option, Some, None, codes}
use Rattle.tw_model.specs.Maps.{same_bytes}
use Rattle.tw_time.specs.Tables.{look_up}
use Rattle.tw_terms.specs.Cuts.{parted}
use Rattle.tw_terms.specs.declared.attribute.Attribute.{Attribute}
use Rattle.tw_terms.specs.declared.attribute.Attribute.TheVariants as kind

-- the attributes, and what their values are
abbrev pub attributes : List (List ℕ × Attribute)
attributes =
    (codes "description", kind.Words)
    ∷ (codes "project", kind.Project)
    ∷ (codes "priority", kind.Priority)
    ∷ (codes "due", kind.Moment)
    ∷ (codes "wait", kind.Moment)
    ∷ (codes "scheduled", kind.Moment)
    ∷ (codes "until", kind.Moment)
    ∷ (codes "entry", kind.Moment)
    ∷ (codes "modified", kind.Moment)
    ∷ (codes "start", kind.Moment)
    ∷ (codes "end", kind.Moment)
    ∷ (codes "status", kind.Status)
    ∷ (codes "recur", kind.Recur)
    ∷ (codes "depends", kind.Depends)
    ∷ (codes "uuid", kind.Uuid)
    ∷ (codes "parent", kind.Parent)
    ∷ (codes "mask", kind.Other)
    ∷ (codes "imask", kind.Other)
    ∷ (codes "urgency", kind.Other)
    ∷ (codes "id", kind.Other)
    ∷ (codes "tags", kind.Other)
    ∷ []

-- the kind of an attribute, by its name
unfoldable pub attribute_named : List ℕ → Option Attribute
attribute_named name = look_up name attributes

-- whether a text is a priority
unfoldable pub is_priority : List ℕ → Bool
is_priority value = same_bytes value (codes "H") || same_bytes value (codes "M") || same_bytes value (codes "L")

-- ---- the parts of a word

-- an attribute's word: the attribute, its name, and the modifier, if there is one
abbrev pub Head : Type 0
Head = Attribute × List ℕ × Option (List ℕ)

abbrev pub after_point : (name modifier : List ℕ) → Option Attribute → Option Head
after_point name modifier None = None
after_point name modifier (Some attribute) = Some (attribute, name, Some modifier)

abbrev pub pointed : Option (List ℕ × List ℕ) → Option Head
pointed None = None
pointed (Some x) = after_point x.0 x.1 (attribute_named x.0)

abbrev pub head_with : List ℕ → Option Attribute → Option Head
head_with text None = pointed (parted 46 text)
head_with text (Some attribute) = Some (attribute, text, None)

-- what comes before the colon
unfoldable pub head_in : List ℕ → Option Head
head_in text = head_with text (attribute_named text)

abbrev pub headed : List ℕ → Option Head → Option (Head × List ℕ)
headed value None = None
headed value (Some head) = Some (head, value)

abbrev pub head_and_value : Option (List ℕ × List ℕ) → Option (Head × List ℕ)
head_and_value None = None
head_and_value (Some x) = headed x.1 (head_in x.0)

-- the parts of a word `name:value` or `name.modifier:value`, where the name is that of an attribute
unfoldable pub attribute_in : List ℕ → Option (Head × List ℕ)
attribute_in word = head_and_value (parted 58 word)

abbrev pub pair_with : (name value : List ℕ) → Option (List ℕ) → Option (List ℕ × List ℕ)
pair_with name value None = Some (name, value)
pair_with name value (Some modifier) = None

abbrev pub without_modifier : Option (Head × List ℕ) → Option (List ℕ × List ℕ)
without_modifier None = None
without_modifier (Some x) = pair_with x.0.1 x.1 x.0.2

-- the parts of a word `name:value`, where the name is that of an attribute
abbrev pub pair_in : List ℕ → Option (List ℕ × List ℕ)
pair_in word = without_modifier (attribute_in word)
