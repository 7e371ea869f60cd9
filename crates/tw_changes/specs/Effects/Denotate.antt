-- `denotate`: the first annotation of a text is taken away.
use Rattle.std.specs.Prelude.{ℕ, nat_lt, Bool, true, false, cond, List, [], ◌∷◌, Option, Some, None}
use Rattle.std.specs.FinMap.{entries}
use Rattle.tw_model.specs.Maps.{set_at, same_bytes}
use Rattle.tw_model.specs.Ops.{TaskValue}
use Rattle.tw_urgency.specs.Stored.{annotated}
use Rattle.tw_terms.specs.Occurs.{occurs}
use Rattle.tw_changes.specs.Effects.Annotate.{annotation_at}
use Rattle.tw_changes.specs.declared.effects.Effect.{Effect}
use Rattle.tw_changes.specs.declared.effects.Effect.TheVariants.{Nothing, Becomes}

-- whether a text is the one that is looked for, or contains it
abbrev pub is_match : (whole : Bool) → List ℕ → List ℕ → Bool
is_match whole text there = cond whole (same_bytes there text) (occurs text there)

-- the second of a property that is an annotation with such a text
abbrev pub second_of : (whole : Bool) → List ℕ → List ℕ × List ℕ → Option ℕ
second_of whole text property = cond (is_match whole text property.1) (annotated property.0) None

-- the earlier of two seconds
abbrev pub earlier : Option ℕ → Option ℕ → Option ℕ
earlier None other = other
earlier (Some second) None = Some second
earlier (Some second) (Some other) = cond (nat_lt other second) (Some other) (Some second)

abbrev pub first_among : (whole : Bool) → List ℕ → Option ℕ → List (List ℕ × List ℕ) → Option ℕ
first_among whole text first [] = first
first_among whole text first (property ∷ properties) = first_among whole text (earlier first (second_of whole text property)) properties

-- the second of the first annotation with such a text
abbrev pub first_second : (whole : Bool) → List ℕ → TaskValue → Option ℕ
first_second whole text task = first_among whole text None (entries task)

abbrev pub without_annotation : TaskValue → Option ℕ → Effect
without_annotation task None = Nothing
without_annotation task (Some second) = Becomes (set_at task (annotation_at second) None)

abbrev pub or_else : Option ℕ → Option ℕ → Option ℕ
or_else None other = other
or_else (Some second) other = Some second

-- the first annotation that is this text, or else the first that contains it
abbrev pub denotate : List ℕ → TaskValue → Effect
denotate text task = without_annotation task (or_else (first_second true text task) (first_second false text task))
