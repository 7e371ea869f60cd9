-- What a word `name.modifier:value` asks: task(1), under "attribute modifiers".
use Rattle.std.specs.Prelude.{ℕ, Bool, true, false, cond, List, [], ◌∷◌, Option, Some, None, Result, Err, codes}
use Rattle.tw_time.specs.Moments.{TimeZone}
use Rattle.tw_time.specs.Tables.{look_up}
use Rattle.tw_terms.specs.Values.{◌>>=◌, asks, presence, priority_term, status_term, moment_value}
use Rattle.tw_terms.specs.declared.bad_word.WordKind.{WordKind}
use Rattle.tw_terms.specs.declared.bad_word.WordKind.TheVariants as bad
use Rattle.tw_terms.specs.declared.term.Test.{Test}
use Rattle.tw_terms.specs.declared.term.Test.TheVariants.{Has, Is, Contains, Begins, Ends, HasWord, At, Before, After}
use Rattle.tw_terms.specs.declared.term.Term.{Term}
use Rattle.tw_terms.specs.declared.attribute.Attribute.{Attribute}
use Rattle.tw_terms.specs.declared.attribute.Attribute.TheVariants as kind
use Rattle.tw_terms.specs.declared.modifier.Comparison.{Comparison}
use Rattle.tw_terms.specs.declared.modifier.Comparison.TheVariants as comparison
use Rattle.tw_terms.specs.declared.modifier.Modifier.{Modifier}
use Rattle.tw_terms.specs.declared.modifier.Modifier.TheVariants as by

-- the modifiers, by their names
abbrev pub modifiers : List (List ℕ × Modifier)
modifiers =
    (codes "none", by.Present false)
    ∷ (codes "any", by.Present true)
    ∷ (codes "is", by.Equal true)
    ∷ (codes "equals", by.Equal true)
    ∷ (codes "isnt", by.Equal false)
    ∷ (codes "not", by.Equal false)
    ∷ (codes "before", by.Before)
    ∷ (codes "below", by.Before)
    ∷ (codes "after", by.After)
    ∷ (codes "above", by.After)
    ∷ (codes "has", by.Compares comparison.Contains true)
    ∷ (codes "contains", by.Compares comparison.Contains true)
    ∷ (codes "hasnt", by.Compares comparison.Contains false)
    ∷ (codes "startswith", by.Compares comparison.Begins true)
    ∷ (codes "left", by.Compares comparison.Begins true)
    ∷ (codes "endswith", by.Compares comparison.Ends true)
    ∷ (codes "right", by.Compares comparison.Ends true)
    ∷ (codes "word", by.Compares comparison.HasWord true)
    ∷ (codes "noword", by.Compares comparison.HasWord false)
    ∷ []

-- a modifier, by its name
unfoldable pub modifier_named : List ℕ → Option Modifier
modifier_named name = look_up name modifiers

-- a moment that the property is, or is not
abbrev pub moment_term : Bool → (name value : List ℕ) → ℕ → TimeZone → Result Term WordKind
moment_term wanted name value now tz = moment_value value now tz >>= λ at. asks wanted (At name at)

-- `name.is:value` or `name.isnt:value`
unfoldable pub equal : Bool → Attribute → (name value : List ℕ) → ℕ → TimeZone → Result Term WordKind
equal wanted kind.Words name value now tz = asks wanted (Is name value)
equal wanted kind.Project name value now tz = asks wanted (Is name value)
equal wanted kind.Priority name value now tz = priority_term wanted name value
equal wanted kind.Moment name value now tz = moment_term wanted name value now tz
equal wanted kind.Status name value now tz = status_term wanted value
equal wanted _ name value now tz = Err bad.Modifier

-- whether the values of an attribute are texts
abbrev pub has_texts : Attribute → Bool
has_texts kind.Words = true
has_texts kind.Project = true
has_texts kind.Priority = true
has_texts _ = false

abbrev pub compared : Comparison → (name value : List ℕ) → Test
compared comparison.Contains name value = Contains name value
compared comparison.Begins name value = Begins name value
compared comparison.Ends name value = Ends name value
compared comparison.HasWord name value = HasWord name value

-- a comparison of texts alone
abbrev pub of_text : Attribute → Comparison → Bool → (name value : List ℕ) → Result Term WordKind
of_text attribute how wanted name value = cond (has_texts attribute) (asks wanted (compared how name value)) (Err bad.Modifier)

-- the moment with which an attribute is compared, of moments alone
abbrev pub bound : Attribute → List ℕ → ℕ → TimeZone → Result ℕ WordKind
bound kind.Moment value now tz = moment_value value now tz
bound _ value now tz = Err bad.Modifier

-- `name.before:value` and `name.after:value`
abbrev pub before : Attribute → (name value : List ℕ) → ℕ → TimeZone → Result Term WordKind
before attribute name value now tz = bound attribute value now tz >>= λ at. asks true (Before name at)

abbrev pub after : Attribute → (name value : List ℕ) → ℕ → TimeZone → Result Term WordKind
after attribute name value now tz = bound attribute value now tz >>= λ at. asks true (After name at)

-- `name.modifier:value`, of an attribute that takes modifiers
unfoldable pub modified_by : Modifier → Attribute → (name value : List ℕ) → ℕ → TimeZone → Result Term WordKind
modified_by (by.Present wanted) attribute name value now tz = asks wanted (presence attribute name)
modified_by (by.Equal wanted) attribute name value now tz = equal wanted attribute name value now tz
modified_by by.Before attribute name value now tz = before attribute name value now tz
modified_by by.After attribute name value now tz = after attribute name value now tz
modified_by (by.Compares how wanted) attribute name value now tz = of_text attribute how wanted name value

abbrev pub modified : Option Modifier → Attribute → (name value : List ℕ) → ℕ → TimeZone → Result Term WordKind
modified None attribute name value now tz = Err bad.Modifier
modified (Some modifier) attribute name value now tz = modified_by modifier attribute name value now tz

-- a parent is asked for by `any` and `none` alone
abbrev pub of_parent : List ℕ → Option Modifier → Result Term WordKind
of_parent name (Some (by.Present wanted)) = asks wanted (Has name)
of_parent name _ = Err bad.Attribute

-- `name.modifier:value`
abbrev pub modified_term : Attribute → (name modifier value : List ℕ) → ℕ → TimeZone → Result Term WordKind
modified_term kind.Uuid name modifier value now tz = Err bad.Attribute
modified_term kind.Parent name modifier value now tz = of_parent name (modifier_named modifier)
modified_term kind.Other name modifier value now tz = Err bad.Attribute
modified_term a name modifier value now tz = modified (modifier_named modifier) a name value now tz
