-- Terms, as a word is read.
use Rattle.std.specs.Prelude.{ℕ, Bool, true, List, Option, Some, None, Result}
use Rattle.tw_time.specs.Moments.{TimeZone}
use Rattle.tw_terms.specs.declared.bad_word.WordKind.{WordKind}
use Rattle.tw_terms.specs.declared.term.Test.TheVariants.{Mentions}
use Rattle.tw_terms.specs.declared.term.Term.{Term}
use Rattle.tw_terms.specs.declared.attribute.Attribute.{Attribute}
use Rattle.tw_terms.specs.Tags.{tag_in, tag_test}
use Rattle.tw_terms.specs.Attributes.{Head, attribute_in}
use Rattle.tw_terms.specs.Values.{asks, plain_term}
use Rattle.tw_terms.specs.Modifiers.{modified_term}

-- what the word of an attribute asks
abbrev pub with_modifier : Option (List ℕ) → Attribute → (name value : List ℕ) → ℕ → TimeZone → Result Term WordKind
with_modifier None attribute name value now tz = plain_term attribute name value now tz
with_modifier (Some modifier) attribute name value now tz = modified_term attribute name modifier value now tz

abbrev pub by_modifier : Head → (value : List ℕ) → ℕ → TimeZone → Result Term WordKind
by_modifier head value now tz = with_modifier head.2 head.0 head.1 value now tz

-- a word of an attribute, and any other
abbrev pub attribute_or_text : Option (Head × List ℕ) → List ℕ → ℕ → TimeZone → Result Term WordKind
attribute_or_text None word now tz = asks true (Mentions word)
attribute_or_text (Some x) word now tz = by_modifier x.0 x.1 now tz

abbrev pub tag_or : Option (Bool × List ℕ) → Result Term WordKind → Result Term WordKind
tag_or None term = term
tag_or (Some x) term = asks x.0 (tag_test x.1)

-- what a word asks that is no mark and no id word: of a tag, of an attribute, or for its text
unfoldable pub term_of : List ℕ → ℕ → TimeZone → Result Term WordKind
term_of word now tz = tag_or (tag_in word) (attribute_or_text (attribute_in word) word now tz)
