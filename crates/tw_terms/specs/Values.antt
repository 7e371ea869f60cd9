-- What a word `name:value` asks: task(1), under "attributes".
use Rattle.std.specs.Prelude.{ℕ, ◌==◌, ◌||◌, Bool, true, false, cond, length, List, [], ◌∷◌, Option, Some, None, option_map, Result, Ok, Err, codes}
use Rattle.std.specs.Option.{ok_or}
use Rattle.tw_time.specs.Moments.{Date, TimeZone}
use Rattle.tw_time.specs.Tables.{look_up}
use Rattle.tw_time.specs.Moments.{moment}
use Rattle.tw_time.specs.Civil.{shown_date, day_of_date}
use Rattle.tw_time.specs.declared.clock.Day.{Day}
use Rattle.tw_time.specs.declared.error.DateError.{DateError}
use Rattle.tw_urgency.specs.declared.status.Status.{Status}
use Rattle.tw_urgency.specs.declared.status.Status.TheVariants as status
use Rattle.tw_terms.specs.IdWords.{uuid_of_36, number_in}
use Rattle.tw_terms.specs.Attributes.{is_priority}
use Rattle.tw_terms.specs.declared.bad_word.WordKind.{WordKind}
use Rattle.tw_terms.specs.declared.bad_word.WordKind.TheVariants as bad
use Rattle.tw_terms.specs.declared.term.Test.{Test}
use Rattle.tw_terms.specs.declared.term.Test.TheVariants.{IsUuid, Has, HasMoment, HasDependency, DependsOn, DependsOnNumber, Is, IsWithin, OnDay, HasStatus}
use Rattle.tw_terms.specs.declared.term.Term.{Term}
use Rattle.tw_terms.specs.declared.attribute.Attribute.{Attribute}
use Rattle.tw_terms.specs.declared.attribute.Attribute.TheVariants as kind

infixl 10 ◌>>=◌
abbrev pub ◌>>=◌ : {A B : Type 0} → Result A WordKind → (A → Result B WordKind) → Result B WordKind
(Ok x) >>= f = f x
(Err e) >>= f = Err e

-- a test that is to hold, or not to
abbrev pub asks : Bool → Test → Result Term WordKind
asks wanted test = Ok (record { test = test; wanted = wanted })

-- the words of statuses
abbrev pub statuses : List (List ℕ × Status)
statuses =
    (codes "pending", status.Pending)
    ∷ (codes "waiting", status.Waiting)
    ∷ (codes "completed", status.Completed)
    ∷ (codes "deleted", status.Deleted)
    ∷ (codes "recurring", status.Recurring)
    ∷ []

-- the status of a word
unfoldable pub status_named : List ℕ → Option Status
status_named word = look_up word statuses

-- the test of an attribute's presence
abbrev pub presence : Attribute → List ℕ → Test
presence kind.Moment name = HasMoment name
presence kind.Depends name = HasDependency
presence _ name = Has name

-- ---- values

-- a priority that the property is, or is not; after `is` and `isnt` the value may be empty
abbrev pub priority_term : Bool → (name value : List ℕ) → Result Term WordKind
priority_term wanted name value = cond (is_priority value || (length value == 0)) (asks wanted (Is name value)) (Err bad.Value)

-- a status
abbrev pub status_value : List ℕ → Result Status WordKind
status_value value = ok_or (status_named value) bad.Value

-- a uuid
abbrev pub uuid_value : List ℕ → Result (List ℕ) WordKind
uuid_value value = ok_or (uuid_of_36 value) bad.Value

-- a moment
abbrev pub dated : Result ℕ DateError → Result ℕ WordKind
dated (Ok at) = Ok at
dated (Err e) = Err bad.Date

abbrev pub moment_value : List ℕ → ℕ → TimeZone → Result ℕ WordKind
moment_value value now tz = dated (moment value now tz)

-- the civil day of a moment
abbrev pub day_value : ℕ → TimeZone → Result Day WordKind
day_value at tz = ok_or (option_map (λ (d : Date). day_of_date d) (shown_date tz at)) bad.Date

-- ---- words

-- `depends:value`: one task, by its uuid or its number
unfoldable pub dependency_term : List ℕ → Result Term WordKind
dependency_term value = by_uuid (uuid_of_36 value)
  where
    by_uuid : Option (List ℕ) → Result Term WordKind
    by_uuid (Some u) = asks true (DependsOn u)
    by_uuid None = ok_or (number_in value) bad.Value >>= λ n. asks true (DependsOnNumber n)

abbrev pub status_term : Bool → List ℕ → Result Term WordKind
status_term wanted value = status_value value >>= λ s. asks wanted (HasStatus s)

abbrev pub uuid_term : List ℕ → Result Term WordKind
uuid_term value = uuid_value value >>= λ u. asks true (IsUuid u)

-- a moment of the day that the value says
abbrev pub day_term : (name value : List ℕ) → ℕ → TimeZone → Result Term WordKind
day_term name value now tz = do
  at ← moment_value value now tz
  day ← day_value at tz
  asks true (OnDay name day)

-- `name:value`, where the value is not empty
unfoldable pub valued : Attribute → (name value : List ℕ) → ℕ → TimeZone → Result Term WordKind
valued kind.Words name value now tz = asks true (Is name value)
valued kind.Project name value now tz = asks true (IsWithin name value)
valued kind.Priority name value now tz = priority_term true name value
valued kind.Moment name value now tz = day_term name value now tz
valued kind.Status name value now tz = status_term true value
valued kind.Recur name value now tz = Err bad.Value
valued kind.Depends name value now tz = dependency_term value
valued kind.Uuid name value now tz = uuid_term value
valued kind.Parent name value now tz = Err bad.Attribute
valued kind.Other name value now tz = Err bad.Attribute

-- `name:`, which asks that the attribute is absent
abbrev pub unvalued : Attribute → List ℕ → Result Term WordKind
unvalued kind.Uuid name = Err bad.Value
unvalued kind.Parent name = Err bad.Attribute
unvalued kind.Other name = Err bad.Attribute
unvalued a name = asks false (presence a name)

-- `name:value`
abbrev pub plain_term : Attribute → (name value : List ℕ) → ℕ → TimeZone → Result Term WordKind
plain_term attribute name [] now tz = unvalued attribute name
plain_term attribute name (b ∷ bs) now tz = valued attribute name (b ∷ bs) now tz
