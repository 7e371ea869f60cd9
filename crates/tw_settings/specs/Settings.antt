-- Settings: lines of a name and a value (taskrc(5)).
use Rattle.std.specs.Prelude.{ℕ, ◌+◌, ◌==◌, ◌&&◌, ◌||◌, Bool, true, false, cond, is_some, List, [], ◌∷◌, ◌++◌, Option, Some, None, Result}
use Rattle.std.specs.Prelude.{Ok, Err, nat_eq, nat_le, length, reverse, codes}
use Rattle.std.specs.List.{list_all, starts_with, before_first}
use Rattle.std.specs.Str.{is_utf8}
use Rattle.uuid.specs.Text.{parsed}
use Rattle.tw_model.specs.Maps.{same_bytes}
use Rattle.tw_text.specs.Natural.{natural}
use Rattle.tw_text.specs.Decimal.{thousandths}
use Rattle.tw_time.specs.Tables.{look_up}
use Rattle.tw_terms.specs.Cuts.{parted, parts}
use Rattle.tw_settings.specs.Address.{parts_in}
use Rattle.tw_settings.specs.declared.known.Kind.{Kind}
use Rattle.tw_settings.specs.declared.known.Kind.TheVariants as kind
use Rattle.tw_settings.specs.declared.word_error.WordError.{WordError}
use Rattle.tw_settings.specs.declared.word_error.WordError.TheVariants.{Setting}

-- a name and its value
abbrev pub Pair : Type 0
Pair = List ℕ × List ℕ

-- ---- names and values

-- the names that are known, and what their values are
abbrev pub known : List (List ℕ × Kind)
known =
    (codes "gc", kind.Switch)
    ∷ (codes "recurrence", kind.Switch)
    ∷ (codes "recurrence.limit", kind.UpTo 100)
    ∷ (codes "hooks", kind.Switch)
    ∷ (codes "timetrack", kind.Switch)
    ∷ (codes "data.location", kind.Text)
    ∷ (codes "sync.server.url", kind.Url)
    ∷ (codes "sync.server.client_id", kind.Uuid)
    ∷ (codes "sync.encryption_secret", kind.Nothing)
    ∷ (codes "urgency.age.max", kind.UpTo 100_000)
    ∷ (codes "urgency.user.tag.next.coefficient", kind.Decimal)
    ∷ (codes "urgency.due.coefficient", kind.Decimal)
    ∷ (codes "urgency.blocking.coefficient", kind.Decimal)
    ∷ (codes "urgency.uda.priority.H.coefficient", kind.Decimal)
    ∷ (codes "urgency.uda.priority.M.coefficient", kind.Decimal)
    ∷ (codes "urgency.uda.priority.L.coefficient", kind.Decimal)
    ∷ (codes "urgency.scheduled.coefficient", kind.Decimal)
    ∷ (codes "urgency.active.coefficient", kind.Decimal)
    ∷ (codes "urgency.age.coefficient", kind.Decimal)
    ∷ (codes "urgency.annotations.coefficient", kind.Decimal)
    ∷ (codes "urgency.tags.coefficient", kind.Decimal)
    ∷ (codes "urgency.project.coefficient", kind.Decimal)
    ∷ (codes "urgency.blocked.coefficient", kind.Decimal)
    ∷ (codes "urgency.waiting.coefficient", kind.Decimal)
    ∷ []

-- a name that would read another file
unfoldable pub is_include : List ℕ → Bool
is_include name = same_bytes name (codes "include") || starts_with nat_eq name (codes "include ")

-- the words for on and off
abbrev pub switches : List (List ℕ × Bool)
switches =
    (codes "on", true)
    ∷ (codes "yes", true)
    ∷ (codes "1", true)
    ∷ (codes "off", false)
    ∷ (codes "no", false)
    ∷ (codes "0", false)
    ∷ []

-- whether a text is one of them
unfoldable pub is_switch : List ℕ → Bool
is_switch value = is_some (look_up value switches)

abbrev pub from_1_to : ℕ → Option ℕ → Bool
from_1_to most None = false
from_1_to most (Some n) = nat_le 1 n && nat_le n most

-- a number from 1 on
abbrev pub is_number_to : ℕ → List ℕ → Bool
is_number_to most value = from_1_to most (natural value)

-- whether a text is such a value
abbrev pub is_value_of : Kind → List ℕ → Bool
is_value_of kind.Switch value = is_switch value
is_value_of (kind.UpTo most) value = is_number_to most value
is_value_of kind.Text value = true
is_value_of kind.Url value = is_some (parts_in value)
is_value_of kind.Uuid value = is_some (parsed value)
is_value_of kind.Decimal value = is_some (thousandths value)
is_value_of kind.Nothing value = false

abbrev pub is_readable_as : Option Kind → List ℕ → Bool
is_readable_as None value = true
is_readable_as (Some kind) value = is_value_of kind value

-- whether a value can be read, where the name is known
unfoldable pub is_readable : (name value : List ℕ) → Bool
is_readable name value = is_readable_as (look_up name known) value

-- whether a value may come after a name: none may, and one that can be read
unfoldable pub is_allowed : (name value : List ℕ) → Bool
is_allowed name value = cond (is_include name) false ((length value == 0) || is_readable name value)

-- a name and its value, where the value may be there
abbrev pub allowed : (name value : List ℕ) → Option Pair
allowed name value = cond (is_allowed name value) (Some (name, value)) None

-- ---- one line

-- a text without the spaces at its front
abbrev pub front_trimmed : List ℕ → List ℕ
front_trimmed [] = []
front_trimmed (b ∷ bs) = cond (b == 32) (front_trimmed bs) (b ∷ bs)

-- a text without the spaces at both ends
unfoldable pub trimmed : List ℕ → List ℕ
trimmed text = reverse (front_trimmed (reverse (front_trimmed text)))

-- a line without its comment
abbrev pub uncommented : List ℕ → List ℕ
uncommented line = before_first (λ b. b == 35) line

-- a name and its value, each without the spaces round it
abbrev pub assigned_of : Option Pair → Option Pair
assigned_of None = None
assigned_of (Some x) = allowed (trimmed x.0) (trimmed x.1)

unfoldable pub assigned : List ℕ → Option Pair
assigned text = assigned_of (parted 61 text)

abbrev pub is_set : Option Pair → Option (Option Pair)
is_set None = None
is_set (Some x) = Some (Some x)

-- what a text without comments sets
unfoldable pub setting_of : List ℕ → Option (Option Pair)
setting_of text = cond (list_all (λ b. b == 32) text) (Some None) (is_set (assigned text))

-- What a line sets: nothing, if it has but spaces and a comment, or a name. None if it is no setting.
unfoldable pub setting_in : List ℕ → Option (Option Pair)
setting_in line = cond (is_utf8 line) (setting_of (uncommented line)) None

abbrev pub with_setting : List Pair → Option Pair → List Pair
with_setting pairs None = pairs
with_setting pairs (Some x) = pairs ++ x ∷ []

-- ---- all lines

-- goes on with what is set, or refuses a line
abbrev pub going_on : {A B : Type 0} → ℕ → Option A → (A → Result B WordError) → Result B WordError
going_on n None on = Err (Setting n)
going_on n (Some x) on = on x

-- what lines set after these settings, the first line having the number n
abbrev pub lines_from : ℕ → List Pair → List (List ℕ) → Result (List Pair) WordError
lines_from n pairs [] = Ok pairs
lines_from n pairs (line ∷ lines) = going_on n (setting_in line) (λ set. lines_from (n + 1) (with_setting pairs set) lines)

-- what overrides set after these settings
abbrev pub overridden : List Pair → List Pair → Result (List Pair) WordError
overridden pairs [] = Ok pairs
overridden pairs (x ∷ xs) = going_on 0 (allowed (trimmed x.0) (trimmed x.1)) (λ set. overridden (pairs ++ set ∷ []) xs)

abbrev pub then_overridden : Result (List Pair) WordError → List Pair → Result (List Pair) WordError
then_overridden (Ok pairs) overrides = overridden pairs overrides
then_overridden (Err e) overrides = Err e

-- the settings that a text and overrides give, the later after the earlier
abbrev pub settings_in : List ℕ → List Pair → Result (List Pair) WordError
settings_in text overrides = then_overridden (lines_from 1 [] (parts 10 text)) overrides

-- the value of a name after these settings, before which it had this one
abbrev pub value_behind : List ℕ → Option (List ℕ) → List Pair → Option (List ℕ)
value_behind name value [] = value
value_behind name value (x ∷ xs) = value_behind name (cond (same_bytes x.0 name) (Some x.1) value) xs

-- the value of the last setting of a name
abbrev pub value_of : List ℕ → List Pair → Option (List ℕ)
value_of name pairs = value_behind name None pairs
