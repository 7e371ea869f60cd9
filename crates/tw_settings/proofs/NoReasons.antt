-- There is a reason exactly if a line or an override is no setting.
use Rattle.std.proofs.Common.{◌≡◌, ℕ, ◌==◌, ◌||◌, Bool, true, false, cond, List, Option, Some, None, is_some, is_none, length, refl, ap, ◌∙◌}
use Rattle.std.specs.List.{list_all}
use Rattle.std.specs.Str.{is_utf8}
use Rattle.tw_time.specs.Tables.{look_up}
use Rattle.tw_terms.specs.Cuts.{parted}
use Rattle.tw_settings.specs.Settings.{Pair, known, is_include, is_value_of, is_readable_as, is_readable, is_allowed, allowed, trimmed, uncommented, assigned_of, assigned, is_set, setting_of, setting_in}
use Rattle.tw_settings.specs.Reasons.{why_unreadable, why_not_allowed, why_unassigned, why_unset, why_refused}
use Rattle.tw_settings.specs.declared.known.Kind.{Kind}
use Rattle.tw_settings.specs.declared.known.Kind.TheVariants as kind
use Rattle.tw_settings.specs.declared.reasons.Why.{Why}
use Rattle.tw_settings.specs.declared.reasons.Why.TheVariants as why

by_test : (t : Bool) (w : Why) → t ≡ is_none (cond t None (Some w))
by_test true w = refl
by_test false w = refl

readable_if_no_reason : (k : Option Kind) (value : List ℕ) → is_readable_as k value ≡ is_none (why_unreadable k value)
readable_if_no_reason None value = refl
readable_if_no_reason (Some kind.Switch) value = by_test (is_value_of kind.Switch value) why.Switch
readable_if_no_reason (Some (kind.UpTo most)) value = by_test (is_value_of (kind.UpTo most) value) (why.UpTo most)
readable_if_no_reason (Some kind.Text) value = refl
readable_if_no_reason (Some kind.Url) value = by_test (is_value_of kind.Url value) why.Url
readable_if_no_reason (Some kind.Uuid) value = by_test (is_value_of kind.Uuid value) why.Uuid
readable_if_no_reason (Some kind.Decimal) value = by_test (is_value_of kind.Decimal value) why.Decimal
readable_if_no_reason (Some kind.Nothing) value = refl

is_allowed_if_no_reason : (name value : List ℕ) → is_allowed name value ≡ is_none (why_not_allowed name value)
unfolding is_allowed is_readable why_not_allowed
is_allowed_if_no_reason name value = by (is_include name) (length value == 0)
  where
    by :
        (t u : Bool)
        → cond t false (u || is_readable_as (look_up name known) value)
        ≡ is_none (cond t (Some why.Include) (cond u None (why_unreadable (look_up name known) value)))
    by true u = refl
    by false true = refl
    by false false = readable_if_no_reason (look_up name known) value

is_one : (t : Bool) (x : Pair) → is_some (cond t (Some x) None) ≡ t
is_one true x = refl
is_one false x = refl

-- an override
pub allowed_if_no_reason : (name value : List ℕ) → is_some (allowed name value) ≡ is_none (why_not_allowed name value)
allowed_if_no_reason name value = is_one (is_allowed name value) (name, value) ∙ is_allowed_if_no_reason name value

kept : (o : Option Pair) → is_some (is_set o) ≡ is_some o
kept None = refl
kept (Some x) = refl

assigned_if_no_reason : (text : List ℕ) (o : Option Pair) → is_some (is_set (assigned_of o)) ≡ is_none (why_unassigned text o)
assigned_if_no_reason text None = refl
assigned_if_no_reason text (Some x) = kept (allowed (trimmed x.0) (trimmed x.1)) ∙ allowed_if_no_reason (trimmed x.0) (trimmed x.1)

set_if_no_reason : (text : List ℕ) → is_some (setting_of text) ≡ is_none (why_unset text)
unfolding setting_of assigned why_unset
set_if_no_reason text = by (list_all (λ b. b == 32) text)
  where
    by :
        (t : Bool)
        → is_some (cond t (Some None) (is_set (assigned_of (parted 61 text)))) ≡ is_none (cond t None (why_unassigned text (parted 61 text)))
    by true = refl
    by false = assigned_if_no_reason text (parted 61 text)

-- a line
pub setting_if_no_reason : (line : List ℕ) → is_some (setting_in line) ≡ is_none (why_refused line)
unfolding setting_in why_refused
setting_if_no_reason line = by (is_utf8 line)
  where
    by :
        (t : Bool)
        → is_some (cond t (setting_of (uncommented line)) None) ≡ is_none (cond t (why_unset (uncommented line)) (Some why.NoText))
    by true = set_if_no_reason (uncommented line)
    by false = refl
