-- Why lines and overrides are no settings.
use Rattle.std.specs.Prelude.{ℕ, ◌==◌, cond, List, Option, Some, None, length}
use Rattle.std.specs.List.{list_all}
use Rattle.std.specs.Str.{is_utf8}
use Rattle.tw_time.specs.Tables.{look_up}
use Rattle.tw_terms.specs.Cuts.{parted}
use Rattle.tw_settings.specs.Settings.{Pair, known, is_include, is_value_of, trimmed, uncommented}
use Rattle.tw_settings.specs.declared.known.Kind.{Kind}
use Rattle.tw_settings.specs.declared.known.Kind.TheVariants as kind
use Rattle.tw_settings.specs.declared.reasons.Why.{Why}
use Rattle.tw_settings.specs.declared.reasons.Why.TheVariants as why

-- why a text is no value of this kind, if it is none
abbrev pub reason_of : Kind → Option Why
reason_of kind.Switch = Some why.Switch
reason_of (kind.UpTo most) = Some (why.UpTo most)
reason_of kind.Text = None
reason_of kind.Url = Some why.Url
reason_of kind.Uuid = Some why.Uuid
reason_of kind.Decimal = Some why.Decimal
reason_of kind.Nothing = Some why.Encryption

abbrev pub why_unreadable : Option Kind → List ℕ → Option Why
why_unreadable None value = None
why_unreadable (Some kind) value = cond (is_value_of kind value) None (reason_of kind)

-- why a value may not come after a name
unfoldable pub why_not_allowed : (name value : List ℕ) → Option Why
why_not_allowed name value =
    cond (is_include name) (Some why.Include) (cond (length value == 0) None (why_unreadable (look_up name known) value))

-- why a text without an equals sign sets nothing
abbrev pub why_unpaired : List ℕ → Why
why_unpaired text = cond (is_include (trimmed text)) why.Include why.NoPair

abbrev pub why_unassigned : List ℕ → Option Pair → Option Why
why_unassigned text None = Some (why_unpaired text)
why_unassigned text (Some x) = why_not_allowed (trimmed x.0) (trimmed x.1)

-- why a text without comments is no setting
unfoldable pub why_unset : List ℕ → Option Why
why_unset text = cond (list_all (λ b. b == 32) text) None (why_unassigned text (parted 61 text))

-- why a line is no setting
unfoldable pub why_refused : List ℕ → Option Why
why_refused line = cond (is_utf8 line) (why_unset (uncommented line)) (Some why.NoText)
