-- What a command that was read from words has.
use Rattle.std.specs.List.{list_all}
use Rattle.std.specs.Prelude.{ℕ, List, true, ◌≡◌, ◌<◌, IfSome}
use Rattle.timew_interval.specs.Interval.{limit, is_tag, tags_rise, is_printable}
use Rattle.timew_words.specs.declared.command.Changing.{Changing}
use Rattle.timew_words.specs.declared.command.Changing.TheVariants.{Start, Stop, Track, Tag, Annotate, Move}
use Rattle.timew_words.specs.declared.command.Command.{Command}
use Rattle.timew_words.specs.declared.command.Command.TheVariants.{Change}

-- tags that an interval may have
abbrev pub AreTags : List (List ℕ) → Type 0
AreTags tags = (list_all is_tag tags ≡ true) × (tags_rise tags ≡ true)

-- moments are in range, and tags and texts are such as an interval may have
abbrev pub IsGivenChange : Changing → Type 0
IsGivenChange (Start parts) = IfSome parts.moment (λ at. at < limit) × AreTags parts.tags
IsGivenChange (Stop parts) = IfSome parts.moment (λ at. at < limit)
IsGivenChange (Track parts) = (parts.end < limit) × AreTags parts.tags
IsGivenChange (Tag parts) = AreTags parts.tags
IsGivenChange (Annotate parts) = is_printable parts.text ≡ true
IsGivenChange (Move parts) = parts.start < limit
IsGivenChange _ = Unit {0}

abbrev pub IsGiven : Command → Type 0
IsGiven (Change changing) = IsGivenChange changing
IsGiven _ = Unit {0}
