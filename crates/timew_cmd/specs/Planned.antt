-- The intervals after a command.
use Rattle.std.specs.Prelude.{ℕ, List, Result, Ok, Err, ◌≡◌}
use Rattle.timew_interval.specs.declared.interval.Interval.{Interval}
use Rattle.timew_cmd.specs.Commands.Annotate.{as_ids, annotated}
use Rattle.timew_cmd.specs.Commands.Cancel.{cancelled}
use Rattle.timew_cmd.specs.Commands.Continue.{continued}
use Rattle.timew_cmd.specs.Commands.Delete.{deleted}
use Rattle.timew_cmd.specs.Commands.Join.{joined_both}
use Rattle.timew_cmd.specs.Commands.Lengthen.{lengthened}
use Rattle.timew_cmd.specs.Commands.Move.{moved_to}
use Rattle.timew_cmd.specs.Commands.Shorten.{shortened}
use Rattle.timew_cmd.specs.Commands.Split.{split_all}
use Rattle.timew_cmd.specs.Commands.Start.{begun}
use Rattle.timew_cmd.specs.Commands.Stop.{stopped}
use Rattle.timew_cmd.specs.Commands.Tag.{tagged}
use Rattle.timew_cmd.specs.Commands.Track.{tracked}
use Rattle.timew_cmd.specs.Commands.Untag.{untagged}
use Rattle.timew_cmd.specs.Open.{open_of, moment_or}
use Rattle.timew_words.specs.declared.command.Changing.{Changing}
use Rattle.timew_words.specs.declared.command.Changing.TheVariants.{Cancel, Start, Stop, Continue, Track, Tag, Untag, Annotate, Delete, Split, Join, Move}
use Rattle.timew_words.specs.declared.command.Changing.TheVariants.{Lengthen, Shorten}
use Rattle.timew_cmd.specs.declared.error.TimewError.{TimewError}
use Rattle.timew_cmd.specs.declared.error.TimewError.TheVariants.{Memory as NoMemory}

-- they, or why it is refused
abbrev pub planned : Changing → List Interval → ℕ → Result (List Interval) TimewError
planned (Start parts) rows now = begun parts.word parts.moment parts.tags parts.adjust rows now
planned (Stop parts) rows now = stopped parts.word (moment_or now parts.moment) (open_of rows)
planned Cancel rows now = cancelled (open_of rows)
planned (Continue parts) rows now = continued parts.id parts.adjust rows now (open_of rows)
planned (Track parts) rows now = tracked parts.word parts.start parts.end parts.tags parts.adjust rows
planned (Tag parts) rows now = tagged parts.ids parts.tags rows
planned (Untag parts) rows now = untagged parts.ids parts.tags rows
planned (Annotate parts) rows now = annotated (as_ids parts.id) parts.text rows
planned (Delete ids) rows now = deleted ids rows
planned (Split ids) rows now = split_all ids rows now
planned (Join parts) rows now = joined_both parts.first parts.second parts.adjust rows
planned (Move parts) rows now = moved_to parts.id parts.word parts.start parts.adjust rows
planned (Lengthen parts) rows now = lengthened parts.id parts.word parts.length parts.adjust rows
planned (Shorten parts) rows now = shortened parts.id parts.word parts.length parts.adjust rows

-- what was answered is what is planned, unless memory ran out
abbrev pub Fails : {A : Type 0} → TimewError → Result A TimewError → Type 0
Fails NoMemory planned = Unit {0}
Fails e planned = planned ≡ Err e

abbrev pub Answers : {A B : Type 0} → (A → B) → Result A TimewError → Result B TimewError → Type 0
Answers view (Ok x) planned = planned ≡ Ok (view x)
Answers view (Err e) planned = Fails e planned
