-- The command that words give: timew(1). Words are read from the left, each against the next part.
use Rattle.timew_words.specs.declared.name.Name.TheVariants as name
use Rattle.std.specs.Prelude.{ℕ, List, [], ◌∷◌, Bool, Option, Some, None, Result, Ok, Err, cond, ◌≡◌, ◌&&◌}
use Rattle.tw_time.specs.Moments.{TimeZone}
use Rattle.tw_time.specs.Tables.{look_up}
use Rattle.timew_words.specs.Commands.Annotate.{annotate_in}
use Rattle.timew_words.specs.Commands.Continue.{continue_in}
use Rattle.timew_words.specs.Commands.Delete.{delete_in}
use Rattle.timew_words.specs.Commands.Export.{export_in}
use Rattle.timew_words.specs.Commands.Hours.{hours_in}
use Rattle.timew_words.specs.Commands.Join.{join_in}
use Rattle.timew_words.specs.Commands.Lengthen.{lengthen_in}
use Rattle.timew_words.specs.Commands.Move.{move_in}
use Rattle.timew_words.specs.Commands.Shorten.{shorten_in}
use Rattle.timew_words.specs.Commands.Split.{split_in}
use Rattle.timew_words.specs.Commands.Start.{start_in}
use Rattle.timew_words.specs.Commands.Stop.{stop_in}
use Rattle.timew_words.specs.Commands.Summary.{summary_in}
use Rattle.timew_words.specs.Commands.Tag.{tag_in}
use Rattle.timew_words.specs.Commands.Track.{track_in}
use Rattle.timew_words.specs.Commands.Untag.{untag_in}
use Rattle.timew_words.specs.Names.{names, places}
use Rattle.timew_words.specs.Parts.{Words, words_from, adjusts, unadjusted, refused, ended}
use Rattle.timew_words.specs.declared.command.Changing.TheVariants.{Cancel}
use Rattle.timew_words.specs.declared.command.Command.{Command}
use Rattle.timew_words.specs.declared.command.Command.TheVariants.{Show, Undo, Change}
use Rattle.timew_words.specs.declared.command.Showing.TheVariants.{Tracked}
use Rattle.timew_words.specs.declared.error.BadWord.{BadWord}
use Rattle.timew_words.specs.declared.error.WordKind.TheVariants.{Value}
use Rattle.timew_words.specs.declared.error.WordsError.{WordsError}
use Rattle.timew_words.specs.declared.error.WordsError.TheVariants.{Bad, Memory as NoMemory}
use Rattle.timew_words.specs.declared.name.Name.{Name}

-- the command of a name and the words after it
abbrev pub command_by : Name → Bool → (now : ℕ) → TimeZone → Words → Result Command BadWord
command_by name.Start adjust now zone words = start_in adjust now zone words
command_by name.Stop adjust now zone words = stop_in now zone words
command_by name.Cancel adjust now zone words = ended (Change Cancel) words
command_by name.Continue adjust now zone words = continue_in adjust words
command_by name.Track adjust now zone words = track_in adjust now zone words
command_by name.Tag adjust now zone words = tag_in words
command_by name.Untag adjust now zone words = untag_in words
command_by name.Annotate adjust now zone words = annotate_in words
command_by name.Delete adjust now zone words = delete_in words
command_by name.Split adjust now zone words = split_in words
command_by name.Join adjust now zone words = join_in adjust words
command_by name.Move adjust now zone words = move_in adjust now zone words
command_by name.Lengthen adjust now zone words = lengthen_in adjust words
command_by name.Shorten adjust now zone words = shorten_in adjust words
command_by name.Undo adjust now zone words = ended Undo words
command_by name.Export adjust now zone words = export_in now zone words
command_by name.Summary adjust now zone words = summary_in now zone words
command_by (name.Hours report) adjust now zone words = hours_in report now zone words

abbrev pub command_named : Option Name → (now : ℕ) → TimeZone → Words → Result Command BadWord
command_named None now zone words = refused 0 Value
command_named (Some n) now zone words =
    command_by n (places n && adjusts words) now zone (cond (places n) (unadjusted words) words)

-- the command of words; without a word it is to show what is tracked
abbrev pub command_of : List (List ℕ) → (now : ℕ) → TimeZone → Result Command BadWord
command_of [] now zone = Ok (Show Tracked)
command_of (text ∷ texts) now zone = command_named (look_up text names) now zone (words_from 1 texts)

-- ---- what a reader returned

abbrev pub Refuses : {X : Type 0} → WordsError → Result X BadWord → Type 0
Refuses (Bad bad) read = read ≡ Err bad
Refuses NoMemory read = Unit {0}

-- it was read so, unless memory ran out
abbrev pub Gives : {X Y : Type 0} → (X → Y) → Result X WordsError → Result Y BadWord → Type 0
Gives view (Ok x) read = read ≡ Ok (view x)
Gives view (Err e) read = Refuses e read
