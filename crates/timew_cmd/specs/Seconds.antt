-- What commands make of seconds: which tags and annotation each has.
use Rattle.std.specs.List.{list_any}
use Rattle.std.specs.Prelude.{ℕ, Bool, false, List, [], ◌∷◌, filter, fold, length, Option, Some, None, Ok, cond, if◌then◌else◌, option_map}
use Rattle.std.specs.Prelude.{◌≡◌, ◌+◌, ◌-◌, ◌*◌, max, min, nat_le, not, unwrap_or}
use Rattle.tw_world.specs.Folder.{same_bytes, add_name as add_tag}
use Rattle.tw_time.specs.declared.length.Length.{Length}
use Rattle.timew_interval.specs.Interval.{Content, content, has, at, AreRows}
use Rattle.timew_interval.specs.Placing.{spanning}
use Rattle.timew_interval.specs.declared.interval.Interval.{Interval}
use Rattle.timew_cmd.specs.Commands.Annotate.{as_ids}
use Rattle.timew_cmd.specs.Commands.Join.{joined}
use Rattle.timew_cmd.specs.Commands.Move.{moved_end}
use Rattle.timew_cmd.specs.Labels.{targets}
use Rattle.timew_cmd.specs.Numbers.{numbered, is_among, without, rows_in, row_at}
use Rattle.timew_cmd.specs.Open.{open_of, moment_or}
use Rattle.timew_cmd.specs.Planned.{planned}
use Rattle.timew_words.specs.declared.command.Changing.TheVariants.{Start, Stop, Cancel, Continue, Track, Tag, Untag, Annotate, Delete}
use Rattle.timew_words.specs.declared.command.Changing.TheVariants.{Join, Move, Lengthen, Shorten}
use Rattle.timew_words.specs.declared.command.Annotate.{Annotate as AnnotateParts}
use Rattle.timew_words.specs.declared.command.Continue.{Continue as ContinueParts}
use Rattle.timew_words.specs.declared.command.Join.{Join as JoinParts}
use Rattle.timew_words.specs.declared.command.Move.{Move as MoveParts}
use Rattle.timew_words.specs.declared.command.Resize.{Resize as ResizeParts}
use Rattle.timew_words.specs.declared.command.Start.{Start as StartParts}
use Rattle.timew_words.specs.declared.command.Stop.{Stop as StopParts}
use Rattle.timew_words.specs.declared.command.Tagging.{Tagging as TagParts}
use Rattle.timew_words.specs.declared.command.Track.{Track as TrackParts}

-- the seconds of an interval have what it says, and every other second has what it had
abbrev pub Takes : Interval → (rows next : List Interval) → Type 0
Takes new rows next = (second : ℕ) → at next second ≡ (if has new second then Some (content new) else at rows second)

-- the same, and the seconds of an old interval that the new one does not have are free
abbrev pub Moves : (old new : Interval) → (rows next : List Interval) → Type 0
Moves old new rows next = (second : ℕ) → at next second ≡ (if has new second then Some (content new) else (if has old second then None else at rows second))

-- from a moment on every second has these tags, and every earlier one has what it had
abbrev pub BeginsAt : ℕ → List (List ℕ) → (rows next : List Interval) → Type 0
BeginsAt moment tags rows next =
    (second : ℕ) → at next second ≡ (if nat_le moment second then Some (record { tags = tags; annotation = [] }) else at rows second)

-- from a moment on every second is free, and every earlier one has what it had
abbrev pub EndsAt : ℕ → (rows next : List Interval) → Type 0
EndsAt moment rows next = (second : ℕ) → at next second ≡ (if nat_le moment second then None else at rows second)

-- the number of the interval that has a second
abbrev pub number_at : List Interval → ℕ → Option ℕ
number_at [] second = None
number_at (r ∷ rows) second = cond (has r second) (Some (length rows + 1)) (number_at rows second)

abbrev pub is_one : List ℕ → Option ℕ → Bool
is_one ids None = false
is_one ids (Some n) = is_among ids n

-- the seconds of the intervals of these numbers have what is made of what they had, and every other second has what it had
abbrev pub Changes : List ℕ → (Content → Content) → (rows next : List Interval) → Type 0
Changes ids made rows next =
    (second : ℕ) → at next second ≡ (if is_one ids (number_at rows second) then option_map made (at rows second) else at rows second)

-- the seconds of the intervals of these numbers are free, and every other second has what it had
abbrev pub Frees : List ℕ → (rows next : List Interval) → Type 0
Frees ids rows next = (second : ℕ) → at next second ≡ (if is_one ids (number_at rows second) then None else at rows second)

-- ---- each command

-- `track`: the seconds from the start up to the end have the tags
abbrev pub TrackGivesTags : Type 0
TrackGivesTags = (parts : TrackParts) (rows next : List Interval) (now : ℕ) → planned (Track parts) rows now ≡ Ok next
    → Takes (record { start = parts.start; end = Some parts.end; tags = parts.tags; annotation = [] }) rows next

-- `start`: those from the moment on have the tags
abbrev pub StartGivesTags : Type 0
StartGivesTags = (parts : StartParts) (rows next : List Interval) (now : ℕ)
    → planned (Start parts) rows now ≡ Ok next → BeginsAt (moment_or now parts.moment) parts.tags rows next

-- `continue`: those from now on have the tags of the interval that goes on
abbrev pub ContinueGivesTags : Type 0
ContinueGivesTags = (parts : ContinueParts) (rows next : List Interval) (now : ℕ) (r : Interval) → row_at (unwrap_or parts.id 1) rows ≡ Ok r
    → planned (Continue parts) rows now ≡ Ok next → BeginsAt now r.tags rows next

-- `stop`: those from the moment on are free
abbrev pub StopFrees : Type 0
StopFrees = (parts : StopParts) (rows next : List Interval) (now : ℕ) → AreRows rows
    → planned (Stop parts) rows now ≡ Ok next → EndsAt (moment_or now parts.moment) rows next

-- `cancel`: those from the start of the open interval on are free
abbrev pub CancelFrees : Type 0
CancelFrees = (rows next front : List Interval) (last : Interval) (now : ℕ) → AreRows rows → open_of rows ≡ Some (front, last)
    → planned Cancel rows now ≡ Ok next → EndsAt last.start rows next

-- `tag`: those of the intervals have these tags too, and `untag`: they have them no more
abbrev pub more_tags : List (List ℕ) → Content → Content
more_tags tags c = record { tags = fold (λ had tag. add_tag tag had) c.tags tags; annotation = c.annotation }

abbrev pub fewer_tags : List (List ℕ) → Content → Content
fewer_tags tags c = record { tags = filter (λ tag. not (list_any (same_bytes tag) tags)) c.tags; annotation = c.annotation }

abbrev pub TagAddsTags : Type 0
TagAddsTags = (parts : TagParts) (rows next : List Interval) (now : ℕ) (ids : List ℕ) → targets parts.ids rows ≡ Ok ids
    → planned (Tag parts) rows now ≡ Ok next → Changes ids (more_tags parts.tags) rows next

abbrev pub UntagTakesTags : Type 0
UntagTakesTags = (parts : TagParts) (rows next : List Interval) (now : ℕ) (ids : List ℕ) → targets parts.ids rows ≡ Ok ids
    → planned (Untag parts) rows now ≡ Ok next → Changes ids (fewer_tags parts.tags) rows next

-- `annotate`: those of the interval have the text, and the tags that they had
abbrev pub AnnotateSetsText : Type 0
AnnotateSetsText = (parts : AnnotateParts) (rows next : List Interval) (now : ℕ) (ids : List ℕ) → targets (as_ids parts.id) rows ≡ Ok ids
    → planned (Annotate parts) rows now ≡ Ok next → Changes ids (λ c. record { tags = c.tags; annotation = parts.text }) rows next

-- `delete`: those of the intervals are free
abbrev pub DeleteFrees : Type 0
DeleteFrees = (ids : List ℕ) (rows next : List Interval) (now : ℕ) → AreRows rows → planned (Delete ids) rows now ≡ Ok next → Frees ids rows next

-- `move`: the interval has other seconds, as many as before
abbrev pub MoveMoves : Type 0
MoveMoves = (parts : MoveParts) (rows next : List Interval) (now : ℕ) (r : Interval) → AreRows rows → row_at parts.id rows ≡ Ok r
    → planned (Move parts) rows now ≡ Ok next → Moves r (spanning parts.start (moved_end parts.start r.start r.end) r) rows next

abbrev pub seconds_in : Length → ℕ
seconds_in length = length.seconds + length.days * 86400

-- `lengthen`: it has so many seconds more, and `shorten`: so many less
abbrev pub LengthenMoves : Type 0
LengthenMoves = (parts : ResizeParts) (rows next : List Interval) (now end : ℕ) (r : Interval) → AreRows rows → row_at parts.id rows ≡ Ok r → r.end ≡ Some end
    → planned (Lengthen parts) rows now ≡ Ok next → Moves r (spanning r.start (Some (end + seconds_in parts.length)) r) rows next

abbrev pub ShortenMoves : Type 0
ShortenMoves = (parts : ResizeParts) (rows next : List Interval) (now end : ℕ) (r : Interval) → AreRows rows → row_at parts.id rows ≡ Ok r → r.end ≡ Some end
    → planned (Shorten parts) rows now ≡ Ok next → Moves r (spanning r.start (Some (end - seconds_in parts.length)) r) rows next

-- `join`: those from the earlier start to the later end have both tag sets, and all others what the other intervals say
abbrev pub JoinTakes : Type 0
JoinTakes = (parts : JoinParts) (rows next : List Interval) (now : ℕ) (earlier later : Interval)
    → row_at (max parts.first parts.second) rows ≡ Ok earlier → row_at (min parts.first parts.second) rows ≡ Ok later
    → planned (Join parts) rows now ≡ Ok next → Takes (joined earlier later) (rows_in (without (parts.first ∷ parts.second ∷ []) (numbered rows))) next
