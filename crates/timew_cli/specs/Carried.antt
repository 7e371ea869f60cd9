-- What a command does to the intervals that a folder and a journal hold.
use Rattle.std.specs.Prelude.{ℕ, List, [], length, Option, Some, None, Result, Ok, Err}
use Rattle.tw_time.specs.Moments.{TimeZone}
use Rattle.timew_interval.specs.declared.interval.Interval.{Interval}
use Rattle.timew_store.specs.Held.{Held}
use Rattle.timew_month.specs.Changes.{changes_to}
use Rattle.timew_month.specs.Rows.{rows_of}
use Rattle.timew_store.specs.Store.{changed, change_bodies}
use Rattle.timew_store.specs.StoreUndo.{undo_bodies}
use Rattle.timew_store.specs.Undo.{NoUndo, undone_held}
use Rattle.timew_words.specs.declared.command.Command.{Command}
use Rattle.timew_words.specs.declared.command.Command.TheVariants.{Change, Undo, Show}
use Rattle.timew_words.specs.declared.command.Showing.{Showing}
use Rattle.timew_words.specs.declared.command.Showing.TheVariants.{Tracked, Export, Summary, Hours}
use Rattle.timew_cmd.specs.declared.error.TimewError.{TimewError}
use Rattle.timew_cmd.specs.Planned.{planned}
use Rattle.timew_words.specs.Ranges.{bounds}
use Rattle.timew_cmd.specs.Texts.{stored}
use Rattle.timew_cmd.specs.Commands.Export.{export}
use Rattle.timew_cmd.specs.Commands.Show.{tracking}
use Rattle.timew_cmd.specs.Commands.Summary.{summary}
use Rattle.timew_report.specs.Bounds.{hours_of}
use Rattle.timew_report.specs.Texts.{time_text}
use Rattle.timew_cli.specs.Cause.{plan_cause, no_undo_cause}
use Rattle.timew_cli.specs.declared.cause.Cause.{Cause}
use Rattle.timew_cli.specs.declared.cause.Cause.TheVariants.{NotTracking, BadLine}

-- the state after a command, the bodies of the records that it adds, and what it prints
pub record Carried : Type 0 where
  pub held : Held
  pub adds : List (List ℕ)
  pub text : List ℕ

-- a command that only shows
abbrev pub shows : Held → List ℕ → Carried
shows held text = record { held = held; adds = []; text = text }

abbrev pub shows_any : Held → Option (List ℕ) → Result Carried Cause
shows_any held None = Err NotTracking
shows_any held (Some text) = Ok (shows held text)

-- how many intervals there are
abbrev pub count_of : Result (List Interval) (List ℕ × ℕ) → ℕ
count_of (Ok rows) = length rows
count_of (Err line) = 0

-- the last change is taken back
abbrev pub takes_back : Held → Result Held NoUndo → Result Carried Cause
takes_back held (Err why) = Err (no_undo_cause why)
takes_back held (Ok back) = Ok (record { held = back; adds = undo_bodies held.undoable; text = stored (count_of (rows_of back.files)) })

-- these intervals are to stand in the month files
abbrev pub changes : Held → Result (List Interval) TimewError → Result Carried Cause
changes held (Err e) = Err (plan_cause e)
changes held (Ok next) = Ok (record { held = changed held next; adds = change_bodies (changes_to held.files next); text = stored (length next) })

-- the text of a command that only shows
abbrev pub view_of : Showing → List Interval → (now : ℕ) → TimeZone → Option (List ℕ)
view_of Tracked rows now zone = tracking rows
view_of (Export range) rows now zone = Some (export rows (bounds range now zone).0 (bounds range now zone).1 now)
view_of (Summary range) rows now zone = Some (summary rows (bounds range now zone).0 (bounds range now zone).1 now zone)
view_of (Hours report range) rows now zone = Some (time_text report rows (hours_of range rows now zone).0 (hours_of range rows now zone).1 now zone)

-- what a command does, where the month files hold these intervals
abbrev pub carried_by : Command → Held → List Interval → (now : ℕ) → TimeZone → Result Carried Cause
carried_by (Change command) held rows now zone = changes held (planned command rows now)
carried_by Undo held rows now zone = takes_back held (undone_held held)
carried_by (Show showing) held rows now zone = shows_any held (view_of showing rows now zone)

abbrev pub with_rows : Command → Held → Result (List Interval) (List ℕ × ℕ) → (now : ℕ) → TimeZone → Result Carried Cause
with_rows command held (Err line) now zone = Err (BadLine line.0 line.1)
with_rows command held (Ok rows) now zone = carried_by command held rows now zone

-- what a command does to what is held
abbrev pub carried_out : Command → Held → (now : ℕ) → TimeZone → Result Carried Cause
carried_out command held now zone = with_rows command held (rows_of held.files) now zone
