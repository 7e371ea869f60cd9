-- What an undo makes of the month files.
use Rattle.std.specs.Prelude.{ℕ, cond, List, [], ◌∷◌, Option, Some, None, Result, Ok, Err}
use Rattle.tw_world.specs.Folder.{Files, same_bytes}
use Rattle.timew_month.specs.Body.{FileChange}
use Rattle.timew_store.specs.History.{exchanged}
use Rattle.timew_store.specs.Held.{Held}
use Rattle.timew_month.specs.Files.{bytes_of, replaced}
use Rattle.timew_month.specs.Rows.{rows_of}
use Rattle.timew_interval.specs.declared.interval.Interval.{Interval}

-- why there is no undo
pub data NoUndo : Type 0 where
  Nothing : NoUndo
  EditedFile : List ℕ → NoUndo
  Bad : List ℕ × ℕ → NoUndo

-- the first file of a change that does not have the bytes that the change left
abbrev pub first_edited : Files → List FileChange → Option (List ℕ)
first_edited files [] = None
first_edited files (f ∷ changes) = cond (same_bytes (bytes_of files f.name) f.new) (first_edited files changes) (Some f.name)

-- the state with the old bytes put back
abbrev pub taken_back : Held → List FileChange → List (List FileChange) → Held
taken_back held change earlier = record { files = replaced held.files (exchanged change); undoable = earlier }

abbrev pub unless_unread : Held → Result (List Interval) (List ℕ × ℕ) → Result Held NoUndo
unless_unread back (Err spot) = Err (Bad spot)
unless_unread back (Ok rows) = Ok back

abbrev pub unless_edited : Held → Option (List ℕ) → Result Held NoUndo
unless_edited back (Some name) = Err (EditedFile name)
unless_edited back None = unless_unread back (rows_of back.files)

abbrev pub before_last : Held → List (List FileChange) → Result Held NoUndo
before_last held [] = Err Nothing
before_last held (change ∷ earlier) = unless_edited (taken_back held change earlier) (first_edited held.files change)

-- the state before the last change that is not undone
abbrev pub undone_held : Held → Result Held NoUndo
undone_held held = before_last held held.undoable
