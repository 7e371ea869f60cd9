-- The changes to which records lead.
use Rattle.std.specs.Prelude.{◌≡◌, Bool, ◌&&◌, cond, List, [], ◌∷◌, map, Option, Some, None, ℕ}
use lib.Pointwise.{pointwise}
use Rattle.tw_world.specs.Folder.{same_bytes}
use Rattle.timew_month.specs.Body.{FileChange, Step, step_of, ◌>>=◌}
use Rattle.timew_month.specs.Body.Step.{Change, Undo}

pub record History : Type 0 where
  -- the changes that are not undone, the last one first
  pub undoable : List (List FileChange)
  -- what the last record has done to the month files
  pub last : List FileChange

abbrev pub start : History
start = record { undoable = []; last = [] }

abbrev pub exchanged_file : FileChange → FileChange
exchanged_file f = record { name = f.name; old = f.new; new = f.old }

-- old and new exchanged
abbrev pub exchanged : List FileChange → List FileChange
exchanged files = map exchanged_file files

abbrev pub same_file : FileChange → FileChange → Bool
same_file f g = same_bytes f.name g.name && same_bytes f.old g.old && same_bytes f.new g.new

abbrev pub same_files : List FileChange → List FileChange → Bool
same_files = pointwise same_file

abbrev pub with_change : List FileChange → History → History
with_change files h = record { undoable = files ∷ h.undoable; last = files }

-- an undo takes back the last change that is not undone, and nothing else
abbrev pub undone : List FileChange → List (List FileChange) → Option History
undone files [] = None
undone files (change ∷ earlier) = cond (same_files files (exchanged change)) (Some (record { undoable = earlier; last = files })) None

abbrev pub applied : History → Step → Option History
applied h (Change files) = Some (with_change files h)
applied h (Undo files) = undone files h.undoable

-- the history after the step of a body
abbrev pub stepped : History → List ℕ → Option History
stepped h body = step_of body >>= applied h

abbrev pub replayed : History → List (List ℕ) → Option History
replayed h [] = Some h
replayed h (body ∷ bodies) = stepped h body >>= λ next. replayed next bodies

-- the history that records with these bodies lead to
abbrev pub Stands : List (List ℕ) → History → Type 0
Stands bodies h = replayed start bodies ≡ Some h
