-- Month files by their names, and changes of them.
use Rattle.std.specs.Prelude.{ℕ, List, [], ◌∷◌, unwrap_or}
use Rattle.std.specs.FinMap.{get, insert}
use Rattle.tw_world.specs.Folder.{Files}
use Rattle.timew_month.specs.Body.{FileChange}

-- the bytes of a file; one that is not there has none
abbrev pub bytes_of : Files → List ℕ → List ℕ
bytes_of files name = unwrap_or (get files name) []

abbrev pub with_new : Files → FileChange → Files
with_new files f = insert files f.name f.new

-- the files after a change
abbrev pub replaced : Files → List FileChange → Files
replaced files [] = files
replaced files (f ∷ changes) = replaced (with_new files f) changes
