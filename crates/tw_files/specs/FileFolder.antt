-- A folder of the system. It tells nothing of its content.
use Rattle.std.specs.Prelude.{ℕ, List, false}
use Rattle.std.specs.String.{string_bytes}
use Rattle.std.specs.FinMap.{empty}
use Rattle.tw_world.specs.Folder.{FolderModel}
use Rattle.tw_files.specs.declared.file_folder.FileFolder.{FileFolder}
use Rattle.tw_files.specs.declared.failing_folder.FailingFolder.{FailingFolder}

abbrev pub folder_model : {S : Type 0} {p : _} → FolderModel (FileFolder S p)
folder_model = record { faults = λ d. d.faults; tells = λ d. false; seen = λ d. empty; leaves = λ d c. ⊥; moment = λ d. 0; left_since = λ d t c. ⊥ }

abbrev pub failing_folder_model : FolderModel FailingFolder
failing_folder_model = record { faults = λ d. d.faults; tells = λ d. false; seen = λ d. empty; leaves = λ d c. ⊥; moment = λ d. 0; left_since = λ d t c. ⊥ }

-- the system of a folder
abbrev pub folder_system : {S : Type 0} {p : _} → FileFolder S p → S
folder_system folder = folder.system

-- its path
abbrev pub folder_path : {S : Type 0} {p : _} → FileFolder S p → List ℕ
folder_path folder = string_bytes folder.path
