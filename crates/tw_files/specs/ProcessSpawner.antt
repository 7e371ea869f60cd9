-- Hooks that the system runs. They tell neither names nor runs.
use Rattle.std.specs.Prelude.{◌≡◌, ◌⊎◌, ℕ, List, [], ◌+◌, ◌-◌, ◌^◌, ◌≤◌, ◌++◌, length, codes, false, string_bytes, Option, Some, None}
use Rattle.std.specs.Option.{ForSome}
use Rattle.std.specs.Io.KnownBytes.{Consumes, IsAtEnd}
use Rattle.tw_spawn.specs.Spawner.{SpawnerModel}
use Rattle.tw_files.specs.declared.process_spawner.ProcessSpawner.{ProcessSpawner}

abbrev pub process_model : {S : Type 0} {p : _} → SpawnerModel (ProcessSpawner S p)
process_model = record { faults = λ s. s.faults; tells = λ s. false; names = λ s. []; runs = λ s. [] }

-- the folder of the hooks of a data folder
abbrev pub hooks_folder : List ℕ → List ℕ
hooks_folder folder = folder ++ codes "/hooks"

-- the path of a hook
abbrev pub hook_path : (folder name : List ℕ) → List ℕ
hook_path folder name = folder ++ codes "/hooks/" ++ name

-- the same of the data folder of a spawner
abbrev pub folder_in : {S : Type 0} {p : _} → ProcessSpawner S p → List ℕ
folder_in spawner = hooks_folder (string_bytes spawner.folder)

abbrev pub path_in : {S : Type 0} {p : _} → ProcessSpawner S p → (name : List ℕ) → List ℕ
path_in spawner name = hook_path (string_bytes spawner.folder) name

-- the names of the files of a folder, and none if it is not there
abbrev pub AreFiles : (lists : Option (List (List ℕ)) → Type 0) → (names : List (List ℕ)) → Type 0
AreFiles lists names = lists (Some names) ⊎ (lists None × (names ≡ []))

-- whether an open script is the run of this path over this input
abbrev pub IsRun : Type 0 → Type 1
IsRun P = P → (path input : List ℕ) → Type 0

-- the bytes that an open script is still to write, if they are known
abbrev pub Known : Type 0 → Type 0
Known P = P → Option (List ℕ)

-- bytes were read up to the end of what a script writes
abbrev pub ReadsOn : (old new : Option (List ℕ)) → Type 0
ReadsOn old new = ((ignored : List ℕ) × Consumes old new ignored) × IsAtEnd new

-- All that a script writes was read: it is the output, or begins with it, and then the output has 16,777,217 bytes.
pub record IsRead {P : Type 0} (remaining : Known P) (old new : P) (output : List ℕ) : Type 0 where
  pub filled : P
  pub kept : Consumes (remaining old) (remaining filled) output
  pub whole : IsAtEnd (remaining filled) ⊎ (length output ≡ 16777217)
  pub ignored : ReadsOn (remaining filled) (remaining new)

-- a script is still to write more than can be counted
abbrev pub IsEndless : Option (List ℕ) → Type 0
IsEndless rest = ForSome rest (λ all. 2 ^ 64 - 1 ≤ length all)

-- a script was given up, or writes without end
abbrev pub BringsNoStatus : {P : Type 0} → (is_given_up : P → Type 0) → Known P → Type 0
BringsNoStatus {P = P} is_given_up remaining = (script : P) × (is_given_up script ⊎ IsEndless (remaining script))

-- why the output of a script was not read: a call has failed, or some script writes without end
abbrev pub IsUnread : {P : Type 0} → (has_failed : P → Type 0) → Known P → P → Type 0
IsUnread {P = P} has_failed remaining script = has_failed script ⊎ ((begun : P) × IsEndless (remaining begun))

-- a script was started over this input, all that it writes was read, and it ended with this status
pub record RanScript {P : Type 0} (is_run : IsRun P) (remaining : Known P) (ended : P → ℕ → Type 0)
    (path input output : List ℕ) (status : ℕ) : Type 0 where
  pub begun : P
  pub read : P
  pub over : P
  pub started : is_run begun path input
  pub written : IsRead remaining begun read output
  pub status_is : ended over status
