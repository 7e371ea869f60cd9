-- The folder of the working hours: timew(1).
use Rattle.std.specs.Prelude.{ℕ, List, ◌++◌, codes, Option, Some, None}

-- the folder that a variable names, else one in the home folder, else one in the folder of the run
abbrev pub timew_folder : Option (List ℕ) → Option (List ℕ) → List ℕ
timew_folder (Some named) home = named
timew_folder None (Some home) = home ++ codes "/.timewarrior"
timew_folder None None = codes ".timewarrior"
